use Rattle.std.proofs.Common.{◌∙◌, sym}
use Rattle.tmpl_shape.specs.View.{fields_of}
use Rattle.tmpl_shape.proofs.LeafLemmas.{is-end}
use Rattle.tmpl_shape.proofs.StepLemmas.{none-listed}
use Rattle.tmpl_shape.proofs.inclusion.is_listed.Goals as goal

pub returns : goal.returns
returns c =
    let ends = none-listed c.args.name.now (fields_of c.loop-rest.rest.now) (is-end c.loop-rest.rest.now c.in_default.not-Field) in
    sym (c.loop-rest.invariant ∙ ends)
