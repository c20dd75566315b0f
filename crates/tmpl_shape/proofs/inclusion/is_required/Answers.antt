use Rattle.std.proofs.Common.{◌∙◌, sym}
use Rattle.tmpl_shape.specs.View.{fields_of}
use Rattle.tmpl_shape.proofs.LeafLemmas.{is-end}
use Rattle.tmpl_shape.proofs.StepLemmas.{none-required}
use Rattle.tmpl_shape.proofs.inclusion.is_required.Goals as goal

pub returns : goal.returns
returns c =
    let ends = none-required c.args.name.now (fields_of c.loop-rest.rest.now) (is-end c.loop-rest.rest.now c.in_default.not-Field) in
    sym (c.loop-rest.invariant ∙ ends)
