use Rattle.std.proofs.Common.{◌∙◌, sym}
use Rattle.tmpl_shape.specs.View.{shape_of}
use Rattle.tmpl_shape.specs.computed.Shapes.{join}
use Rattle.tmpl_shape.specs.computed.View.{base_of}
use Rattle.tmpl_shape.proofs.LeafLemmas.{gathered-ends}
use Rattle.tmpl_shape.proofs.field.join_with_all.Goals as goal

pub returns-in_default : goal.returns-in_default
returns-in_default c =
    sym (c.loop-back.invariant ∙ gathered-ends (join (base_of c.args.base.now)) c.loop-back.back (shape_of c.loop-back.all) c.in_default.not-Either)
