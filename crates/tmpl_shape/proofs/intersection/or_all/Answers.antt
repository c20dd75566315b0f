use Rattle.std.proofs.Common.{◌∙◌, sym}
use Rattle.tmpl_shape.specs.View.{shape_of}
use Rattle.tmpl_shape.specs.computed.Meet.{or_shape}
use Rattle.tmpl_shape.proofs.LeafLemmas.{gathered-ends}
use Rattle.tmpl_shape.proofs.intersection.or_all.Goals as goal

pub returns-in_default : goal.returns-in_default
returns-in_default c = sym (c.loop-back.invariant ∙ gathered-ends or_shape c.loop-back.back (shape_of c.loop-back.all) c.in_default.not-Either)
