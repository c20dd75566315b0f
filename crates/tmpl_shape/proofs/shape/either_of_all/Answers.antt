use Rattle.std.proofs.Common.{◌∙◌, sym}
use Rattle.tmpl_shape.specs.Shape.{either}
use Rattle.tmpl_shape.specs.View.{shape_of}
use Rattle.tmpl_shape.proofs.LeafLemmas.{gathered-ends}
use Rattle.tmpl_shape.proofs.shape.either_of_all.Goals as goal

pub returns-in_default : goal.returns-in_default
returns-in_default c = sym (c.loop-back.invariant ∙ gathered-ends either c.loop-back.back (shape_of c.loop-back.all) c.in_default.not-Either)
