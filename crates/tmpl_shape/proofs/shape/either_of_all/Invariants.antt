use Rattle.std.proofs.Common.{◌≡◌}
use Rattle.tmpl_shape.specs.Shape.{either}
use Rattle.tmpl_shape.specs.View.{shape_of}
use Rattle.tmpl_shape.specs.computed.Shapes.{gathered}
use Rattle.tmpl_shape.proofs.shape.either_of_all.Given as goal

abbrev pub invariant-loop-back : goal.invariant-loop-back
invariant-loop-back l = gathered either (shape_of l.fn.back) (shape_of l.fn.last) ≡ gathered either (shape_of l.back) (shape_of l.all)
