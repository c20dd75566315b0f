use Rattle.std.proofs.Common.{◌≡◌}
use Rattle.tmpl_shape.specs.View.{shape_of}
use Rattle.tmpl_shape.specs.computed.Meet.{or_shape}
use Rattle.tmpl_shape.specs.computed.Shapes.{gathered}
use Rattle.tmpl_shape.proofs.intersection.or_all.Given as goal

abbrev pub invariant-loop-back : goal.invariant-loop-back
invariant-loop-back l = gathered or_shape (shape_of l.fn.back) (shape_of l.fn.last) ≡ gathered or_shape (shape_of l.back) (shape_of l.all)
