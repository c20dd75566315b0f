use Rattle.std.proofs.Common.{◌≡◌}
use Rattle.tmpl_shape.specs.View.{shape_of}
use Rattle.tmpl_shape.specs.computed.Shapes.{gathered, join}
use Rattle.tmpl_shape.specs.computed.View.{base_of}
use Rattle.tmpl_shape.proofs.field.join_with_all.Given as goal

abbrev pub invariant-loop-back : goal.invariant-loop-back
invariant-loop-back l =
    gathered (join (base_of l.base)) (shape_of l.fn.back) (shape_of l.fn.last) ≡ gathered (join (base_of l.base)) (shape_of l.back) (shape_of l.all)
