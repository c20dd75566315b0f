use Rattle.std.proofs.Common.{◌≡◌, ◌≤◌, ◌+◌, ◌*◌}
use Rattle.tmpl_shape.specs.View.{shape_of}
use Rattle.tmpl_shape.specs.computed.Shapes.{gathered}
use Rattle.tmpl_shape.specs.computed.Meet.{or_shape}
use Rattle.tmpl_shape.proofs.StepLemmas.{spine}
use Rattle.tmpl_shape.proofs.ViewLemmas.{amount}
use Rattle.tmpl_json_schema.specs.computed.Reading.{keep_kinds}
use Rattle.tmpl_json_schema.proofs.shapes.+keep.Given as goal

abbrev pub decreases-keep_kinds : goal.decreases-keep_kinds
decreases-keep_kinds l = 2 * amount (shape_of l.shape)

abbrev pub decreases-keep_either : goal.decreases-keep_either
decreases-keep_either l = 2 * (amount (shape_of l.one) + amount (shape_of l.other)) + 1

abbrev pub invariant-keep_either-loop-rest : goal.invariant-keep_either-loop-rest
invariant-keep_either-loop-rest l =
    (gathered or_shape (shape_of l.back) (keep_kinds l.kinds (shape_of l.rest)) ≡ or_shape (keep_kinds l.kinds (shape_of l.fn.one)) (keep_kinds l.kinds (shape_of l.fn.other)))
    × (amount (shape_of l.rest) ≤ amount (shape_of l.fn.other))

abbrev pub decreases-keep_either-loop-rest : goal.decreases-keep_either-loop-rest
decreases-keep_either-loop-rest l = spine (shape_of l.rest)
