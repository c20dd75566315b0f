use Rattle.std.proofs.Common.{◌≡◌, ◌≤◌, ◌+◌, ◌*◌}
use Rattle.tmpl_shape.specs.Shape.{either}
use Rattle.tmpl_shape.specs.View.{fields_of, shape_of}
use Rattle.tmpl_shape.specs.computed.Shapes.{gathered, onto}
use Rattle.tmpl_shape.proofs.ViewLemmas.{amount, amounts, count}
use Rattle.tmpl_shape.proofs.StepLemmas.{spine}
use Rattle.tmpl_shape.proofs.shape.+copy.Given as goal

abbrev pub decreases-copy_shape : goal.decreases-copy_shape
decreases-copy_shape l = 2 * amount (shape_of l.shape.now)

abbrev pub decreases-copy_list : goal.decreases-copy_list
decreases-copy_list l = 2 * amount (shape_of l.items.now) + 1

abbrev pub decreases-copy_record : goal.decreases-copy_record
decreases-copy_record l = 2 * amounts (fields_of l.fields.now) + 1

abbrev pub decreases-copy_fields : goal.decreases-copy_fields
decreases-copy_fields l = 2 * amounts (fields_of l.fields.now)

abbrev pub decreases-copy_either : goal.decreases-copy_either
decreases-copy_either l = 2 * (amount (shape_of l.one.now) + amount (shape_of l.other.now)) + 1

abbrev pub invariant-copy_either-loop-rest : goal.invariant-copy_either-loop-rest
invariant-copy_either-loop-rest l =
    (gathered either (shape_of l.back) (shape_of l.rest) ≡ either (shape_of l.one) (shape_of l.other)) × (amount (shape_of l.rest) ≤ amount (shape_of l.other))

abbrev pub decreases-copy_either-loop-rest : goal.decreases-copy_either-loop-rest
decreases-copy_either-loop-rest l = spine (shape_of l.rest)

abbrev pub invariant-copy_fields-loop-rest : goal.invariant-copy_fields-loop-rest
invariant-copy_fields-loop-rest l = (onto (fields_of l.back) (fields_of l.rest) ≡ fields_of l.fields) × (amounts (fields_of l.rest) ≤ amounts (fields_of l.fields))

abbrev pub decreases-copy_fields-loop-rest : goal.decreases-copy_fields-loop-rest
decreases-copy_fields-loop-rest l = count (fields_of l.rest)
