use Rattle.std.proofs.Common.{◌≤◌}
use Rattle.tmpl_shape.specs.View.{fields_of, shape_of}
use Rattle.tmpl_shape.proofs.ViewLemmas.{amount, amounts, count}
use Rattle.tmpl_shape.proofs.StepLemmas.{spine}
use Rattle.tmpl_shape.proofs.shape.+weight.Given as goal

abbrev pub decreases-weight : goal.decreases-weight
decreases-weight l = amount (shape_of l.shape.now)

abbrev pub decreases-weight_of_fields : goal.decreases-weight_of_fields
decreases-weight_of_fields l = amounts (fields_of l.fields.now)

abbrev pub invariant-weight-loop-rest : goal.invariant-weight-loop-rest
invariant-weight-loop-rest l = amount (shape_of l.rest) ≤ amount (shape_of l.shape)

abbrev pub decreases-weight-loop-rest : goal.decreases-weight-loop-rest
decreases-weight-loop-rest l = spine (shape_of l.rest)

abbrev pub invariant-weight_of_fields-loop-rest : goal.invariant-weight_of_fields-loop-rest
invariant-weight_of_fields-loop-rest l = amounts (fields_of l.rest) ≤ amounts (fields_of l.fields)

abbrev pub decreases-weight_of_fields-loop-rest : goal.decreases-weight_of_fields-loop-rest
decreases-weight_of_fields-loop-rest l = count (fields_of l.rest)
