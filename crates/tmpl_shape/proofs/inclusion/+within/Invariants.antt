use Rattle.std.proofs.Common.{◌≡◌, ◌+◌, ◌*◌}
use Rattle.tmpl_shape.specs.View.{fields_of, shape_of}
use Rattle.tmpl_shape.specs.computed.Shapes.{fields_along, fields_within, others_within, plain_within, some_along, some_part, within_by}
use Rattle.tmpl_shape.specs.computed.View.{base_of}
use Rattle.tmpl_shape.proofs.StepLemmas.{spine, within_along}
use Rattle.tmpl_shape.proofs.ViewLemmas.{count}
use Rattle.tmpl_shape.proofs.inclusion.+within.Given as goal

abbrev pub decreases-within_by : goal.decreases-within_by
decreases-within_by l = 100 * l.steps + 0

abbrev pub decreases-name_within : goal.decreases-name_within
decreases-name_within l = 100 * l.steps + 30

abbrev pub decreases-plain_within : goal.decreases-plain_within
decreases-plain_within l = 100 * l.steps + 8

abbrev pub decreases-fields_along : goal.decreases-fields_along
decreases-fields_along l = 100 * l.steps + 6

abbrev pub decreases-all_fields_within : goal.decreases-all_fields_within
decreases-all_fields_within l = 100 * l.steps + 5

abbrev pub decreases-fields_along-loop-rest : goal.decreases-fields_along-loop-rest
decreases-fields_along-loop-rest l = count (fields_of l.rest)

abbrev pub invariant-fields_along-loop-rest : goal.invariant-fields_along-loop-rest
invariant-fields_along-loop-rest l =
    let w = within_by (base_of l.base) l.names l.steps in
    fields_along w (fields_of l.fields) (fields_of l.others) ≡ fields_along w (fields_of l.rest) (fields_of l.others_rest)

abbrev pub decreases-fields_within : goal.decreases-fields_within
decreases-fields_within l = 100 * l.steps + 4

abbrev pub decreases-others_within : goal.decreases-others_within
decreases-others_within l = 100 * l.steps + 2

abbrev pub decreases-some_part : goal.decreases-some_part
decreases-some_part l = 100 * l.steps + (l.reach + 10)

abbrev pub decreases-fields_within-loop-rest : goal.decreases-fields_within-loop-rest
decreases-fields_within-loop-rest l = count (fields_of l.rest)

abbrev pub decreases-others_within-loop-rest : goal.decreases-others_within-loop-rest
decreases-others_within-loop-rest l = count (fields_of l.rest)

abbrev pub invariant-fields_within-loop-rest : goal.invariant-fields_within-loop-rest
invariant-fields_within-loop-rest l =
    let w = within_by (base_of l.base) l.names l.steps in
    fields_within w (fields_of l.fields) (fields_of l.fields) (fields_of l.others) ≡ fields_within w (fields_of l.fields) (fields_of l.rest) (fields_of l.others)

abbrev pub invariant-others_within-loop-rest : goal.invariant-others_within-loop-rest
invariant-others_within-loop-rest l =
    let p = within_by (base_of l.base) l.names l.steps (shape_of l.shape) in
    others_within p (fields_of l.all) (fields_of l.others) ≡ others_within p (fields_of l.all) (fields_of l.rest)

abbrev pub decreases-within_by-loop-rest : goal.decreases-within_by-loop-rest
decreases-within_by-loop-rest l = spine (shape_of l.rest)

abbrev pub invariant-within_by-loop-rest : goal.invariant-within_by-loop-rest
invariant-within_by-loop-rest l =
    within_along (base_of l.base) l.names l.fewer (shape_of l.other) (shape_of l.one) ≡ within_along (base_of l.base) l.names l.fewer (shape_of l.other) (shape_of l.rest)

abbrev pub decreases-some_part-loop-rest : goal.decreases-some_part-loop-rest
decreases-some_part-loop-rest l = spine (shape_of l.rest)

abbrev pub invariant-some_part-loop-rest : goal.invariant-some_part-loop-rest
invariant-some_part-loop-rest l =
    let base = base_of l.base in
    let p = plain_within (within_by base l.names l.steps) (shape_of l.one) in
    some_along base (some_part base l.fewer p) p (shape_of l.other) ≡ some_along base (some_part base l.fewer p) p (shape_of l.rest)
