use Rattle.std.proofs.Common.{◌≡◌, ◌+◌, ◌*◌}
use Rattle.tmpl_shape.specs.Shape.{Shape}
use Rattle.tmpl_shape.specs.View.{fields_of, shape_of}
use Rattle.tmpl_shape.specs.computed.Meet.{each_part, meet, meet_one, or_shape, with_met}
use Rattle.tmpl_shape.specs.computed.Shapes.{gathered, onto}
use Rattle.tmpl_shape.proofs.StepLemmas.{spine}
use Rattle.tmpl_shape.proofs.ViewLemmas.{count}
use Rattle.tmpl_shape.proofs.intersection.+meet.Given as goal

abbrev pub decreases-meet : goal.decreases-meet
decreases-meet l = 10 * l.steps + 0

abbrev pub decreases-meet_each : goal.decreases-meet_each
decreases-meet_each l = 10 * l.steps + 6

abbrev pub decreases-meet_one : goal.decreases-meet_one
decreases-meet_one l = 10 * l.steps + 5

abbrev pub decreases-meet_forms : goal.decreases-meet_forms
decreases-meet_forms l = 10 * l.steps + 4

abbrev pub decreases-meet_fields : goal.decreases-meet_fields
decreases-meet_fields l = 10 * l.steps + 3

abbrev pub decreases-meet_rest : goal.decreases-meet_rest
decreases-meet_rest l = 10 * l.steps + 2

abbrev pub decreases-with_met : goal.decreases-with_met
decreases-with_met l = 10 * l.steps + 2

abbrev pub invariant-meet-loop-rest : goal.invariant-meet-loop-rest
invariant-meet-loop-rest l =
    let f = λ (a : Shape). meet l.fewer a (shape_of l.other) in
    let g = λ (a : Shape). each_part (meet l.fewer a) (meet_one (meet l.fewer) a) (shape_of l.other) in
    gathered or_shape (shape_of l.back) (each_part f g (shape_of l.rest)) ≡ each_part f g (shape_of l.one)

abbrev pub decreases-meet-loop-rest : goal.decreases-meet-loop-rest
decreases-meet-loop-rest l = spine (shape_of l.rest)

abbrev pub invariant-meet_each-loop-rest : goal.invariant-meet_each-loop-rest
invariant-meet_each-loop-rest l =
    let f = meet l.steps (shape_of l.one) in
    let g = meet_one (meet l.steps) (shape_of l.one) in
    gathered or_shape (shape_of l.back) (each_part f g (shape_of l.rest)) ≡ each_part f g (shape_of l.other)

abbrev pub decreases-meet_each-loop-rest : goal.decreases-meet_each-loop-rest
decreases-meet_each-loop-rest l = spine (shape_of l.rest)

abbrev pub invariant-with_met-loop-left : goal.invariant-with_met-loop-left
invariant-with_met-loop-left l =
    let m = meet l.steps in
    with_met m (fields_of l.others) (fields_of l.fields) (fields_of l.rest) ≡ onto (fields_of l.back) (with_met m (fields_of l.others) (fields_of l.left) (fields_of l.rest))

abbrev pub decreases-with_met-loop-left : goal.decreases-with_met-loop-left
decreases-with_met-loop-left l = count (fields_of l.left)
