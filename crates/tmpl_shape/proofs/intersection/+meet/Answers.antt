use Rattle.std.proofs.Common.{◌≡◌, ◌∙◌, ◌-◌, ap, sym}
use Rattle.tmpl_shape.specs.Shape.{Shape}
use Rattle.tmpl_shape.specs.View.{fields_of, shape_of}
use Rattle.tmpl_shape.specs.computed.Meet.{each_part, meet, meet_one, or_shape, with_met}
use Rattle.tmpl_shape.specs.computed.Shapes.{gathered, onto}
use Rattle.tmpl_shape.proofs.LeafLemmas.{is-end}
use Rattle.tmpl_shape.proofs.MeetLemmas.{each-ends, meet-next, met-ends}
use Rattle.tmpl_shape.proofs.intersection.+meet.Goals as goal

pub meet-returns : goal.meet-returns
meet-returns t c =
    let n = c.args.steps - 1 in
    let one = shape_of c.args.one.now in
    let other = shape_of c.args.other.now in
    let f = λ (a : Shape). meet n a other in
    let g = λ (a : Shape). each_part (meet n a) (meet_one (meet n) a) other in
    let back = gathered or_shape (shape_of c.loop-rest.back) in
    let all : meet c.args.steps one other ≡ back (shape_of c.in_ok-last.last) =
    meet-next c.args.steps one other c.if-steps-eq0.false ∙ sym c.loop-rest.invariant
    ∙ ap back (each-ends f g c.loop-rest.rest.now c.in_default.not-Either ∙ sym c.in_ok-last.ensures) in
    c.in_ok-or_all.ensures ∙ sym all

pub meet_each-returns : goal.meet_each-returns
meet_each-returns t c =
    let one = shape_of c.args.one.now in
    let f = meet c.args.steps one in
    let g = meet_one (meet c.args.steps) one in
    let back = gathered or_shape (shape_of c.loop-rest.back) in
    let all : each_part f g (shape_of c.args.other.now) ≡ back (shape_of c.in_ok-last.last) =
    sym c.loop-rest.invariant ∙ ap back (each-ends f g c.loop-rest.rest.now c.in_default.not-Either ∙ sym c.in_ok-last.ensures) in
    c.in_ok-or_all.ensures ∙ sym all

pub with_met-returns : goal.with_met-returns
with_met-returns t c =
    let m = meet c.args.steps in
    let gs = fields_of c.args.others.now in
    let rest = fields_of c.args.rest in
    let back = onto (fields_of c.loop-left.back) in
    let left = c.loop-left.left.now in
    let all : with_met m gs (fields_of c.args.fields.now) rest ≡ back rest =
    c.loop-left.invariant ∙ ap back (met-ends m gs (fields_of left) rest (is-end left c.in_default.not-Field)) in
    c.in_ok-fields_of_all.ensures ∙ sym all
