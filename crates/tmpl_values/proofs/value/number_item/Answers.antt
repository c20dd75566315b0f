use Rattle.std.proofs.Common.{◌∙◌, ◌<◌, ◌≤◌, ap, sym, Some, ℤ, pos, arith, subst, w64}
use Rattle.std.specs.Int.{int_gap}
use Rattle.std.proofs.lemmas.Int.{to_z_pos, to_z-of_z}
use Rattle.std.proofs.lemmas.Option.{slice_get_past}
use Rattle.tmpl_values.specs.Value.{number}
use Rattle.tmpl_values.proofs.ElementLemmas.{numbers_below, numbers-of, length-numbers}
use Rattle.tmpl_values.proofs.value.number_item.Goals as goal

pub returns-then-i-count_below-clause-value : goal.returns-then-i-count_below-clause-value
returns-then-i-count_below-clause-value c =
    let place = to_z_pos w64 c.args.i (omega (arith, c.if-i-count_below.true, c.count_below.ensures.fits)) in
    let count = c.count_below.ensures.value ∙ ap (int_gap (pos 0)) (to_z-of_z w64 c.args.n c.ranges.n) ∙ sym (length-numbers c.args.n) in
    let below = subst (λ n. c.args.i < n) count c.if-i-count_below.true in
    ap (λ (z : ℤ). Some (number z, number z)) place ∙ sym (numbers-of c.args.n c.args.i below)

pub returns-else-i-count_below-clause-value : goal.returns-else-i-count_below-clause-value
returns-else-i-count_below-clause-value c =
    let count = c.count_below.ensures.value ∙ ap (int_gap (pos 0)) (to_z-of_z w64 c.args.n c.ranges.n) ∙ sym (length-numbers c.args.n) in
    let past = subst (λ n. n ≤ c.args.i) count c.if-i-count_below.false in
    sym (slice_get_past (numbers_below c.args.n) c.args.i past)
