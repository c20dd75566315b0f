use Rattle.std.proofs.Common.{◌≡◌, ◌∙◌, ◌+◌, get_or, ap, sym, Some, ℤ, pos, arith, w64}
use Rattle.std.proofs.lemmas.Int.{to_z_pos}
use Rattle.tmpl_values.specs.Value.{number}
use Rattle.tmpl_values.specs.View.{value_of, val_of}
use Rattle.tmpl_values.proofs.ElementLemmas.{indexed-of, indexed-past}
use Rattle.tmpl_values.proofs.value.list_item.Goals as goal

pub returns-then-i-items-clause-value : goal.returns-then-i-items-clause-value
returns-then-i-items-clause-value c =
    let place = to_z_pos w64 c.args.i (omega arith) in
    let from_0 : 0 + c.args.i ≡ c.args.i = omega arith in
    ap (λ (z : ℤ). Some (number z, val_of c.of.result)) place ∙
    ap (λ v. Some (number (pos c.args.i), v)) (c.of.ensures.value ∙ ap value_of c.index-items-i.is) ∙
    ap (λ k. Some (number (pos k), value_of (get_or c.args.items.now c.args.i c.index-items-i.result))) (sym from_0) ∙
    sym (indexed-of 0 c.args.i c.args.items.now c.index-items-i.result c.if-i-items.true)

pub returns-else-i-items-clause-value : goal.returns-else-i-items-clause-value
returns-else-i-items-clause-value c = sym (indexed-past 0 c.args.i c.args.items.now c.if-i-items.false)
