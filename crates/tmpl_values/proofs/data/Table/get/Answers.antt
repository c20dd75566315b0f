use Rattle.std.proofs.Common.{◌∙◌, ap, sym, subst, rules}
use Rattle.std.specs.Ordering.{nat_cmp}
use Rattle.std.specs.Cmp.Lexicographic.{slice_cmp}
use Rattle.std.proofs.lemmas.Fn.{always_returns_same}
use Rattle.tmpl_values.specs.Value.{AreRising}
use Rattle.tmpl_values.specs.Field.{entry_at}
use Rattle.tmpl_values.proofs.KeyLemmas.{entry_at-there, entry_at-not_found}
use Rattle.tmpl_values.proofs.data.Table.get.Goals as goal

pub returns-in-Ok : goal.returns-in-Ok
returns-in-Ok c =
    let rising = subst AreRising (sym c.as_slice-entries.ensures.same) c.as_slice-entries.ensures.rising in
    let there = c.in-Ok.ensures.position (λ e. slice_cmp nat_cmp e.0 c.args.key.now) (always_returns_same _ _ _ (λ a r f called. search rules)) in
    ap (entry_at c.args.key.now) (sym c.as_slice-entries.ensures.same) ∙
    entry_at-there c.args.key.now c.as_slice-entries.result.now c.in-Ok.place c.index-entries-place.result rising c.in-Ok.ensures.bound
    (there c.index-entries-place.result)

pub returns-in-Err : goal.returns-in-Err
returns-in-Err c =
    let rising = subst AreRising (sym c.as_slice-entries.ensures.same) c.as_slice-entries.ensures.rising in
    let nowhere = c.in-Err.ensures.position (λ e. slice_cmp nat_cmp e.0 c.args.key.now) (always_returns_same _ _ _ (λ a r f called. search rules)) in
    ap (entry_at c.args.key.now) (sym c.as_slice-entries.ensures.same) ∙
    entry_at-not_found c.args.key.now c.as_slice-entries.result.now _ rising nowhere
