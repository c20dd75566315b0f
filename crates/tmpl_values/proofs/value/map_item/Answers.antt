use Rattle.std.proofs.Common.{◌∙◌, ap, sym, Some, List, ℕ, get_or}
use Rattle.tmpl_values.specs.declared.data.Data.{Data}
use Rattle.tmpl_values.specs.Value.{string}
use Rattle.tmpl_values.specs.View.{value_of, val_of}
use Rattle.tmpl_values.proofs.ElementLemmas.{elements_of_entries-of, elements_of_entries-past}
use Rattle.tmpl_values.proofs.value.map_item.Goals as goal

pub returns-then-i-entries-clause-value : goal.returns-then-i-entries-clause-value
returns-then-i-entries-clause-value c =
    let entry = c.index-entries-i in
    ap (λ s. Some (string s, val_of c.of.result)) (c.as_slice.ensures ∙ ap (λ (e : List ℕ × Data). e.0) entry.is) ∙
    ap (λ v. Some (string (get_or c.args.entries.now c.args.i entry.result).0, v)) (c.of.ensures.value ∙ ap (λ (e : List ℕ × Data). value_of e.1) entry.is) ∙
    sym (elements_of_entries-of c.args.i c.args.entries.now entry.result c.if-i-entries.true)

pub returns-else-i-entries-clause-value : goal.returns-else-i-entries-clause-value
returns-else-i-entries-clause-value c = sym (elements_of_entries-past c.args.i c.args.entries.now c.if-i-entries.false)
