use Rattle.std.proofs.Common.{◌≡◌, ◌∙◌, ap, sym, [], ◌++◌, ◌∷◌, Ok, string_bytes, arith}
use Rattle.std.proofs.lemmas.List.{drop_all}
use Rattle.std.specs.Vec.Iter.{into_iter_items}
use Rattle.tmpl_values.proofs.RestLemmas.{if_whole, tree_items-step, tree_items-end, tree_entries-step, tree_entries-end}
use Rattle.tmpl_values.proofs.RisingLemmas.{AreRising-sorted}
use Rattle.tmpl_values.proofs.from_json.+data.Goals as goal

pub list_of-loop-item-preserved : goal.list_of-loop-item-preserved
list_of-loop-item-preserved t c =
    tree_items-step _ _ _ _ _ c.in-Some.item c.in_ok-data_of.field-0 c.loop-item.invariant c.in-Some.ensures.steps.0
    c.in_ok-data_of.ensures c.in_ok-push.ensures.items

pub list_of-returns : goal.list_of-returns
list_of-returns t c =
    let past : into_iter_items c.loop-item.item-iterator ≡ [] =
    let none_left = c.in-None.ensures.steps.0 in
    let counted = c.loop-item.item-iterator.rest.ok.0 in
    drop_all 0 (into_iter_items c.loop-item.item-iterator) (omega (arith, none_left, counted)) in
    ap if_whole (tree_items-end _ _ _ c.loop-item.invariant past) ∙ ap Ok (sym c.new.ensures)

pub table_of-loop-key-preserved : goal.table_of-loop-key-preserved
table_of-loop-key-preserved t c =
    let named : c.new.result ≡ string_bytes c.in-Some.key = c.new.ensures ∙ ap (λ v. v.items) c.into_bytes.ensures.value in
    tree_entries-step _ _ _ _ _ c.in-Some.key c.in-Some.member c.in_ok-data_of.field-0 c.loop-key.invariant c.in-Some.ensures.steps
    c.in_ok-data_of.ensures (c.in_ok-push.ensures.items ∙ ap (λ k. c.loop-key.converted.items ++ (k, c.in_ok-data_of.field-0) ∷ []) named)

pub table_of-new-requires-2 : goal.table_of-new-requires-2
table_of-new-requires-2 t c =
    AreRising-sorted c.args.members.entries _ c.len.ensures.ordered
    (tree_entries-end _ _ _ c.loop-key.invariant c.in-None.ensures.steps.0)

pub table_of-returns : goal.table_of-returns
table_of-returns t c =
    ap if_whole (tree_entries-end _ _ _ c.loop-key.invariant c.in-None.ensures.steps.0) ∙ ap Ok (sym c.new-2.ensures)
