use Rattle.std.proofs.Common.{◌∙◌, ◌∷◌, ◌++◌, sym, ap, rules, arith}
use Rattle.tmpl_values.specs.row.View.{value_of}
use Rattle.tmpl_values.specs.Text.{inner_text}
use Rattle.tmpl_values.proofs.PutLemmas.{IsPut-append, IsPut-stop, IsPut-along}
use Rattle.tmpl_values.proofs.PartedLemmas.{parted, item_text, entry_text, item_texts-map, entry_texts-map, parted-at}
use Rattle.tmpl_values.proofs.PartedLemmas.{parted-next, lead-next, parted-all}
use Rattle.tmpl_values.specs.computed.Weight.{items_weight, entries_weight}
use Rattle.tmpl_values.proofs.WalkLemmas.{size-row, size-table}
use Rattle.tmpl_values.proofs.text.+put.Goals as goal

pub put_items-returns-in_err-put : goal.put_items-returns-in_err-put
put_items-returns-in_err-put g t c = IsPut-stop _ c.from_residual.ensures.0 c.in_err-put.ensures

pub put_items-returns-in_err-put_parted_items : goal.put_items-returns-in_err-put_parted_items
put_items-returns-in_err-put_parted_items g t c = IsPut-append c.in_ok-put.ensures
    (IsPut-stop _ c.from_residual-in_err-put_parted_items.ensures.0 c.in_err-put_parted_items.ensures)

pub put_items-returns : goal.put_items-returns
put_items-returns g t c = IsPut-append c.in_ok-put.ensures (IsPut-append c.in_ok-put_parted_items.ensures c.put-2.ensures)

pub put_entries-returns-in_err-put : goal.put_entries-returns-in_err-put
put_entries-returns-in_err-put g t c = IsPut-stop _ c.from_residual.ensures.0 c.in_err-put.ensures

pub put_entries-returns-in_err-put_parted_entries : goal.put_entries-returns-in_err-put_parted_entries
put_entries-returns-in_err-put_parted_entries g t c = IsPut-append c.in_ok-put.ensures
    (IsPut-stop _ c.from_residual-in_err-put_parted_entries.ensures.0 c.in_err-put_parted_entries.ensures)

pub put_entries-returns : goal.put_entries-returns
put_entries-returns g t c = IsPut-append c.in_ok-put.ensures (IsPut-append c.in_ok-put_parted_entries.ensures c.put-2.ensures)

pub put_parted_items-returns-in_err-put : goal.put_parted_items-returns-in_err-put
put_parted_items-returns-in_err-put g t c =
    let l = c.loop-item in
    let all = parted-at item_text c.args.items.now l.item-index c.item-item.result c.loop-item-test.true c.item-item.is l.lead.now l.invariant.lead in
    IsPut-along (IsPut-append l.invariant.put (IsPut-stop _ c.from_residual.ensures.0 c.in_err-put.ensures))
    (all ∙ sym (ap parted (item_texts-map c.args.items.now)))

pub put_parted_items-returns-in_err-put_inner : goal.put_parted_items-returns-in_err-put_inner
put_parted_items-returns-in_err-put_inner g t c =
    let l = c.loop-item in
    let all = parted-at item_text c.args.items.now l.item-index c.item-item.result c.loop-item-test.true c.item-item.is l.lead.now l.invariant.lead in
    IsPut-along (IsPut-append l.invariant.put (IsPut-append c.in_ok-put.ensures
    (IsPut-stop _ c.from_residual-in_err-put_inner.ensures.0 c.in_err-put_inner.ensures))) (all ∙ sym (ap parted (item_texts-map c.args.items.now)))

pub put_parted_items-loop-item-preserved : goal.put_parted_items-loop-item-preserved
put_parted_items-loop-item-preserved g t c =
    let l = c.loop-item in record {
      lead = lead-next item_text c.args.items.now l.item-index c.item-item.result c.loop-item-test.true c.item-item.is;
      put = IsPut-along (IsPut-append l.invariant.put (IsPut-append c.in_ok-put.ensures c.in_ok-put_inner.ensures))
          (parted-next item_text c.args.items.now l.item-index c.item-item.result c.loop-item-test.true c.item-item.is l.lead.now l.invariant.lead);
    }

pub put_parted_items-returns : goal.put_parted_items-returns
put_parted_items-returns g t c =
    IsPut-along c.loop-item.invariant.put (parted-all item_text c.args.items.now c.loop-item.item-index (omega arith)
    ∙ sym (ap parted (item_texts-map c.args.items.now)))

pub put_parted_entries-returns-in_err-put : goal.put_parted_entries-returns-in_err-put
put_parted_entries-returns-in_err-put g t c =
    let l = c.loop-key in
    let all = parted-at entry_text c.args.entries.now l.key-index c.loop-key-item.result c.loop-key-test.true c.loop-key-item.is l.lead.now l.invariant.lead in
    IsPut-along (IsPut-append l.invariant.put (IsPut-stop _ c.from_residual.ensures.0 c.in_err-put.ensures))
    (all ∙ sym (ap parted (entry_texts-map c.args.entries.now)))

pub put_parted_entries-returns-in_err-put_entry : goal.put_parted_entries-returns-in_err-put_entry
put_parted_entries-returns-in_err-put_entry g t c =
    let l = c.loop-key in
    let x = c.loop-key-item in
    let all = parted-at entry_text c.args.entries.now l.key-index x.result c.loop-key-test.true x.is l.lead.now l.invariant.lead in
    IsPut-along (IsPut-append l.invariant.put (IsPut-append c.in_ok-put.ensures
    (IsPut-stop _ c.from_residual-in_err-put_entry.ensures.0 (IsPut-along c.in_err-put_entry.ensures
    (ap (λ k. k ++ 58 ∷ inner_text (value_of x.result.1)) c.as_slice.ensures)))))
    (all ∙ sym (ap parted (entry_texts-map c.args.entries.now)))

pub put_parted_entries-loop-key-preserved : goal.put_parted_entries-loop-key-preserved
put_parted_entries-loop-key-preserved g t c =
    let l = c.loop-key in
    let x = c.loop-key-item in record {
      lead = lead-next entry_text c.args.entries.now l.key-index x.result c.loop-key-test.true x.is;
      put = IsPut-along (IsPut-append l.invariant.put (IsPut-append c.in_ok-put.ensures
          (IsPut-along c.in_ok-put_entry.ensures (ap (λ k. k ++ 58 ∷ inner_text (value_of x.result.1)) c.as_slice.ensures))))
          (parted-next entry_text c.args.entries.now l.key-index x.result c.loop-key-test.true x.is l.lead.now l.invariant.lead);
    }

pub put_parted_entries-returns : goal.put_parted_entries-returns
put_parted_entries-returns g t c =
    IsPut-along c.loop-key.invariant.put (parted-all entry_text c.args.entries.now c.loop-key.key-index (omega arith)
    ∙ sym (ap parted (entry_texts-map c.args.entries.now)))

pub put_entry-returns-in_err-put : goal.put_entry-returns-in_err-put
put_entry-returns-in_err-put g t c = IsPut-stop _ c.from_residual.ensures.0 c.in_err-put.ensures

pub put_entry-returns-in_err-put-2 : goal.put_entry-returns-in_err-put-2
put_entry-returns-in_err-put-2 g t c = IsPut-append c.in_ok-put.ensures (IsPut-stop _ c.from_residual-in_err-put-2.ensures.0 c.in_err-put-2.ensures)

pub put_entry-returns : goal.put_entry-returns
put_entry-returns g t c = IsPut-append c.in_ok-put.ensures (IsPut-append c.in_ok-put-2.ensures c.put_inner.ensures)

pub put_inner-put_items-requires : goal.put_inner-put_items-requires
put_inner-put_items-requires g t c κs within =
    let falls = size-row c.as_slice-in-List.result.now in
    let same = ap items_weight c.as_slice-in-List.ensures in
    search (rules, falls, same)

pub put_inner-put_entries-requires : goal.put_inner-put_entries-requires
put_inner-put_entries-requires g t c κs within =
    let falls = size-table c.as_slice-in-Map.result.now in
    let same = ap entries_weight c.as_slice-in-Map.ensures.same in
    search (rules, falls, same)
