use Rattle.std.proofs.Common.{◌≡◌, take, map, Ok}
use Rattle.tmpl_values.specs.Put.{IsPut}
use Rattle.tmpl_values.proofs.PartedLemmas.{parted, lead, item_text, entry_text}
use Rattle.tmpl_values.proofs.text.+put.Given as goal

abbrev pub invariant-put_parted_items-loop-item : goal.invariant-put_parted_items-loop-item
invariant-put_parted_items-loop-item g l = record {
  lead : l.lead ≡ lead (map item_text (take l.item-index l.items));
  put : IsPut {F = g.row.P-Fault.Denot} (Ok tt) (g.P.Put.so_far l.initial.out) (g.P.Put.so_far l.out) (parted (map item_text (take l.item-index l.items)));
}

abbrev pub invariant-put_parted_entries-loop-key : goal.invariant-put_parted_entries-loop-key
invariant-put_parted_entries-loop-key g l = record {
  lead : l.lead ≡ lead (map entry_text (take l.key-index l.entries));
  put : IsPut {F = g.row.P-Fault.Denot} (Ok tt) (g.P.Put.so_far l.initial.out) (g.P.Put.so_far l.out) (parted (map entry_text (take l.key-index l.entries)));
}
