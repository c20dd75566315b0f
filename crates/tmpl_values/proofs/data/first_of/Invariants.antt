use Rattle.std.proofs.Common.{◌≡◌, drop}
use Rattle.tmpl_values.specs.Field.{entry_at}
use Rattle.tmpl_values.specs.row.View.{entries_of}
use Rattle.tmpl_values.proofs.data.first_of.Given as goal

abbrev pub invariant-loop-name : goal.invariant-loop-name
invariant-loop-name l = record {
  unseen : entry_at l.key (entries_of l.entries) ≡ entry_at l.key (entries_of (drop l.name-index l.entries));
}
