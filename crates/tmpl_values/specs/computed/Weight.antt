-- How many values stand in a value, by which a walk over it ends.
use Rattle.std.specs.Prelude.{ℕ, suc, ◌+◌}
use Rattle.tmpl_values.specs.Value.{Value, sequence, mapping, Items, no_item, item, Entries, no_entry, entry}

abbrev mutual
  pub weight : Value → ℕ
  weight (sequence vs) = suc (items_weight vs)
  weight (mapping es) = suc (entries_weight es)
  weight _ = 1

  pub items_weight : Items → ℕ
  items_weight no_item = 0
  items_weight (item v vs) = weight v + items_weight vs

  pub entries_weight : Entries → ℕ
  entries_weight no_entry = 0
  entries_weight (entry k v es) = weight v + entries_weight es
