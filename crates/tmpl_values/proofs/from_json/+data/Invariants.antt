use Rattle.std.proofs.Common.{◌≡◌, option_map}
use Rattle.std.specs.Vec.Iter.{into_iter_items}
use Rattle.serde_json.specs.View.{items_view, members_view}
use Rattle.tmpl_values.specs.Json.{tree_items, tree_entries}
use Rattle.tmpl_values.proofs.RestLemmas.{before, before_entries}
use Rattle.tmpl_values.proofs.from_json.+data.Given as goal

abbrev pub invariant-list_of-loop-item : goal.invariant-list_of-loop-item
invariant-list_of-loop-item l =
    tree_items (items_view l.fn.items.items) ≡ option_map (before l.converted.items) (tree_items (items_view (into_iter_items l.item-iterator)))

abbrev pub invariant-table_of-loop-key : goal.invariant-table_of-loop-key
invariant-table_of-loop-key l =
    tree_entries (members_view l.fn.members.entries) ≡ option_map (before_entries l.converted.items) (tree_entries (members_view l.key-iterator))
