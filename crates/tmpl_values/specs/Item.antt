-- The size of a value, its items and its parts ("Functions", at `index`, `len` and `slice`).
use Rattle.std.specs.Prelude.{◌≤◌, ℕ, List, [], ◌∷◌, length, slice_range, Option, Some, None}
use Rattle.tmpl_values.specs.Value.{Value, string, sequence, mapping, Items, no_item, item}
use Rattle.tmpl_values.specs.Elements.{values_of_items, elements_of_entries}

-- the bytes of a string
abbrev pub bytes_of : Value → Option (List ℕ)
bytes_of (string s) = Some s
bytes_of _ = None

-- how many bytes a string has, or how many items a sequence or a mapping has
abbrev pub size_of : Value → Option ℕ
size_of (string s) = Some (length s)
size_of (sequence vs) = Some (length (values_of_items vs))
size_of (mapping es) = Some (length (elements_of_entries es))
size_of _ = None

-- values in a row as items
abbrev pub in_sequence : List Value → Items
in_sequence [] = no_item
in_sequence (v ∷ vs) = item v (in_sequence vs)

-- the value is a string or a sequence, and has a part from i to before j
abbrev pub HasPart : ℕ → ℕ → Value → Type 0
HasPart i j (string s) = (i ≤ j) × (j ≤ length s)
HasPart i j (sequence vs) = (i ≤ j) × (j ≤ length (values_of_items vs))
HasPart i j _ = ⊥

-- the bytes or the items from i to before j, and any other value itself
abbrev pub part_of : ℕ → ℕ → Value → Value
part_of i j (string s) = string (slice_range s i j)
part_of i j (sequence vs) = sequence (in_sequence (slice_range (values_of_items vs) i j))
part_of i j v = v
