-- The field of a value. What nothing and null have as fields is this project's own rule.
use Rattle.std.specs.Prelude.{ℕ, List, bytes_eq, if◌then◌else◌, Option, Some, None}
use Rattle.std.specs.Option.{option_map_or}
use Rattle.tmpl_values.specs.Value.{Value, nothing, mapping, Entries, no_entry, entry}

-- what a value has under a name: a value; no entry, though it is a mapping; nothing, as it is
-- nothing itself; or no field, as its kind has none
pub data FieldValue : Type 0 where
  found : Value → FieldValue
  missing of_nothing no_field : FieldValue

-- the entry of this key, if there is one
abbrev pub entry_at : List ℕ → Entries → Option Value
entry_at name no_entry = None
entry_at name (entry k v es) = if bytes_eq k name then Some v else entry_at name es

-- the field of this name
abbrev pub field_at : List ℕ → Value → FieldValue
field_at name nothing = of_nothing
field_at name (mapping es) = option_map_or found (entry_at name es) missing
field_at name _ = no_field
