-- What data stands for. A list of data is seen as its values in order, a table as its entries.
use Rattle.std.specs.Prelude.{ℕ, List, [], ◌∷◌}
use Rattle.tmpl_values.specs.Value.{Value, null, boolean, number, string, sequence, mapping, Items, no_item, item}
use Rattle.tmpl_values.specs.Value.{Entries, no_entry, entry}
use Rattle.tmpl_values.specs.declared.data.Data.{Data}
use Rattle.tmpl_values.specs.declared.data.Data.TheVariants as kind

-- the value of data
abbrev pub value_of : Data → Value
value_of kind.Null = null
value_of (kind.Bool b) = boolean b
value_of (kind.Num n) = number n
value_of (kind.Text s) = string s
value_of (kind.List vs) = sequence vs
value_of (kind.Map es) = mapping es

-- the values of data in a row
abbrev pub items_of : List Data → Items
items_of [] = no_item
items_of (d ∷ ds) = item (value_of d) (items_of ds)

-- the entries of named data in a row
abbrev pub entries_of : List (List ℕ × Data) → Entries
entries_of [] = no_entry
entries_of (e ∷ es) = entry e.0 (value_of e.1) (entries_of es)
