-- The value of JSON bytes, over `serde_json`'s own definition of what they read as.
use Rattle.std.specs.Prelude.{◌≡◌, List, ℕ, Option, Some, None, Result, Ok, Err, option_map, option_and_then}
use Rattle.std.specs.Prelude.{ok_or, if◌then◌else◌}
use Rattle.std.specs.Str.{is_utf8}
use Rattle.serde_json.specs.Data as json
use Rattle.serde_json.specs.Find.{as_i64}
use Rattle.serde_json.specs.Read.{read}
use Rattle.tmpl_values.specs.declared.from_json.DataFault.{DataFault}
use Rattle.tmpl_values.specs.declared.from_json.DataFault.TheVariants.{NotJson, NotWhole, OutOfMemory}
use Rattle.tmpl_values.specs.declared.data.Data.{Data}
use Rattle.tmpl_values.specs.Stage.{and_then}
use Rattle.tmpl_values.specs.row.View.{value_of}
use Rattle.tmpl_values.specs.Value.{Value, null, boolean, number, string, sequence, mapping, Items, no_item, item}
use Rattle.tmpl_values.specs.Value.{Entries, no_entry, entry}

-- the value of a JSON tree: none where a number is held as a float or is outside 64 signed bits
abbrev mutual
  pub tree_value : json.Data → Option Value
  tree_value json.null = Some null
  tree_value (json.boolean b) = Some (boolean b)
  tree_value (json.number n) = option_map number (as_i64 n)
  tree_value (json.string s) = Some (string s)
  tree_value (json.array ds) = option_map sequence (tree_items ds)
  tree_value (json.object ms) = option_map mapping (tree_entries ms)

  pub tree_items : json.Items → Option Items
  tree_items json.no_items = Some no_item
  tree_items (json.item d ds) = option_and_then (λ v. option_map (item v) (tree_items ds)) (tree_value d)

  pub tree_entries : json.Members → Option Entries
  tree_entries json.no_members = Some no_entry
  tree_entries (json.member k d ms) = option_and_then (λ v. option_map (entry k v) (tree_entries ms)) (tree_value d)

-- why bytes have no value
pub data Flaw : Type 0 where
  not_json not_whole : Flaw

-- the value of JSON bytes, or why they have none: they are UTF-8 that `serde_json`'s definition reads, nested no deeper
-- than 127, and each number of the tree is whole
abbrev pub data_of : List ℕ → Result Value Flaw
data_of bs = and_then (ok_or (if is_utf8 bs then read bs else None) not_json) (λ d. ok_or (tree_value d) not_whole)

-- the result stands for what was asked for, value or flaw, or memory was refused
abbrev pub IsConverted : {A B : Type 0} → (A → B) → Result A DataFault → Result B Flaw → Type 0
IsConverted view (Ok a) asked = asked ≡ Ok (view a)
IsConverted view (Err NotJson) asked = asked ≡ Err not_json
IsConverted view (Err NotWhole) asked = asked ≡ Err not_whole
IsConverted view (Err OutOfMemory) asked = Unit {0}

-- the data that these bytes are, or the flaw that they have
abbrev pub IsData : List ℕ → Result Data DataFault → Type 0
IsData bytes result = IsConverted value_of result (data_of bytes)
