-- The item of a value at indexes ("Functions", at `index`: "the result of indexing its first
-- argument by the following arguments. Thus `index x 1 2 3` is, in Go syntax, x[1][2][3]").
use Rattle.std.specs.Prelude.{ℕ, ℤ, pos, negsuc, List, [], ◌∷◌, slice_get, option_map, Option, Some, None}
use Rattle.std.specs.Prelude.{Result, Ok, Err, ok_or, unwrap_or}
use Rattle.tmpl_values.specs.Value.{Value, null, number, string, sequence, mapping}
use Rattle.tmpl_values.specs.Elements.{values_of_items}
use Rattle.tmpl_values.specs.Field.{entry_at}
use Rattle.tmpl_values.specs.Item.{bytes_of}
use Rattle.tmpl_values.specs.Stage.{and_then}
use Rattle.tmpl_funcs.specs.declared.fault.CallFault.{CallFault}
use Rattle.tmpl_funcs.specs.declared.fault.CallFault.TheVariants.{WrongKind, OutOfRange}

-- the number that a value is
abbrev pub number_of : Value → Option ℤ
number_of (number n) = Some n
number_of _ = None

-- what is found at a place, which is a number, counted from 0
abbrev pub found_at : (ℕ → Option Value) → Option ℤ → Result Value CallFault
found_at found None = Err WrongKind
found_at found (Some (pos i)) = ok_or (found i) OutOfRange
found_at found (Some (negsuc i)) = Err OutOfRange

-- a value at one index: a byte of a string as a number, an item of a sequence, and of a mapping the entry of a key,
-- which is a string, or null where there is none
abbrev pub element_at : Value → Value → Result Value CallFault
element_at (string s) i = found_at (λ k. option_map (λ b. number (pos b)) (slice_get s k)) (number_of i)
element_at (sequence vs) i = found_at (slice_get (values_of_items vs)) (number_of i)
element_at (mapping es) i = ok_or (option_map (λ k. unwrap_or (entry_at k es) null) (bytes_of i)) WrongKind
element_at _ i = Err WrongKind

-- a value at indexes, from left to right
abbrev pub indexed_by : Value → List Value → Result Value CallFault
indexed_by v [] = Ok v
indexed_by v (i ∷ is) = and_then (element_at v i) (λ w. indexed_by w is)
