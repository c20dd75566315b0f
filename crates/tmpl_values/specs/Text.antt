-- The text of a value.
use Rattle.std.specs.Prelude.{ℕ, List, [], ◌∷◌, ◌++◌, Bool, codes, if◌then◌else◌}
use Rattle.std.specs.List.{join_with_byte}
use Rattle.std.specs.Fmt.{signed_decimal}
use Rattle.std.specs.Str.{byte}
use Rattle.tmpl_values.specs.Value.{Value, boolean, number, string, sequence, mapping, Items, no_item}
use Rattle.tmpl_values.specs.Value.{item, Entries, no_entry, entry}
use Rattle.tmpl_values.specs.Compare.{is_nothing}

-- the text of a truth value
abbrev pub truth_text : Bool → List ℕ
truth_text b = if b then codes "true" else codes "false"

-- the text inside a sequence or a mapping, as `fmt` prints a default format, with one space between each two items or
-- entries; null is this project's own
abbrev mutual
  pub inner_text : Value → List ℕ
  inner_text (boolean b) = truth_text b
  inner_text (number n) = signed_decimal n
  inner_text (string s) = s
  inner_text (sequence vs) = codes "[" ++ (join_with_byte (byte " ") (item_texts vs) ++ codes "]")
  inner_text (mapping es) = codes "map[" ++ (join_with_byte (byte " ") (entry_texts es) ++ codes "]")
  inner_text _ = codes "<nil>"

  pub item_texts : Items → List (List ℕ)
  item_texts no_item = []
  item_texts (item v vs) = inner_text v ∷ item_texts vs

  pub entry_texts : Entries → List (List ℕ)
  entry_texts no_entry = []
  entry_texts (entry k v es) = (k ++ (codes ":" ++ inner_text v)) ∷ entry_texts es

-- the text as an action: nothing and null have one of their own, all else that which it has inside
abbrev pub text_of : Value → List ℕ
text_of v = if is_nothing v then codes "<no value>" else inner_text v
