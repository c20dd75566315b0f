-- Operands as one text ("Functions", at `print` and `println`, which are `fmt.Sprint` and
-- `fmt.Sprintln`: "Spaces are added between operands when neither is a string").
use Rattle.std.specs.Prelude.{ℕ, Bool, ◌||◌, List, [], ◌∷◌, ◌++◌, is_some, codes, if◌then◌else◌}
use Rattle.tmpl_values.specs.Value.{Value, string}
use Rattle.tmpl_values.specs.Compare.{is_nothing}
use Rattle.tmpl_values.specs.Item.{bytes_of}
use Rattle.tmpl_values.specs.Text.{inner_text}

-- the value is a string
abbrev pub is_string : Value → Bool
is_string v = is_some (bytes_of v)

-- the operands joined, with a space between two neighbours where neither is a string; nothing is `<nil>`
abbrev pub join_operands : List Value → List ℕ
join_operands [] = []
join_operands (v ∷ []) = inner_text v
join_operands (v ∷ w ∷ ws) = inner_text v ++ ((if is_string v || is_string w then [] else codes " ") ++ join_operands (w ∷ ws))

-- a value in which nothing counts as the string `<no value>` (this project's own rule)
abbrev pub as_text : Value → Value
as_text v = if is_nothing v then string (codes "<no value>") else v
