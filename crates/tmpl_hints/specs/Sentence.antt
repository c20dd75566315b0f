-- What a sentence says.
use Rattle.std.specs.Prelude.{◌≡◌, ℕ, nat_lt, List, [], ◌∷◌, ◌++◌, length, take, codes}
use Rattle.std.specs.Prelude.{Option, Some, None, option_map, if◌then◌else◌}
use Rattle.std.specs.List.{flat_map}
use Rattle.std.specs.Str.{is_utf8}
use Rattle.tmpl_values.specs.Quote.{hexes}

-- the text so far, or none where memory ran out for some part of it
abbrev pub Said : Type 0
Said = Option (List ℕ)

-- where memory was not refused, these bytes are added to the text
abbrev pub Adds : Said → Said → List ℕ → Type 0
Adds old None bytes = Unit {0}
Adds old (Some text) bytes = option_map (λ before. before ++ bytes) old ≡ Some text

-- a byte of a piece of a file that is no UTF-8, as it is shown: one from 80h by its code
abbrev pub byte_shown : ℕ → List ℕ
byte_shown b = if nat_lt b 128 then b ∷ [] else codes "\\x" ++ hexes 2 b

abbrev pub readable : List ℕ → List ℕ
readable bytes = if is_utf8 bytes then bytes else flat_map byte_shown bytes

-- a piece of a file, as it is shown: of more than 80 bytes the first 80, and two dots
abbrev pub shown : List ℕ → List ℕ
shown bytes = if nat_lt 80 (length bytes) then readable (take 80 bytes) ++ codes ".." else readable bytes
