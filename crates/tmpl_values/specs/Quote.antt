-- The quote of a text, as `strconv.Quote` has it: its runes, each spelled so that it can be read
-- back. Which characters print is taken from the tables of `unicode` (this project's own rule).
use Rattle.std.specs.Prelude.{ℕ, zero, suc, ◌/◌, ◌%◌, ◌||◌, ◌==◌, nat_lt, Bool, List, [], ◌∷◌, ◌++◌, Option, Some, None}
use Rattle.std.specs.Prelude.{codes, if◌then◌else◌}
use Rattle.std.specs.List.{flat_map}
use Rattle.std.specs.Option.{option_map_or}
use Rattle.std.specs.Char.{encode_utf8, digit_char}
use Rattle.std.specs.Str.{byte}
use Rattle.tmpl_values.specs.Rune as rune
use Rattle.tmpl_values.specs.Rune.{Rune}
use Rattle.tmpl_values.specs.Runes.{runes}
use Rattle.tmpl_values.specs.Printable.{printable}

-- the codes with a letter of their own after a backslash: the code, and the letter; 7, 8, 11 and 12 are the control
-- codes bell, backspace, vertical tab and form feed
abbrev pub letters : List (ℕ × ℕ)
letters = (byte "\"", byte "\"") ∷ (byte "\\", byte "\\") ∷ (7, byte "a") ∷ (8, byte "b") ∷ (byte "\t", byte "t")
    ∷ (byte "\n", byte "n") ∷ (11, byte "v") ∷ (12, byte "f") ∷ (byte "\r", byte "r") ∷ []

-- the letter of a code
abbrev pub letter_of : ℕ → List (ℕ × ℕ) → Option ℕ
letter_of c [] = None
letter_of c (p ∷ ps) = if c == p.0 then Some p.1 else letter_of c ps

-- the last n digits of c in base 16, in lower case
unfoldable pub hexes : ℕ → ℕ → List ℕ
hexes zero c = []
hexes (suc n) c = hexes n (c / 16) ++ digit_char (c % 16) ∷ []

-- a rune as it stands in a quote: a byte by its code; a character by its letter, if it has one, else itself where it
-- prints, and its code in two, four or eight digits where it does not
abbrev pub spelling : (ℕ → Bool) → Rune → List ℕ
spelling prints (rune.byte b) = codes "\\x" ++ hexes 2 b
spelling prints (rune.char c) = option_map_or (λ letter. codes "\\" ++ letter ∷ []) (letter_of c letters)
    (if prints c then encode_utf8 c
    else (if nat_lt c 32 || c == 127 then codes "\\x" ++ hexes 2 c
    else (if nat_lt c 65536 then codes "\\u" ++ hexes 4 c else codes "\\U" ++ hexes 8 c)))

-- the quote: the runes as they are spelled, between quotation marks
unfoldable pub quote : List ℕ → List ℕ
quote bs = codes "\"" ++ (flat_map (spelling printable) (runes bs) ++ codes "\"")
