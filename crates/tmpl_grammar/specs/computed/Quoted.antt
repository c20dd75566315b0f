-- What stands between quotes, computed: the twin of `SpellsRunes`.
use Rattle.std.specs.Prelude.{ℕ, zero, suc, ◌-◌, ◌==◌, ◌&&◌, nat_lt, nat_le, List, [], ◌∷◌, length, take, drop}
use Rattle.std.specs.Prelude.{not, filter, slice_index, Option, Some, None, option_map, option_and_then, if◌then◌else◌}
use Rattle.std.specs.List.{flat_map}
use Rattle.std.specs.Char.{len_utf8}
use lib.Utf8.{scalar}
use Rattle.tmpl_values.specs.Rune.{Rune, char, byte, bytes_in}
use Rattle.tmpl_values.specs.computed.Rune.{first_rune}
use Rattle.tmpl_grammar.specs.computed.Integer.{number_in}
use Rattle.tmpl_grammar.specs.Constant.Quoted.{code_of}

-- the text of a raw string
abbrev pub without_returns : List ℕ → List ℕ
without_returns bs = filter (λ b. not (b == 13)) bs

-- a part, and how many bytes spell it
abbrev pub Spelled : Type 0
Spelled = Rune × ℕ

-- a rune stands for itself, and an ill-formed byte for U+FFFD
abbrev pub rune_part : Rune → Spelled
rune_part (char c) = (char c, len_utf8 c)
rune_part (byte b) = (char 65533, 1)

-- a number as a byte, and as a character: no surrogate, and at most 10FFFFh
abbrev pub as_byte : ℕ → ℕ → Option Spelled
as_byte len n = if nat_lt n 256 then Some (byte n, len) else None

abbrev pub as_char : ℕ → ℕ → Option Spelled
as_char len n = if scalar n then Some (char n, len) else None

-- the number that this many digits at the front write
abbrev pub code : ℕ → ℕ → List ℕ → Option ℕ
code base count bs = if nat_le count (length bs) then number_in base (take count bs) else None

-- the byte that this letter stands for after a backslash, where this quote ends the text
abbrev pub byte_named : ℕ → ℕ → Option ℕ
byte_named quote e =
    if e == 97 then Some 7 else (if e == 98 then Some 8
    else (if e == 102 then Some 12 else (if e == 110 then Some 10
    else (if e == 114 then Some 13 else (if e == 116 then Some 9
    else (if e == 118 then Some 11 else (if e == 92 then Some 92
    else (if e == quote then Some quote else None))))))))

-- after a backslash: `x`, `u` or `U` and digits, or octal digits
abbrev pub escape_code : ℕ → List ℕ → Option Spelled
escape_code e bs =
    if e == 120 then option_and_then (as_byte 4) (code 16 2 bs)
    else (if e == 117 then option_and_then (as_char 6) (code 16 4 bs)
    else (if e == 85 then option_and_then (as_char 10) (code 16 8 bs)
    else option_and_then (as_byte 4) (code 8 3 (e ∷ bs))))

abbrev pub escape_by : Option ℕ → ℕ → List ℕ → Option Spelled
escape_by None e bs = escape_code e bs
escape_by (Some b) e bs = Some (byte b, 2)

-- the escape whose backslash stands before these bytes
abbrev pub escape : ℕ → List ℕ → Option Spelled
escape quote [] = None
escape quote (e ∷ bs) = escape_by (byte_named quote e) e bs

-- the part at the front: an escape, or a rune other than the quote
unfoldable pub part_at : ℕ → List ℕ → Option Spelled
part_at quote [] = None
part_at quote (b ∷ bs) =
    if b == 92 then escape quote bs
    else (if b == quote then None else Some (rune_part (first_rune (b ∷ bs))))

abbrev pub with_part : Rune → Option (List Rune) → Option (List Rune)
with_part p ps = option_map (λ ps. p ∷ ps) ps

-- the parts after this many bytes that belong to the part before
abbrev pub parts_after : ℕ → ℕ → List ℕ → Option (List Rune)
parts_after quote n [] = Some []
parts_after quote (suc n) (b ∷ bs) = parts_after quote n bs
parts_after quote zero (b ∷ bs) =
    option_and_then (λ p. with_part p.0 (parts_after quote (p.1 - 1) bs)) (part_at quote (b ∷ bs))

-- the parts from left to right, if the bytes are parts
unfoldable pub parts : ℕ → List ℕ → Option (List Rune)
parts quote bs = parts_after quote 0 bs

-- the bytes between two such quotes, if the first byte and the last are such
abbrev pub between : ℕ → List ℕ → Option (List ℕ)
between quote bs =
    if nat_le 2 (length bs) && (slice_index bs 0 == quote && slice_index bs (length bs - 1) == quote)
    then Some (take (length bs - 2) (drop 1 bs)) else None

-- the text of a string
abbrev pub unquoted_text : ℕ → List ℕ → Option (List ℕ)
unquoted_text quote bs = option_map (flat_map bytes_in) (parts quote bs)

-- the code of a part that takes this many bytes
abbrev pub whole_code : ℕ → Spelled → Option ℕ
whole_code count p = if p.1 == count then Some (code_of p.0) else None

-- the code of a character
abbrev pub rune_code : ℕ → List ℕ → Option ℕ
rune_code quote bs = option_and_then (whole_code (length bs)) (part_at quote bs)
