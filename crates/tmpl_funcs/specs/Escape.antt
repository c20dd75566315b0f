-- Escapes ("Functions", at `html` and `urlquery`).
use Rattle.std.specs.Prelude.{ℕ, Bool, ◌||◌, ◌==◌, List, [], ◌∷◌, codes, find, if◌then◌else◌}
use Rattle.std.specs.Option.{option_map_or}
use Rattle.std.specs.Char.{is_ascii_alphanumeric}
use Rattle.std.specs.Str.{byte}
use Rattle.percent_encoding.specs.Percent.{percent_encode_byte}

-- the bytes that do not stand for themselves in HTML, and what does, as `HTMLEscapeString` has it: U+FFFD for NUL
abbrev pub html_escapes : List (ℕ × List ℕ)
html_escapes = (byte "\"", codes "&#34;") ∷ (byte "'", codes "&#39;") ∷ (byte "&", codes "&amp;")
    ∷ (byte "<", codes "&lt;") ∷ (byte ">", codes "&gt;") ∷ (0, 239 ∷ 191 ∷ 189 ∷ []) ∷ []

-- a byte in HTML
abbrev pub html_byte : ℕ → List ℕ
html_byte b = option_map_or (λ p. p.1) (find (λ p. b == p.0) html_escapes) (b ∷ [])

-- the byte stands for itself in a query: a letter or digit of ASCII, or one of `-_.~`
abbrev pub is_unreserved : ℕ → Bool
is_unreserved b = is_ascii_alphanumeric b || (b == byte "-" || (b == byte "_" || (b == byte "." || b == byte "~")))

-- a byte in a query, as `url.QueryEscape` has it: a space is `+`, and every other byte that does
-- not stand for itself is `%` and two digits in upper case
abbrev pub query_byte : ℕ → List ℕ
query_byte b = if is_unreserved b then b ∷ [] else (if b == byte " " then codes "+" else percent_encode_byte b)
