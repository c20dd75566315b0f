-- What stands between quotes ("Rune literals" and "String literals" in the specification of Go's language). That a text
-- need not be UTF-8 is our own rule.
use Rattle.std.specs.Prelude.{◌≡◌, ℕ, ◌<◌, true, List, [], ◌∷◌, ◌++◌, length, Some, codes}
use Rattle.std.specs.Char.{encode_utf8}
use Rattle.std.specs.Str.{byte}
use Rattle.std.specs.Str.Parse.{AllDigits, digits_value}
use lib.Utf8.{scalar}
use Rattle.tmpl_values.specs.Quote.{letters, letter_of}
use Rattle.tmpl_values.specs.Rune as rune
use Rattle.tmpl_values.specs.Rune.{Rune, BeginsNoChar}

-- the value of the byte, or the code of the character
abbrev pub code_of : Rune → ℕ
code_of (rune.byte b) = b
code_of (rune.char c) = c

-- this many digits in a base
abbrev pub AreDigits : ℕ → ℕ → List ℕ → Type 0
AreDigits base count ds = (length ds ≡ count) × AllDigits base ds

-- the escapes between two such quotes, and the rune that each stands for: a byte by the letter that a quote has for it,
-- and of the marks only that of these quotes; a byte by three octal digits or by two of base 16; a character, which is
-- no surrogate and at most 10FFFFh, by four or eight of base 16
pub data IsEscape (quote : ℕ) : List ℕ → Rune → Type 0 where
  a_letter : {c letter : ℕ} → letter_of c letters ≡ Some letter → (c ≡ byte "\"" → ⊥)
      → IsEscape quote (codes "\\" ++ letter ∷ []) (rune.byte c)
  the_quote : IsEscape quote (codes "\\" ++ quote ∷ []) (rune.byte quote)
  octal : {ds : List ℕ} → AreDigits 8 3 ds → digits_value 8 ds < 256
      → IsEscape quote (codes "\\" ++ ds) (rune.byte (digits_value 8 ds))
  two_digits : {ds : List ℕ} → AreDigits 16 2 ds → IsEscape quote (codes "\\x" ++ ds) (rune.byte (digits_value 16 ds))
  four_digits : {ds : List ℕ} → AreDigits 16 4 ds → scalar (digits_value 16 ds) ≡ true
      → IsEscape quote (codes "\\u" ++ ds) (rune.char (digits_value 16 ds))
  eight_digits : {ds : List ℕ} → AreDigits 16 8 ds → scalar (digits_value 16 ds) ≡ true
      → IsEscape quote (codes "\\U" ++ ds) (rune.char (digits_value 16 ds))

-- bytes between two such quotes spell these runes: characters other than the quote and the backslash, U+FFFD for each
-- byte that begins none, and escapes
pub data SpellsRunes (quote : ℕ) : List ℕ → List Rune → Type 0 where
  at_end : SpellsRunes quote [] []
  a_char : {c : ℕ} {rest : List ℕ} {rs : List Rune} → scalar c ≡ true → (c ≡ quote → ⊥) → (c ≡ byte "\\" → ⊥)
      → SpellsRunes quote rest rs → SpellsRunes quote (encode_utf8 c ++ rest) (rune.char c ∷ rs)
  a_byte : {b : ℕ} {rest : List ℕ} {rs : List Rune} → BeginsNoChar (b ∷ rest)
      → SpellsRunes quote rest rs → SpellsRunes quote (b ∷ rest) (rune.char 65533 ∷ rs)
  an_escape : {spelling rest : List ℕ} {r : Rune} {rs : List Rune} → IsEscape quote spelling r
      → SpellsRunes quote rest rs → SpellsRunes quote (spelling ++ rest) (r ∷ rs)
