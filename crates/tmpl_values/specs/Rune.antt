-- The runes of a text: each is a character, by its well-formed UTF-8, or else one byte at which no character begins.
-- That a text need not be UTF-8 is our own rule.
use Rattle.std.specs.Prelude.{◌≡◌, ℕ, true, List, [], ◌∷◌, ◌++◌}
use Rattle.std.specs.Char.{encode_utf8}
use lib.Utf8.{scalar}

-- a character, or a byte that begins no well-formed encoding
pub data Rune : Type 0 where
  char byte : ℕ → Rune

-- the bytes of a rune
abbrev pub bytes_in : Rune → List ℕ
bytes_in (char c) = encode_utf8 c
bytes_in (byte b) = b ∷ []

-- the bytes begin with the encoding of no character
abbrev pub BeginsNoChar : List ℕ → Type 0
BeginsNoChar bs = (c : ℕ) (rest : List ℕ) → scalar c ≡ true → bs ≡ encode_utf8 c ++ rest → ⊥

-- the bytes are these runes, one after the other
pub data HasRunes : List ℕ → List Rune → Type 0 where
  at_end : HasRunes [] []
  a_char : {c : ℕ} {rest : List ℕ} {rs : List Rune} → scalar c ≡ true → HasRunes rest rs
      → HasRunes (encode_utf8 c ++ rest) (char c ∷ rs)
  a_byte : {b : ℕ} {rest : List ℕ} {rs : List Rune} → BeginsNoChar (b ∷ rest) → HasRunes rest rs
      → HasRunes (b ∷ rest) (byte b ∷ rs)
