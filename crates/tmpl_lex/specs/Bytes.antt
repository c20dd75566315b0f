-- The bytes that tokens are made of, and lists of bytes told by their parts.
use Rattle.std.specs.Prelude.{◌≡◌, ℕ, Bool, true, false, ◌||◌, ◌==◌, nat_le, List, [], ◌∷◌, ◌++◌}
use Rattle.std.specs.Char.{is_ascii_alphanumeric}
use Rattle.std.specs.List.{list_all}
use Rattle.std.specs.Str.{byte}

-- white space: space, tab, carriage return and newline ("Text and spaces" in the documentation of Go's text/template)
abbrev pub is_space : ℕ → Bool
is_space b = b == byte " " || b == byte "\t" || b == byte "\r" || b == byte "\n"

-- a byte of a name: a letter or digit of ASCII, `_`, or any byte from 80h, so that each name that Go takes is taken
-- (our own rule)
abbrev pub is_name_byte : ℕ → Bool
is_name_byte b = is_ascii_alphanumeric b || b == byte "_" || nat_le 128 b

-- a byte of a number after its first digit: a byte of a name, or a dot
abbrev pub is_number_byte : ℕ → Bool
is_number_byte b = is_name_byte b || b == byte "."

-- these bytes stand nowhere in a row among those
abbrev pub Absent : List ℕ → List ℕ → Type 0
Absent row bs = (xs ys : List ℕ) → bs ≡ xs ++ row ++ ys → ⊥

-- the bytes begin with none of this form
abbrev pub BeginsNone : (List ℕ → Type 0) → List ℕ → Type 0
BeginsNone Form bs = (xs ys : List ℕ) → Form xs → bs ≡ xs ++ ys → ⊥

-- the bytes do not begin with one that passes the test
abbrev pub Stops : (ℕ → Bool) → List ℕ → Type 0
Stops test [] = Unit {0}
Stops test (b ∷ bs) = test b ≡ false

-- the longest run of bytes that pass the test, before the rest
pub record IsRun (test : ℕ → Bool) (run rest : List ℕ) : Type 0 where
  pub passes : list_all test run ≡ true
  pub longest : Stops test rest
