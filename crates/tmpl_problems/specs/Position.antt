-- Lines of a text, and where the parts of a JSON text begin.
use Rattle.std.specs.Prelude.{◌≡◌, ◌≤◌, ◌⊎◌, ℕ, ◌+◌, Bool, false, ◌==◌, ◌||◌, List, length, take, drop, slice_get, Some, IfSome}
use Rattle.std.specs.List.{Contains, prefix_len}
use Rattle.std.specs.Str.{byte}
use Rattle.std.specs.Str.Parse.{IsNumeral, without_leading_plus}
use Rattle.tmpl_lex.specs.Text.{newlines}
use Rattle.tmpl_syntax.specs.Column.{column_at, line_at}

-- the text has a line of this number
pub record IsLine (bytes : List ℕ) (line : ℕ) : Type 0 where
  pub first : 1 ≤ line
  pub last : line ≤ newlines bytes + 1

-- white space of JSON
abbrev pub is_space : ℕ → Bool
is_space b = b == byte " " || b == byte "\t" || b == byte "\n" || b == byte "\r"

-- no white space stands there; it may be the end of the text
pub record IsStart (bytes : List ℕ) (at : ℕ) : Type 0 where
  pub within : at ≤ length bytes
  pub no_space : IfSome (slice_get bytes at) (λ b. is_space b ≡ false)

-- this key stands there in quotes
pub record IsKey (bytes : List ℕ) (at : ℕ) (key : List ℕ) : Type 0 where
  pub opens : slice_get bytes at ≡ Some (byte "\"")
  pub inside : take (length key) (drop (at + 1) bytes) ≡ key
  pub closes : slice_get bytes (at + 1 + length key) ≡ Some (byte "\"")

-- it does so, as the key of a member, or is a number, as the index of an item
abbrev pub IsNamed : List ℕ → ℕ → List ℕ → Type 0
IsNamed bytes at name = IsKey bytes at name ⊎ IsNumeral 10 (without_leading_plus name)

-- the whole text begins there, or a part of it that the path names
abbrev pub Begins : List ℕ → List (List ℕ) → ℕ → Type 0
Begins bytes path at = (at ≡ prefix_len is_space bytes) ⊎ ((name : List ℕ) × Contains path name × IsNamed bytes at name)

-- the line and the column of a place at which the whole text begins, or a part of it that the path names
pub record IsPosition (bytes : List ℕ) (path : List (List ℕ)) (position : ℕ × ℕ) : Type 0 where
  pub at : ℕ
  pub start : IsStart bytes at
  pub begins : Begins bytes path at
  pub line : position.0 ≡ line_at bytes at
  pub column : position.1 ≡ column_at bytes at
