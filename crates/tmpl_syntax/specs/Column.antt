-- The line and the column of a place in a file: our own rule.
use Rattle.std.specs.Prelude.{◌≡◌, ◌≤◌, ℕ, ◌+◌, Bool, ◌==◌, ◌&&◌, not, nat_le, nat_lt, List, length, take, count_by}
use Rattle.std.specs.List.{after_last}
use Rattle.std.specs.Str.{byte}
use Rattle.tmpl_lex.specs.Text.{newlines}
use Rattle.tmpl_syntax.specs.declared.column.Place.{Place}

-- a byte that begins no character of UTF-8
abbrev pub continues : ℕ → Bool
continues b = nat_le 128 b && nat_lt b 192

-- the column, counted from 1 by characters, of the place before which this many bytes stand: how many bytes that begin one
-- stand before it on its line
abbrev pub column_at : List ℕ → ℕ → ℕ
column_at bytes at = count_by (λ b. not (continues b)) (after_last (λ b. b == byte "\n") (take at bytes)) + 1

-- its line, counted from 1
abbrev pub line_at : List ℕ → ℕ → ℕ
line_at bytes at = newlines (take at bytes) + 1

-- the place is one of these bytes, or their end, with its line and its column
pub record IsPlace (bytes : List ℕ) (p : Place) : Type 0 where
  pub within : p.start ≤ length bytes
  pub line : p.line ≡ line_at bytes p.start
  pub column : p.column ≡ column_at bytes p.start
