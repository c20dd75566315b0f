-- The first part of what is left of a file, computed.
use Rattle.std.specs.Prelude.{ℕ, ◌+◌, ◌-◌, ◌<◌, ◌≤◌, ◌^◌, Bool, false, List, [], ◌∷◌, ◌++◌, length, take}
use Rattle.std.specs.Prelude.{Option, Some, None, option_map}
use Rattle.tmpl_lex.specs.Piece.{Piece, action, unreadable}
use Rattle.tmpl_lex.specs.Text.{newlines}
use Rattle.tmpl_lex.specs.computed.Action.{Opened, comment, tokens, neither, opened}
use Rattle.tmpl_lex.specs.computed.Bytes.{split_pair}
use Rattle.tmpl_lex.specs.computed.Text.{texts}
use Rattle.tmpl_lex.specs.computed.Trim.{End, left_marked, past_left}

-- what is left: whether a right trim marker stands before it, the line of its first byte, and its bytes
pub record Rest : Type 0 where
  pub trims : Bool
  pub line : ℕ
  pub bytes : List ℕ

-- what stands before the first `{{`, and what stands after it
abbrev pub split_open : List ℕ → Option (List ℕ × List ℕ)
split_open bs = split_pair 123 123 bs

-- the bytes that stand before this rest of them
abbrev pub stretch : List ℕ → List ℕ → List ℕ
stretch bs rest = take (length bs - length rest) bs

-- the pieces that something after a `{{` on this line gives
abbrev pub pieces_of : ℕ → Opened → List Piece
pieces_of line (comment e) = []
pieces_of line (tokens ts e) = action line ts ∷ []
pieces_of line neither = unreadable line ∷ []

-- where what stands after a `{{` ends
abbrev pub ends_at : Opened → Option End
ends_at (comment e) = Some e
ends_at (tokens ts e) = Some e
ends_at neither = None

-- what is left after this end of these bytes, of which the first stands on this line
abbrev pub rest_past : List ℕ → ℕ → End → Rest
rest_past bs line e = record { trims = e.trims; line = line + newlines (stretch bs e.rest); bytes = e.rest }

-- the pieces of the first part, and the rest after it, by where the first `{{` stands
abbrev pub part_from : Rest → Option (List ℕ × List ℕ) → List Piece × Option Rest
part_from rest None = (texts rest.trims false rest.line rest.bytes, None)
part_from rest (Some p) = (
  texts rest.trims (left_marked p.1) rest.line p.0 ++ pieces_of (rest.line + newlines p.0) (opened (past_left p.1)),
  option_map (rest_past rest.bytes rest.line) (ends_at (opened (past_left p.1))),
)

-- the same of this rest
abbrev pub part_of : Rest → List Piece × Option Rest
part_of rest = part_from rest (split_open rest.bytes)

-- the end, if there is one, is one of these bytes, and the lines up to it can be counted
abbrev pub IsEndWithin : List ℕ → ℕ → Option End → Type 0
IsEndWithin bs line None = Unit {0}
IsEndWithin bs line (Some e) = (length e.rest ≤ length bs) × (line + newlines (stretch bs e.rest) < 2 ^ 64)
