-- What the trim markers beside a text leave of it ("Text and spaces" in the documentation of Go's text/template).
use Rattle.std.specs.Prelude.{ℕ, ◌+◌, Bool, true, false, ◌==◌, List, [], ◌∷◌, ◌++◌, count_by, reverse}
use Rattle.std.specs.Str.{byte}
use Rattle.tmpl_lex.specs.Bytes.{is_space, IsRun}
use Rattle.tmpl_lex.specs.Piece.{Piece, text}

-- how many newlines there are
abbrev pub newlines : List ℕ → ℕ
newlines bs = count_by (λ b. b == byte "\n") bs

-- what a trim marker takes of the bytes beside it, if there is one, and what it leaves, both from the marker on: it
-- takes all white space that stands there
pub data Trims : Bool → List ℕ → List ℕ → Type 0 where
  keeps : {kept : List ℕ} → Trims false [] kept
  trims : {taken kept : List ℕ} → IsRun is_space taken kept → Trims true taken kept

-- a text, which is no piece where it is empty
abbrev pub text_piece : ℕ → List ℕ → List Piece
text_piece line [] = []
text_piece line (b ∷ bs) = text line (b ∷ bs) ∷ []

-- the bytes between two actions or comments, of which the first stands on this line, with a right trim marker before
-- them or none and a left one after them or none, and the piece that they are; its line is that of its first byte
pub data Texts : Bool → Bool → ℕ → List ℕ → List Piece → Type 0 where
  trimmed : {right left : Bool} {line : ℕ} {front : List ℕ} (kept end : List ℕ)
      → Trims right front (kept ++ end) → Trims left (reverse end) (reverse kept)
      → Texts right left line (front ++ kept ++ end) (text_piece (line + newlines front) kept)
