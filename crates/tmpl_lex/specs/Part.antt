-- A cut that goes part by part.
use Rattle.std.specs.Prelude.{ℕ, ◌+◌, ◌<◌, ◌≤◌, List, [], ◌∷◌, ◌++◌, length, map, Option, Some, None}
use Rattle.tmpl_lex.specs.declared.part.AfterText.{AfterText}
use Rattle.tmpl_lex.specs.declared.part.AfterText.TheVariants as variant
use Rattle.tmpl_lex.specs.declared.part.Part.{Part}
use Rattle.tmpl_lex.specs.declared.part.Rest.{Rest}
use Rattle.tmpl_lex.specs.declared.piece.Token as declared_token
use Rattle.tmpl_lex.specs.Cut.{Cuts}
use Rattle.tmpl_lex.specs.Piece.{Piece, action, unreadable}
use Rattle.tmpl_lex.specs.Place.{EndsWith}
use Rattle.tmpl_lex.specs.Text.{text_piece}
use Rattle.tmpl_lex.specs.View.{token_of}

-- this is left of the file, and its line is one that the file can have there
pub record IsLeft (file : List ℕ) (rest : Rest) : Type 0 where
  pub ends : EndsWith file rest.bytes.now
  pub lines : rest.line + length rest.bytes.now ≤ 1 + length file

-- what stands after a text, with these tokens
abbrev pub pieces_after : List declared_token.Token → AfterText → List Piece
pieces_after ts variant.Nothing = []
pieces_after ts (variant.Action line) = action line (map token_of ts) ∷ []
pieces_after ts (variant.Unreadable line) = unreadable line ∷ []

-- the pieces that a part with these tokens is
abbrev pub pieces_in : List declared_token.Token → Part → List Piece
pieces_in ts p = text_piece p.line p.text.now ++ pieces_after ts p.after

-- a part of these pieces is all that is left, or comes before whatever the rest after it is cut into
abbrev pub IsCutBy : Rest → List Piece → Option Rest → Type 0
IsCutBy rest ps None = Cuts rest.trims rest.line rest.bytes.now ps
IsCutBy rest ps (Some r) =
    (more : List Piece) → Cuts r.trims r.line r.bytes.now more → Cuts rest.trims rest.line rest.bytes.now (ps ++ more)

-- the rest after a part, if there is one, is left of the file, and shorter
abbrev pub IsLeftAfter : List ℕ → Rest → Option Rest → Type 0
IsLeftAfter file rest None = Unit {0}
IsLeftAfter file rest (Some r) = IsLeft file r × (length r.bytes.now < length rest.bytes.now)
