-- Texts and actions joined to a file: the inverse of the cut.
use Rattle.std.specs.Prelude.{◌<◌, ℕ, false, List, [], ◌∷◌, ◌++◌, length, Option, Some, None, codes}
use Rattle.tmpl_lex.specs.Bytes.{Absent}
use Rattle.tmpl_lex.specs.Text.{text_piece}
use Rattle.tmpl_lex.specs.Piece.{Token, Piece, text, action}
use Rattle.tmpl_lex.specs.Cut.{Cuts}
use Rattle.tmpl_grammar.specs.Print.{IsInside, bytes_of}
use Rattle.tmpl_syntax.specs.Print.Printed.{opening_after, parting}

-- a text, or the tokens of an action
pub data PrintedPart : Type 0 where
  a_text : List ℕ → PrintedPart
  an_action : List Token → PrintedPart

-- the bytes of parts, after this text or none
abbrev pub joined_parts : Option (List ℕ) → List PrintedPart → List ℕ
joined_parts before [] = []
joined_parts before (a_text t ∷ ps) = parting before ++ (t ++ joined_parts (Some t) ps)
joined_parts before (an_action ts ∷ ps) = opening_after before ++ (bytes_of ts ++ (codes "}}" ++ joined_parts None ps))

-- ---- parts that can be joined

-- a text is not empty, and `{{` is not in it
pub record IsText (t : List ℕ) : Type 0 where
  pub some : 0 < length t
  pub clear : Absent (codes "{{") t

abbrev pub AreParts : List PrintedPart → Type 0
AreParts [] = Unit {0}
AreParts (a_text t ∷ ps) = IsText t × AreParts ps
AreParts (an_action ts ∷ ps) = IsInside ts × AreParts ps

-- ---- the law

-- the parts are these pieces, at some lines
pub data SamePieces : List PrintedPart → List Piece → Type 0 where
  no_piece : SamePieces [] []
  same_text : {line : ℕ} {t : List ℕ} {ps : List PrintedPart} {qs : List Piece} → SamePieces ps qs
      → SamePieces (a_text t ∷ ps) (text line t ∷ qs)
  same_action : {line : ℕ} {ts : List Token} {ps : List PrintedPart} {qs : List Piece} → SamePieces ps qs
      → SamePieces (an_action ts ∷ ps) (action line ts ∷ qs)

-- a text, of which the empty one is none
abbrev pub before_of : List ℕ → Option (List ℕ)
before_of [] = None
before_of (b ∷ bs) = Some (b ∷ bs)

-- pieces of a text and bytes after it that are these parts
pub record HasParts (line : ℕ) (t : List ℕ) (ps : List PrintedPart) : Type 0 where
  pub pieces : List Piece
  pub cuts : Cuts false line (t ++ joined_parts (before_of t) ps) (text_piece line t ++ pieces)
  pub same : SamePieces ps pieces

-- joined parts are cut into the same parts
abbrev pub CutsBack : Type 0
CutsBack = (ps : List PrintedPart) → AreParts ps → (line : ℕ) → HasParts line [] ps
