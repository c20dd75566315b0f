-- Where the actions of a file begin.
use Rattle.std.specs.Prelude.{◌≡◌, ℕ, ◌+◌, ◌-◌, Bool, false, List, [], ◌++◌, length, Option, Some, None}
use Rattle.tmpl_lex.specs.declared.part.AfterText.{AfterText}
use Rattle.tmpl_lex.specs.declared.part.AfterText.TheVariants as variant
use Rattle.tmpl_lex.specs.declared.part.Part.{Part}
use Rattle.tmpl_lex.specs.declared.part.Rest.{Rest}
use Rattle.tmpl_lex.specs.declared.piece.Token as declared_token
use Rattle.tmpl_lex.specs.Cut.{TextBefore, Closed}
use Rattle.tmpl_lex.specs.Part.{pieces_in}
use Rattle.tmpl_lex.specs.Piece.{Piece}
use Rattle.tmpl_lex.specs.Text.{newlines, text_piece}

-- no closed comment begins with the bytes
abbrev pub IsUncommented : List ℕ → Type 0
IsUncommented bs = (line : ℕ) (body : List ℕ) (trims : Bool) (after : List ℕ) → Closed line body trims after [] → bs ≡ body ++ after → ⊥

-- bytes are what is left of a file after the first `start` of them, beginning on this line; `right` says that a right trim
-- marker stands before. Of the pieces that they are cut into, the one at this place is an action, and its `{{` stands after
-- this many bytes of the file
pub data Begins : ℕ → Bool → ℕ → List ℕ → ℕ → ℕ → Type 0 where
  -- the first `{{`, where no comment begins
  here : {start line : ℕ} {right : Bool} {before opening rest : List ℕ} {texts : List Piece}
      → TextBefore right line before opening rest texts → IsUncommented rest
      → Begins start right line (before ++ opening ++ rest) (length texts) (start + length before)
  -- one after a comment or an action
  further : {start line n at : ℕ} {right trims : Bool} {before opening body rest : List ℕ} {texts here : List Piece}
      → TextBefore right line before opening (body ++ rest) texts → Closed (line + newlines before) body trims rest here
      → Begins (start + length (before ++ opening ++ body)) trims (line + newlines (before ++ opening ++ body)) rest n at
      → Begins start right line (before ++ opening ++ body ++ rest) (length (texts ++ here) + n) at

-- the action at this place of a file begins there
abbrev pub BeginsAt : List ℕ → ℕ → ℕ → Type 0
BeginsAt file place at = Begins 0 false 1 file place at

-- the action at this place of what is left of a file begins there
abbrev pub BeginsIn : List ℕ → Rest → ℕ → ℕ → Type 0
BeginsIn file rest place at = Begins (length file - length rest.bytes.now) rest.trims rest.line rest.bytes.now place at

-- what stands after a text of this many pieces begins there, unless it is nothing
abbrev pub BeginsAfter : List ℕ → Rest → AfterText → ℕ → ℕ → Type 0
BeginsAfter file rest variant.Nothing count at = Unit {0}
BeginsAfter file rest (variant.Action line) count at = BeginsIn file rest count at
BeginsAfter file rest (variant.Unreadable line) count at = BeginsIn file rest count at

-- what begins in the rest after this many pieces begins there
abbrev pub BeginsFurther : List ℕ → Rest → ℕ → Option Rest → Type 0
BeginsFurther file rest count None = Unit {0}
BeginsFurther file rest count (Some r) = (n at : ℕ) → BeginsIn file r n at → BeginsIn file rest (count + n) at

-- what stands after the text of the first part of what is left begins where the part says, and after it all else
abbrev pub BeginsBy : List ℕ → Rest → List declared_token.Token → Part → Type 0
BeginsBy file rest ts p =
    BeginsAfter file rest p.after (length (text_piece p.line p.text.now)) p.opens
    × BeginsFurther file rest (length (pieces_in ts p)) p.rest
