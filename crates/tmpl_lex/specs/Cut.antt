-- The cut of a file into texts and actions: actions stand between `{{` and `}}`, and all other bytes are text (the
-- overview in the documentation of Go's text/template). That it is told by bytes, and the lines, are our own rules.
use Rattle.std.specs.Prelude.{◌≡◌, ◌+◌, ℕ, Bool, false, List, [], ◌∷◌, ◌++◌, codes}
use Rattle.tmpl_lex.specs.Bytes.{Absent}
use Rattle.tmpl_lex.specs.Delimiter.{Opens, Closes}
use Rattle.tmpl_lex.specs.Piece.{Token, Piece, action, unreadable}
use Rattle.tmpl_lex.specs.Text.{newlines, Texts}
use Rattle.tmpl_lex.specs.Token.{bytes_of, Spells}

-- what stands after an opening delimiter, up to the end of the one that closes it, whether that trims, the bytes
-- after it, and the piece that it is on this line
pub data Closed : ℕ → List ℕ → Bool → List ℕ → List Piece → Type 0 where
  -- a comment, which is no piece, ends with its first `*/`
  a_comment : {line : ℕ} {trims : Bool} (inside : List ℕ) {closing rest : List ℕ}
      → Absent (codes "*/") (inside ++ codes "*") → Closes trims closing
      → Closed line (codes "/*" ++ inside ++ codes "*/" ++ closing) trims rest []
  an_action : {line : ℕ} {trims : Bool} {ts : List Token} {closing rest : List ℕ}
      → Spells ts (closing ++ rest) → Closes trims closing
      → Closed line (bytes_of ts ++ closing) trims rest (action line ts ∷ [])

-- the text before the first `{{`, with what opens there and the bytes after it: no `{{` begins in it, nor with its
-- last byte; it is these pieces
pub record TextBefore (right : Bool) (line : ℕ) (before opening rest : List ℕ) (pieces : List Piece) : Type 0 where
  pub left : Bool
  pub first : Absent (codes "{{") (before ++ codes "{")
  pub opens : Opens left opening rest
  pub texts : Texts right left line before pieces

-- the bytes, of which the first stands on this line, are cut into these pieces; `right` says that a right trim marker
-- stands before them
pub data Cuts : Bool → ℕ → List ℕ → List Piece → Type 0 where
  -- no action: all is text
  last : {right : Bool} {line : ℕ} {bs : List ℕ} {texts : List Piece}
      → Absent (codes "{{") bs → Texts right false line bs texts → Cuts right line bs texts
  -- a comment or an action, and what the bytes after it are cut into
  closed : {right trims : Bool} {line : ℕ} {before opening body rest : List ℕ} {texts here ps : List Piece}
      → TextBefore right line before opening (body ++ rest) texts → Closed (line + newlines before) body trims rest here
      → Cuts trims (line + newlines (before ++ opening ++ body)) rest ps
      → Cuts right line (before ++ opening ++ body ++ rest) (texts ++ here ++ ps)
  -- a `{{` after which no closed comment and no closed action begins
  unclosed : {right : Bool} {line : ℕ} {before opening rest : List ℕ} {texts : List Piece}
      → TextBefore right line before opening rest texts
      → ((here : ℕ) (body : List ℕ) (trims : Bool) (after : List ℕ) (ps : List Piece)
      → Closed here body trims after ps → rest ≡ body ++ after → ⊥)
      → Cuts right line (before ++ opening ++ rest) (texts ++ unreadable (line + newlines before) ∷ [])
