-- The words that begin an action.
use Rattle.std.specs.Prelude.{◌≡◌, ℕ, List, codes}
use Rattle.tmpl_lex.specs.declared.piece.TokenKind.TheVariants as kind
use Rattle.tmpl_lex.specs.Piece.{Token}
use Rattle.tmpl_grammar.specs.declared.tree.Control.{Control}
use Rattle.tmpl_grammar.specs.declared.tree.Control.TheVariants as control

-- how the keyword of a control is spelled
abbrev pub control_spelling : Control → List ℕ
control_spelling control.If = codes "if"
control_spelling control.With = codes "with"
control_spelling control.Range = codes "range"

-- the word that is spelled so
abbrev pub IsWord : List ℕ → Token → Type 0
IsWord spelling t = (t.kind ≡ kind.Word) × (t.bytes ≡ spelling)
