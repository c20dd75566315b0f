-- The grammar of a header ("Variables" in the documentation of Go's text/template): a pipeline, perhaps after
-- variables. White space may stand between any two tokens, also where Go asks for it.
use Rattle.std.specs.Prelude.{◌≡◌, ◌<◌, ℕ, Bool, true, false, List, ◌∷◌, ◌++◌, length}
use Rattle.tmpl_lex.specs.declared.piece.TokenKind.{TokenKind}
use Rattle.tmpl_lex.specs.declared.piece.TokenKind.TheVariants as kind
use Rattle.tmpl_lex.specs.Piece.{Token}
use Rattle.tmpl_grammar.specs.Token.{name_in}
use Rattle.tmpl_grammar.specs.Tree.{Binding, unbound, declare, assign, declare_pair, Header}
use Rattle.tmpl_grammar.specs.Pipeline.{IsBlank, SpellsPipeline}
use Rattle.tmpl_grammar.specs.declared.tree.Control.{Control}
use Rattle.tmpl_grammar.specs.declared.tree.Control.TheVariants as control

-- ---- single tokens

-- a sign of this kind
abbrev pub IsSign : TokenKind → Token → Type 0
IsSign k t = t.kind ≡ k

-- the variable of this name, which has at least one byte
abbrev pub IsVariable : List ℕ → Token → Type 0
IsVariable name t = (t.kind ≡ kind.Variable) × (name_in t ≡ name) × (0 < length name)

-- perhaps white space, then such a token, and then such tokens
abbrev pub Then : (Token → Type 0) → (List Token → Type 0) → List Token → Type 0
Then Is Rest ts =
    (ws : List Token) × (t : Token) × (us : List Token) × (ts ≡ ws ++ t ∷ us) × IsBlank ws × Is t × Rest us

-- ---- headers

abbrev pub is_range : Control → Bool
is_range control.Range = true
is_range c = false

-- in the header of a range or of another action nothing, `$x :=`, `$x =` or `$i, $x :=`, and then such tokens: a range
-- assigns to no variable, and it alone declares two
abbrev pub SpellsBinding : Bool → Binding → (List Token → Type 0) → List Token → Type 0
SpellsBinding in_range unbound Rest ts = Rest ts
SpellsBinding in_range (declare name) Rest ts = Then (IsVariable name) (Then (IsSign kind.Declare) Rest) ts
SpellsBinding false (assign name) Rest ts = Then (IsVariable name) (Then (IsSign kind.Assign) Rest) ts
SpellsBinding true (declare_pair key name) Rest ts =
    Then (IsVariable key) (Then (IsSign kind.Comma) (Then (IsVariable name) (Then (IsSign kind.Declare) Rest))) ts
SpellsBinding in_range b Rest ts = ⊥

-- the header of a range, or of another action
abbrev pub SpellsHeader : Bool → Header → List Token → Type 0
SpellsHeader in_range h ts = SpellsBinding in_range h.binding (SpellsPipeline h.pipeline) ts
