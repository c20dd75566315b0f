-- The operands that are one token ("Arguments" and "Functions" in the documentation of Go's text/template).
use Rattle.std.specs.Prelude.{◌≡◌, ℕ, Bool, true, List, [], ◌∷◌, codes}
use Rattle.tmpl_values.specs.Text.{truth_text}
use Rattle.tmpl_funcs.specs.Func.{name_of}
use Rattle.tmpl_funcs.specs.declared.func.Func.{Func}
use Rattle.tmpl_lex.specs.declared.piece.TokenKind.TheVariants as kind
use Rattle.tmpl_lex.specs.Piece.{Token}
use Rattle.tmpl_grammar.specs.Constant.{IsConstant}
use Rattle.tmpl_grammar.specs.Token.{token, begins_name, name_in}
use Rattle.tmpl_grammar.specs.Tree as tree
use Rattle.tmpl_grammar.specs.Tree.{Operand}

-- the operand that a token is, to which a chain may still be added. No keyword is one.
pub data IsOperand : Token → Operand → Type 0 where
  dot : {bs : List ℕ} → IsOperand (token kind.Dot bs) tree.dot
  field : {t : Token} → t.kind ≡ kind.Field → begins_name (name_in t) ≡ true
      → IsOperand t (tree.fields (name_in t ∷ []))
  variable : {t : Token} → t.kind ≡ kind.Variable → IsOperand t (tree.variable (name_in t) [])
  truth : (b : Bool) → IsOperand (token kind.Word (truth_text b)) (tree.bool_constant b)
  nil_word : IsOperand (token kind.Word (codes "nil")) tree.nil
  a_function : (f : Func) → IsOperand (token kind.Word (name_of f)) (tree.function f)
  a_constant : {t : Token} {o : Operand} → IsConstant t o → IsOperand t o
