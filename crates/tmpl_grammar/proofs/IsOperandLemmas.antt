-- For `one_operand`: the operands of one token that are computed are those that the relation admits.
use Rattle.std.proofs.Common.{arith, ◌≡◌, ℕ, Bool, true, false, cond, List, [], ◌∷◌, Option, Some, IfSome, refl, subst, bytes_eq, codes, find, drop}
use lib.Pointwise.{bytes_decides}
use Rattle.std.proofs.lemmas.Bool.{cond_both}
use Rattle.std.proofs.lemmas.Option.{IfSome_then}
use Rattle.tmpl_funcs.specs.Func.{name_of}
use Rattle.tmpl_funcs.specs.declared.func.Func.{Func}
use Rattle.tmpl_lex.specs.Piece.{Token}
use Rattle.tmpl_lex.specs.declared.piece.TokenKind.{TokenKind}
use Rattle.tmpl_lex.specs.declared.piece.TokenKind.TheVariants as kind
use Rattle.tmpl_grammar.specs.Token.{token, begins_name}
use Rattle.tmpl_grammar.specs.Tree as tree
use Rattle.tmpl_grammar.specs.Tree.{Operand}
use Rattle.tmpl_grammar.specs.Constant.{IsConstant}
use Rattle.tmpl_grammar.specs.Operand as operand
use Rattle.tmpl_grammar.specs.Operand.{IsOperand}
use Rattle.tmpl_grammar.specs.Laws.{IsAdmitted, IsComputed}
use Rattle.tmpl_grammar.specs.computed.Constant.{constant_of}
use Rattle.tmpl_grammar.specs.computed.Operand.{funcs, func_named, word_operand, field_operand, operand_by, operand_at}
use Rattle.tmpl_grammar.proofs.IsConstantLemmas.{computes-constant, constant-admitted}
use Rattle.tmpl_grammar.proofs.OptionLemmas.{admitted, mapped}

-- ---- what the relation admits is computed

function-read : (f : Func) → word_operand (name_of f) ≡ Some (tree.function f)
unfolding word_operand func_named
function-read f = grind arith

constant-kind : (t : Token) (o : Operand) → IsConstant t o → operand_at t ≡ constant_of t
unfolding operand_at
constant-kind t o h = grind arith

pub computes-operand : IsComputed IsOperand operand_at
unfolding operand_at word_operand
computes-operand = grind (arith, computes-constant, constant-kind, function-read)

-- ---- what is computed the relation admits

is-field : (name : List ℕ) (b : Bool) → begins_name (drop 1 name) ≡ b → IfSome (field_operand b (drop 1 name)) (IsOperand (token kind.Field name))
is-field name true begins = operand.field refl begins
is-field name false begins = tt

is-constant : (t : Token) → IfSome (constant_of t) (IsOperand t)
is-constant t = IfSome_then (constant_of t) (constant-admitted t) (λ o is. operand.a_constant is)

find-named : (fs : List Func) (name : List ℕ) → IfSome (find (λ f. bytes_eq (name_of f) name) fs) (λ f. name_of f ≡ name)
find-named [] name = tt
find-named (g ∷ fs) name = cond_both _ _ _ (λ o. IfSome o (λ f. name_of f ≡ name)) (bytes_decides (name_of g) name).0 (λ e. find-named fs name)

is-named : (name : List ℕ) → IfSome (word_operand name) (IsOperand (token kind.Word name))
unfolding word_operand func_named
is-named name =
    at (codes "true") (tree.bool_constant true) (operand.truth true) _ (at (codes "false") (tree.bool_constant false) (operand.truth false) _
    (at (codes "nil") tree.nil operand.nil_word _
    (mapped tree.function (IsOperand (token kind.Word name)) (func_named name) (find-named funcs name)
    (λ f is. subst (λ bs. IsOperand (token kind.Word bs) (tree.function f)) is (operand.a_function f)))))
  where
    at : (word : List ℕ) (o : Operand) → IsOperand (token kind.Word word) o → (q : Option Operand) → IfSome q (IsOperand (token kind.Word name))
        → IfSome (cond (bytes_eq name word) (Some o) q) (IsOperand (token kind.Word name))
    at word o is q more = cond_both _ _ _ (λ p. IfSome p (IsOperand (token kind.Word name))) (λ e. rw ((bytes_decides name word).0 e) is) (λ e. more)

is-operand : (k : TokenKind) (bs : List ℕ) → IfSome (operand_by k (token k bs)) (IsOperand (token k bs))
is-operand kind.Dot bs = operand.dot
is-operand kind.Field bs = is-field bs (begins_name (drop 1 bs)) refl
is-operand kind.Variable bs = operand.variable refl
is-operand kind.Word bs = is-named bs
is-operand kind.Number bs = is-constant (token kind.Number bs)
is-operand kind.String bs = is-constant (token kind.String bs)
is-operand kind.RawString bs = is-constant (token kind.RawString bs)
is-operand kind.Character bs = is-constant (token kind.Character bs)
is-operand _ bs = tt

pub operand-admitted : (t : Token) → IfSome (operand_at t) (IsOperand t)
unfolding operand_at
operand-admitted t = is-operand t.kind t.bytes

pub admits-operand : IsAdmitted IsOperand operand_at
admits-operand = admitted IsOperand operand_at operand-admitted

pub ruleset operands = (computes-operand, admits-operand)
