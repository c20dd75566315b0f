-- The operand of a token, computed: the twin of `IsOperand`.
use Rattle.std.specs.Prelude.{ℕ, Bool, true, false, List, [], ◌∷◌, Option, Some}
use Rattle.std.specs.Prelude.{None, option_map, find, codes, bytes_eq, if◌then◌else◌}
use Rattle.tmpl_funcs.specs.Func.{name_of}
use Rattle.tmpl_funcs.specs.declared.func.Func.{Func}
use Rattle.tmpl_funcs.specs.declared.func.Func.TheVariants.{And, Or, Not, Len, Index, Slice, Print, Println}
use Rattle.tmpl_funcs.specs.declared.func.Func.TheVariants.{Printf, Html, Urlquery, Eq, Ne, Lt, Le, Gt, Ge}
use Rattle.tmpl_lex.specs.declared.piece.TokenKind.{TokenKind}
use Rattle.tmpl_lex.specs.declared.piece.TokenKind.TheVariants as kind
use Rattle.tmpl_lex.specs.Piece.{Token}
use Rattle.tmpl_grammar.specs.Token.{begins_name, name_in}
use Rattle.tmpl_grammar.specs.Tree as tree
use Rattle.tmpl_grammar.specs.Tree.{Operand}
use Rattle.tmpl_grammar.specs.computed.Constant.{constant_of}

-- the functions, each once
abbrev pub funcs : List Func
funcs =
    And ∷ Or ∷ Not ∷ Len ∷ Index ∷ Slice ∷ Print ∷ Println ∷ Printf ∷ Html ∷ Urlquery ∷ Eq ∷ Ne ∷ Lt ∷ Le ∷ Gt ∷ Ge ∷ []

-- the function of this name, if there is one
unfoldable pub func_named : List ℕ → Option Func
func_named name = find (λ f. bytes_eq (name_of f) name) funcs

-- the operand that a word is: `true`, `false`, `nil` or a function
unfoldable pub word_operand : List ℕ → Option Operand
word_operand name =
    if bytes_eq name (codes "true") then Some (tree.bool_constant true)
    else if bytes_eq name (codes "false") then Some (tree.bool_constant false)
    else if bytes_eq name (codes "nil") then Some tree.nil
    else option_map tree.function (func_named name)

abbrev pub field_operand : Bool → List ℕ → Option Operand
field_operand true name = Some (tree.fields (name ∷ []))
field_operand false name = None

abbrev pub variable_operand : List ℕ → Operand
variable_operand name = tree.variable name []

abbrev pub operand_by : TokenKind → Token → Option Operand
operand_by kind.Dot t = Some tree.dot
operand_by kind.Field t = field_operand (begins_name (name_in t)) (name_in t)
operand_by kind.Variable t = Some (variable_operand (name_in t))
operand_by kind.Word t = word_operand t.bytes
operand_by kind.Number t = constant_of t
operand_by kind.String t = constant_of t
operand_by kind.RawString t = constant_of t
operand_by kind.Character t = constant_of t
operand_by k t = None

-- the operand of a token, if it is one
unfoldable pub operand_at : Token → Option Operand
operand_at t = operand_by t.kind t

-- a constant, `nil` and dot begin no later command of a pipeline
abbrev pub begins_later : Operand → Bool
begins_later (tree.fields names) = true
begins_later (tree.variable name names) = true
begins_later (tree.function f) = true
begins_later (tree.group commands names) = true
begins_later o = false
