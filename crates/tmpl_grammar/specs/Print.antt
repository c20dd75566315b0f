-- The tokens by which an action is printed, and how they stand in a file.
use Rattle.std.specs.Prelude.{ℕ, List, [], ◌∷◌, ◌++◌, map, Option, Some, codes}
use Rattle.std.specs.Fmt.{signed_decimal}
use Rattle.std.specs.Option.{option_map_or}
use Rattle.tmpl_values.specs.Quote.{quote}
use Rattle.tmpl_values.specs.Text.{truth_text}
use Rattle.tmpl_funcs.specs.Func.{name_of}
use Rattle.tmpl_lex.specs.Bytes.{BeginsNone}
use Rattle.tmpl_lex.specs.Delimiter.{IsLeftMarker}
pub use Rattle.tmpl_lex.specs.Token.{bytes_of, Spells}
pub use Rattle.tmpl_grammar.specs.Token.{token}
use Rattle.tmpl_lex.specs.Piece.{Token}
use Rattle.tmpl_lex.specs.declared.piece.TokenKind.TheVariants as kind
use Rattle.tmpl_grammar.specs.Tree as tree
use Rattle.tmpl_grammar.specs.Tree.{Operand, Operands, Pipeline}
use Rattle.tmpl_grammar.specs.Tree.{Binding, unbound, declare, assign, declare_pair, Header}
use Rattle.tmpl_grammar.specs.Action.{Action, pipeline_action, opening, plain_else, else_branch}
use Rattle.tmpl_grammar.specs.Action.{end_action, break_action, continue_action, define_action, template_action}
use Rattle.tmpl_grammar.specs.Action.{block_action, control_in}
use Rattle.tmpl_grammar.specs.Keyword.{control_spelling}

-- ---- the tokens of a pipeline

abbrev pub space : Token
space = token kind.Space (codes " ")

abbrev pub word : List ℕ → Token
word bs = token kind.Word bs

abbrev pub variable_token : List ℕ → Token
variable_token name = token kind.Variable (codes "$" ++ name)

abbrev pub chain_tokens : List (List ℕ) → List Token
chain_tokens names = map (λ n. token kind.Field (codes "." ++ n)) names

-- operands parted by one space, commands by space, bar, space; whole constants in decimal, texts quoted
abbrev mutual
  pub operand_tokens : Operand → List Token
  operand_tokens tree.dot = token kind.Dot (codes ".") ∷ []
  operand_tokens (tree.fields names) = chain_tokens names
  operand_tokens (tree.variable name names) = variable_token name ∷ chain_tokens names
  operand_tokens (tree.bool_constant b) = word (truth_text b) ∷ []
  operand_tokens (tree.number_constant n) = token kind.Number (signed_decimal n) ∷ []
  operand_tokens (tree.text_constant bytes) = token kind.String (quote bytes) ∷ []
  operand_tokens tree.nil = word (codes "nil") ∷ []
  operand_tokens (tree.function f) = word (name_of f) ∷ []
  operand_tokens (tree.group commands names) = token kind.LeftParenthesis (codes "(")
      ∷ (pipeline_tokens commands ++ token kind.RightParenthesis (codes ")") ∷ chain_tokens names)

  pub more_tokens : Operands → List Token
  more_tokens tree.no_operand = []
  more_tokens (tree.operand o os) = space ∷ (operand_tokens o ++ more_tokens os)

  pub command_tokens : Operands → List Token
  command_tokens tree.no_operand = []
  command_tokens (tree.operand o os) = operand_tokens o ++ more_tokens os

  pub later_tokens : Pipeline → List Token
  later_tokens tree.no_command = []
  later_tokens (tree.command c cs) = space ∷ token kind.Pipe (codes "|") ∷ space ∷ (command_tokens c ++ later_tokens cs)

  pub pipeline_tokens : Pipeline → List Token
  pipeline_tokens tree.no_command = []
  pipeline_tokens (tree.command os cs) = command_tokens os ++ later_tokens cs

-- ---- the tokens of an action

-- the variables of a header and their sign, each with a space after it
abbrev pub binding_tokens : Binding → List Token
binding_tokens unbound = []
binding_tokens (declare name) = variable_token name ∷ space ∷ token kind.Declare (codes ":=") ∷ space ∷ []
binding_tokens (assign name) = variable_token name ∷ space ∷ token kind.Assign (codes "=") ∷ space ∷ []
binding_tokens (declare_pair key name) = variable_token key ∷ token kind.Comma (codes ",") ∷ space
    ∷ variable_token name ∷ space ∷ token kind.Declare (codes ":=") ∷ space ∷ []

abbrev pub header_tokens : Header → List Token
header_tokens h = binding_tokens h.binding ++ pipeline_tokens h.pipeline

-- a pipeline, after a space
abbrev pub given_tokens : Option Pipeline → List Token
given_tokens given = option_map_or (λ p. space ∷ pipeline_tokens p) given []

-- a keyword of this spelling, a name in quotes, and what stands after it
abbrev pub named_tokens : List ℕ → List ℕ → List Token → List Token
named_tokens keyword name ts = word keyword ∷ space ∷ token kind.String (quote name) ∷ ts

abbrev pub action_tokens : Action → List Token
action_tokens (pipeline_action h) = header_tokens h
action_tokens (opening c h) = word (control_spelling c) ∷ space ∷ header_tokens h
action_tokens plain_else = word (codes "else") ∷ []
action_tokens (else_branch br h) =
    word (codes "else") ∷ space ∷ word (control_spelling (control_in br)) ∷ space ∷ header_tokens h
action_tokens end_action = word (codes "end") ∷ []
action_tokens break_action = word (codes "break") ∷ []
action_tokens continue_action = word (codes "continue") ∷ []
action_tokens (define_action name) = named_tokens (codes "define") name []
action_tokens (template_action name given) = named_tokens (codes "template") name (given_tokens given)
action_tokens (block_action name p) = named_tokens (codes "block") name (given_tokens (Some p))

-- ---- how they stand in a file

-- the tokens may stand in an action, whatever stands after it: they are spelled before its `}}`, and begin with no
-- left trim marker
pub record IsInside (ts : List Token) : Type 0 where
  pub spells : (rest : List ℕ) → Spells ts (codes "}}" ++ rest)
  pub unmarked : (rest : List ℕ) → BeginsNone IsLeftMarker (bytes_of ts ++ (codes "}}" ++ rest))
