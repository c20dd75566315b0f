-- The reading of one action's tokens ("Actions", "Arguments", "Pipelines" and "Variables" in the documentation of Go's
-- text/template), computed. `Pipeline`, `Header` and `Action` say by productions which tokens spell what, and laws that
-- just that is read.
use Rattle.std.specs.Prelude.{ℕ, Bool, true, false, List, ◌∷◌, Option, Some, None, option_map, codes, if◌then◌else◌}
use Rattle.std.specs.Str.{bytes_eq}
use Rattle.tmpl_lex.specs.declared.piece.TokenKind.{TokenKind}
use Rattle.tmpl_lex.specs.declared.piece.TokenKind.TheVariants as kind
use Rattle.tmpl_lex.specs.Piece.{Token}
pub use Rattle.tmpl_grammar.specs.Token.{name_in, begins_name}
pub use Rattle.tmpl_grammar.specs.computed.Token.{is_white, is_blank, without_front, next}
use Rattle.tmpl_grammar.specs.computed.Parser.{start, commands_after}
use Rattle.tmpl_grammar.specs.Tree.{Operand, Pipeline, Binding, unbound}
use Rattle.tmpl_grammar.specs.Tree.{declare, assign, declare_pair, Header, commands_from}
use Rattle.tmpl_grammar.specs.Header.{is_range}
use Rattle.tmpl_grammar.specs.Printable.{may_bind}
use Rattle.tmpl_grammar.specs.computed.Depth.{Reading, reading_of}
use Rattle.tmpl_grammar.specs.Action.{Action, pipeline_action, opening, plain_else, else_branch, end_action}
use Rattle.tmpl_grammar.specs.Action.{break_action, continue_action}
use Rattle.tmpl_grammar.specs.Action.{define_action, template_action, block_action}
use Rattle.tmpl_grammar.specs.computed.Constant.{constant_of}
use Rattle.tmpl_grammar.specs.Tree as tree
use Rattle.tmpl_grammar.specs.declared.tree.Control.{Control}
use Rattle.tmpl_grammar.specs.declared.tree.Control.TheVariants as control
use Rattle.tmpl_grammar.specs.declared.action.Branch.{Branch}
use Rattle.tmpl_grammar.specs.declared.action.Branch.TheVariants as branch
use Rattle.tmpl_grammar.specs.declared.keyword.Keyword.{Keyword}
use Rattle.tmpl_grammar.specs.declared.keyword.Keyword.TheVariants as word

-- ---- pipelines

-- the pipeline that the tokens spell, if they spell one
unfoldable pub pipeline_in : List Token → Option Pipeline
pipeline_in ts = option_map commands_from (commands_after start ts)

-- ---- headers

-- a variable that comes first: its name, the kind of the next token that is no white space, and the tokens after that
pub record VariableFront : Type 0 where
  pub name : List ℕ
  pub next_kind : TokenKind
  pub rest : List Token

-- by the kind of the first token and the name in it, which has at least one byte, and what comes next after it
abbrev pub variable_by : TokenKind → List ℕ → Option (Token × List Token) → Option VariableFront
variable_by kind.Variable (b ∷ bs) (Some p) = Some (record { name = b ∷ bs; next_kind = p.0.kind; rest = p.1 })
variable_by k name o = None

abbrev pub variable_front_at : Option (Token × List Token) → Option VariableFront
variable_front_at None = None
variable_front_at (Some p) = variable_by p.0.kind (name_in p.0) (next p.1)

-- where a variable comes first
abbrev pub variable_front : List Token → Option VariableFront
variable_front ts = variable_front_at (next ts)

-- what comes first in a header: variables and a sign, or neither, and the tokens after them
pub data Front : Type 0 where
  plain : Front
  bound : Binding → List Token → Front

-- after `$i, $x`
abbrev pub second_by : TokenKind → List ℕ → List ℕ → List Token → Front
second_by kind.Declare key name ts = bound (declare_pair key name) ts
second_by k key name ts = plain

abbrev pub second_variable : List ℕ → Option VariableFront → Front
second_variable key None = plain
second_variable key (Some s) = second_by s.next_kind key s.name s.rest

-- after `$x`
abbrev pub front_by : TokenKind → List ℕ → List Token → Front
front_by kind.Declare name ts = bound (declare name) ts
front_by kind.Assign name ts = bound (assign name) ts
front_by kind.Comma name ts = second_variable name (variable_front ts)
front_by k name ts = plain

abbrev pub front_of_variable : Option VariableFront → Front
front_of_variable None = plain
front_of_variable (Some s) = front_by s.next_kind s.name s.rest

abbrev pub front_in : List Token → Front
front_in ts = front_of_variable (variable_front ts)

-- the binding, and the tokens of the pipeline
abbrev pub split_by : Front → List Token → Binding × List Token
split_by plain ts = (unbound, ts)
split_by (bound b rest) ts = (b, rest)

unfoldable pub split : List Token → Binding × List Token
split ts = split_by (front_in ts) ts

abbrev pub header_with : Binding → Pipeline → Header
header_with b p = record { binding = b; pipeline = p }

abbrev pub header_if : Bool → Binding → Option Pipeline → Option Header
header_if true b o = option_map (header_with b) o
header_if false b o = None

abbrev pub header_by : Bool → Binding × List Token → Option Header
header_by in_range h = header_if (may_bind in_range h.0) h.0 (pipeline_in h.1)

-- the header of a range, or of another action
abbrev pub header_in : Bool → List Token → Option Header
header_in in_range ts = header_by in_range (split ts)

-- ---- actions

-- those that speak of templates
abbrev pub spells_template_keyword : List ℕ → Option Keyword
spells_template_keyword name =
    if bytes_eq name (codes "define") then Some word.Define
    else if bytes_eq name (codes "template") then Some word.Template
    else if bytes_eq name (codes "block") then Some word.Block
    else None

abbrev pub spells_keyword : List ℕ → Option Keyword
spells_keyword name =
    if bytes_eq name (codes "if") then Some (word.Control control.If)
    else if bytes_eq name (codes "with") then Some (word.Control control.With)
    else if bytes_eq name (codes "range") then Some (word.Control control.Range)
    else if bytes_eq name (codes "else") then Some word.Else
    else if bytes_eq name (codes "end") then Some word.End
    else if bytes_eq name (codes "break") then Some word.Break
    else if bytes_eq name (codes "continue") then Some word.Continue
    else spells_template_keyword name

abbrev pub keyword_by : TokenKind → List ℕ → Option Keyword
keyword_by kind.Word name = spells_keyword name
keyword_by k name = None

-- the keyword that a token is
unfoldable pub keyword_of : Token → Option Keyword
keyword_of t = keyword_by t.kind t.bytes

-- an action that stands alone
abbrev pub without_tokens : Action → List Token → Option Action
without_tokens a ts = if is_blank ts then Some a else None

-- the else branch that begins with a keyword, if one does
abbrev pub branch_of : Keyword → Option Branch
branch_of (word.Control control.If) = Some branch.If
branch_of (word.Control control.With) = Some branch.With
branch_of k = None

abbrev pub else_branched : Option Branch → List Token → Option Action
else_branched None ts = None
else_branched (Some br) ts = option_map (else_branch br) (header_in false ts)

abbrev pub else_keyword : Option Keyword → List Token → Option Action
else_keyword None ts = None
else_keyword (Some k) ts = else_branched (branch_of k) ts

-- after an `else`: nothing, or an `if` or `with`
abbrev pub else_by : Option (Token × List Token) → Option Action
else_by None = Some plain_else
else_by (Some p) = else_keyword (keyword_of p.0) p.1

-- the text of a string or raw string
abbrev pub text_in : Option Operand → Option (List ℕ)
text_in (Some (tree.text_constant bytes)) = Some bytes
text_in o = None

abbrev pub quoted_before : List Token → Option (List ℕ) → Option (List ℕ × List Token)
quoted_before ts o = option_map (λ name. (name, ts)) o

abbrev pub quoted_at : Option (Token × List Token) → Option (List ℕ × List Token)
quoted_at None = None
quoted_at (Some p) = quoted_before p.1 (text_in (constant_of p.0))

-- the name that comes first, in quotes, and the tokens after it
abbrev pub quoted_in : List Token → Option (List ℕ × List Token)
quoted_in ts = quoted_at (next ts)

-- an action by its name and what stands after that
abbrev pub with_name : (List ℕ → List Token → Option Action) → Option (List ℕ × List Token) → Option Action
with_name by None = None
with_name by (Some p) = by p.0 p.1

abbrev pub named_action : (List ℕ → List Token → Option Action) → List Token → Option Action
named_action by ts = with_name by (quoted_in ts)

abbrev pub define_by : List ℕ → List Token → Option Action
define_by name ts = without_tokens (define_action name) ts

abbrev pub call_with : List ℕ → Pipeline → Action
call_with name p = template_action name (Some p)

abbrev pub template_by : List ℕ → List Token → Option Action
template_by name ts =
    if is_blank ts then Some (template_action name None) else option_map (call_with name) (pipeline_in ts)

abbrev pub block_by : List ℕ → List Token → Option Action
block_by name ts = option_map (block_action name) (pipeline_in ts)

-- a control
abbrev pub opening_by : Control → List Token → Option Action
opening_by c ts = option_map (opening c) (header_in (is_range c) ts)

abbrev pub action_by : Keyword → List Token → Option Action
action_by (word.Control c) ts = opening_by c ts
action_by word.Else ts = else_by (next ts)
action_by word.End ts = without_tokens end_action ts
action_by word.Break ts = without_tokens break_action ts
action_by word.Continue ts = without_tokens continue_action ts
action_by word.Define ts = named_action define_by ts
action_by word.Template ts = named_action template_by ts
action_by word.Block ts = named_action block_by ts

-- by the keyword that comes first, if one does
abbrev pub action_after : Option Keyword → List Token → List Token → Option Action
action_after None rest ts = option_map pipeline_action (header_in false ts)
action_after (Some k) rest ts = action_by k rest

abbrev pub action_at : Option (Token × List Token) → List Token → Option Action
action_at None ts = None
action_at (Some p) ts = action_after (keyword_of p.0) p.1 ts

-- what the tokens of an action say, if they are an action of the grammar
unfoldable pub action_in : List Token → Option Action
action_in ts = action_at (next ts) ts

-- .. where its parentheses are within the limit
abbrev pub reading_in : List Token → Reading
reading_in ts = reading_of (action_in ts)
