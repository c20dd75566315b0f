-- What holds of each action that is read from a file, and lets it be printed and read again.
use Rattle.std.specs.Prelude.{◌≡◌, ◌<◌, ◌≤◌, ◌^◌, ℕ, Bool, false, true, not, List, [], ◌∷◌, length, Option, Some, None}
use Rattle.std.specs.List.{list_all}
use lib.Signed.{mag}
use Rattle.tmpl_values.specs.Bytes.{AreBytes}
use Rattle.tmpl_lex.specs.Bytes.{is_name_byte}
use Rattle.tmpl_grammar.specs.Token.{begins_name}
use Rattle.tmpl_grammar.specs.Tree as tree
use Rattle.tmpl_grammar.specs.Tree.{Operand, Operands, Pipeline}
use Rattle.tmpl_grammar.specs.Tree.{Binding, unbound, declare, assign, declare_pair, Header}
use Rattle.tmpl_grammar.specs.Action.{Action, pipeline_action, opening}
use Rattle.tmpl_grammar.specs.Action.{else_branch, define_action}
use Rattle.tmpl_grammar.specs.Action.{template_action, block_action}
use Rattle.tmpl_grammar.specs.Header.{is_range}
use Rattle.tmpl_grammar.specs.Pipeline.{may_be_later}
use Rattle.tmpl_grammar.specs.Depth.{depth_of_pipeline, most_deep}

-- ---- names

abbrev pub IsNamed : List ℕ → Type 0
IsNamed name = list_all is_name_byte name ≡ true

abbrev pub IsFieldName : List ℕ → Type 0
IsFieldName name = (begins_name name ≡ true) × IsNamed name

abbrev pub AreFieldNames : List (List ℕ) → Type 0
AreFieldNames [] = Unit {0}
AreFieldNames (n ∷ ns) = IsFieldName n × AreFieldNames ns

abbrev pub IsFieldChain : List (List ℕ) → Type 0
IsFieldChain [] = ⊥
IsFieldChain (n ∷ ns) = IsFieldName n × AreFieldNames ns

-- ---- pipelines

abbrev mutual
  pub OfOperand : Operand → Type 0
  OfOperand (tree.fields names) = IsFieldChain names
  OfOperand (tree.variable name names) = IsNamed name × AreFieldNames names
  OfOperand (tree.number_constant n) = mag n < 2 ^ 63
  OfOperand (tree.text_constant bytes) = AreBytes bytes
  OfOperand (tree.group commands names) = OfCommands commands × AreFieldNames names
  OfOperand o = Unit {0}

  pub OfMore : Operands → Type 0
  OfMore tree.no_operand = Unit {0}
  OfMore (tree.operand o os) = OfOperand o × OfMore os

  pub OfCommand : Operands → Type 0
  OfCommand tree.no_operand = ⊥
  OfCommand (tree.operand o os) = OfOperand o × OfMore os

  pub OfLater : Pipeline → Type 0
  OfLater tree.no_command = Unit {0}
  OfLater (tree.command os cs) = (may_be_later os ≡ true) × OfCommand os × OfLater cs

  pub OfCommands : Pipeline → Type 0
  OfCommands tree.no_command = ⊥
  OfCommands (tree.command os cs) = OfCommand os × OfLater cs

abbrev pub OfPipeline : Pipeline → Type 0
OfPipeline p = OfCommands p × (depth_of_pipeline p ≤ most_deep)

-- ---- actions

abbrev pub OfVariable : List ℕ → Type 0
OfVariable name = (0 < length name) × IsNamed name

abbrev pub OfBinding : Binding → Type 0
OfBinding unbound = Unit {0}
OfBinding (declare name) = OfVariable name
OfBinding (assign name) = OfVariable name
OfBinding (declare_pair key name) = OfVariable key × OfVariable name

-- how a header may bind variables: the header of a range assigns to none, and it alone declares two
abbrev pub may_bind : Bool → Binding → Bool
may_bind in_range (assign name) = not in_range
may_bind in_range (declare_pair key name) = in_range
may_bind in_range b = true

-- of a range, or of another action
abbrev pub OfHeader : Bool → Header → Type 0
OfHeader in_range h = (may_bind in_range h.binding ≡ true) × OfBinding h.binding × OfPipeline h.pipeline

abbrev pub OfGiven : Option Pipeline → Type 0
OfGiven None = Unit {0}
OfGiven (Some p) = OfPipeline p

abbrev pub OfAction : Action → Type 0
OfAction (pipeline_action h) = OfHeader false h
OfAction (opening c h) = OfHeader (is_range c) h
OfAction (else_branch br h) = OfHeader false h
OfAction (define_action name) = AreBytes name
OfAction (template_action name given) = AreBytes name × OfGiven given
OfAction (block_action name p) = AreBytes name × OfPipeline p
OfAction a = Unit {0}
