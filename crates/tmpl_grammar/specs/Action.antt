-- What one action says, and which tokens spell it ("Actions" in the documentation of Go's text/template).
use Rattle.std.specs.Prelude.{ℕ, false, List, Option, Some, None, MatchOption, codes}
use Rattle.tmpl_lex.specs.Piece.{Token}
use Rattle.tmpl_grammar.specs.Tree.{text_constant, Pipeline, Header}
use Rattle.tmpl_grammar.specs.Constant.{IsConstant}
use Rattle.tmpl_grammar.specs.Pipeline.{IsBlank, SpellsPipeline}
use Rattle.tmpl_grammar.specs.Header.{is_range, Then, SpellsHeader}
use Rattle.tmpl_grammar.specs.Keyword.{control_spelling, IsWord}
use Rattle.tmpl_grammar.specs.declared.tree.Control.{Control}
use Rattle.tmpl_grammar.specs.declared.tree.Control.TheVariants as control
use Rattle.tmpl_grammar.specs.declared.action.Branch.{Branch}
use Rattle.tmpl_grammar.specs.declared.action.Branch.TheVariants as branch

-- an else branch is an else part that begins with a control of its own
pub data Action : Type 0 where
  pipeline_action : Header → Action
  opening : Control → Header → Action
  plain_else end_action break_action continue_action : Action
  else_branch : Branch → Header → Action
  -- a template of this name begins
  define_action : List ℕ → Action
  -- the template of this name is run, with the value of a pipeline or with nothing
  template_action : List ℕ → Option Pipeline → Action
  -- .. and begins here as well
  block_action : List ℕ → Pipeline → Action

-- the control with which an else part begins
abbrev pub control_in : Branch → Control
control_in branch.If = control.If
control_in branch.With = control.With

-- a string or raw string of this text
abbrev pub IsQuoted : List ℕ → Token → Type 0
IsQuoted name t = IsConstant t (text_constant name)

-- a pipeline, or nothing
abbrev pub SpellsGiven : Option Pipeline → List Token → Type 0
SpellsGiven given ts = MatchOption given (IsBlank ts) (λ p. SpellsPipeline p ts)

-- an action: a header alone, or a keyword and what stands after it
abbrev pub SpellsAction : Action → List Token → Type 0
SpellsAction (pipeline_action h) ts = SpellsHeader false h ts
SpellsAction (opening c h) ts = Then (IsWord (control_spelling c)) (SpellsHeader (is_range c) h) ts
SpellsAction plain_else ts = Then (IsWord (codes "else")) IsBlank ts
SpellsAction (else_branch br h) ts =
    Then (IsWord (codes "else")) (Then (IsWord (control_spelling (control_in br))) (SpellsHeader false h)) ts
SpellsAction end_action ts = Then (IsWord (codes "end")) IsBlank ts
SpellsAction break_action ts = Then (IsWord (codes "break")) IsBlank ts
SpellsAction continue_action ts = Then (IsWord (codes "continue")) IsBlank ts
SpellsAction (define_action name) ts = Then (IsWord (codes "define")) (Then (IsQuoted name) IsBlank) ts
SpellsAction (template_action name p) ts = Then (IsWord (codes "template")) (Then (IsQuoted name) (SpellsGiven p)) ts
SpellsAction (block_action name p) ts = Then (IsWord (codes "block")) (Then (IsQuoted name) (SpellsPipeline p)) ts

-- the control of an else branch
abbrev pub branch_in : Action → Option Branch
branch_in (else_branch br h) = Some br
branch_in a = None
