-- For `read_action`: of an action that tokens spell, a pipeline is left out just where it nests too deep.
use Rattle.std.proofs.Common.{arith, ◌≡◌, Bool, false, List, Option, Some, None, IfSome, refl, option_map}
use Rattle.tmpl_lex.specs.Piece.{Token}
use Rattle.tmpl_grammar.specs.Tree.{Pipeline, Header}
use Rattle.tmpl_grammar.specs.Action.{Action, pipeline_action, opening, else_branch, template_action, block_action, SpellsAction}
use Rattle.tmpl_grammar.specs.Pipeline.{SpellsPipeline}
use Rattle.tmpl_grammar.specs.Header.{is_range, SpellsHeader}
use Rattle.tmpl_grammar.specs.computed.Depth.{reading_of, limited_action, is_left_out, lacks_pipeline, reading_held}
use Rattle.tmpl_grammar.specs.computed.Reading.{action_in}
use Rattle.tmpl_grammar.proofs.ActionLemmas.{spells-action}
use Rattle.tmpl_grammar.proofs.OptionLemmas.{told}

-- a pipeline that tokens spell has commands
pipeline-there : (p : Pipeline) (ts : List Token) → SpellsPipeline p ts → is_left_out p ≡ false
pipeline-there p ts s = grind arith

header-there : (in_range : Bool) (h : Header) (ts : List Token) → SpellsHeader in_range h ts → is_left_out h.pipeline ≡ false
header-there in_range h ts s = grind (arith, pipeline-there)

action-there : (a : Action) (ts : List Token) → SpellsAction a ts → lacks_pipeline a ≡ false
action-there (pipeline_action h) ts s = header-there false h ts s
action-there (opening c h) ts s = header-there (is_range c) h _ s.6
action-there (else_branch br h) ts s = header-there false h _ s.6.6
action-there (template_action name (Some p)) ts s = pipeline-there p _ s.6.6
action-there (block_action name p) ts s = pipeline-there p _ s.6.6
action-there _ ts s = refl

held-by : (a : Action) → lacks_pipeline a ≡ false → reading_held (Some (limited_action a)) ≡ reading_of (Some a)
held-by a e = grind arith

pub held-reading : (ts : List Token) → reading_held (option_map limited_action (action_in ts)) ≡ reading_of (action_in ts)
held-reading ts = by (action_in ts) (told (λ a. SpellsAction a ts) (action_in ts) (spells-action ts))
  where
    by : (o : Option Action) → IfSome o (λ a. SpellsAction a ts) → reading_held (option_map limited_action o) ≡ reading_of o
    by None s = refl
    by (Some a) s = held-by a (action-there a ts s)

pub ruleset readings = (held-reading)
