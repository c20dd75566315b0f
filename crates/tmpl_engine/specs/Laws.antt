-- Laws of the machine, and of a render of no template.
use Rattle.std.specs.Prelude.{◌≡◌, ◌<◌, ◌≤◌, ◌⊎◌, ℕ, ◌+◌, ◌*◌, true, List, length, Option, None, Some, Err, slice_get}
use Rattle.tmpl_values.specs.Value.{Value}
use Rattle.tmpl_syntax.specs.Set.{Template}
pub use Rattle.tmpl_meaning.specs.Laws.{Begins}
use Rattle.tmpl_meaning.specs.Meaning.{Ran, Rules, ran}
use Rattle.tmpl_meaning.specs.Sink.{Told, Untouched, sunk}
use Rattle.tmpl_code.specs.Calls.{IsChain}
use Rattle.tmpl_code.specs.Code.{Starts}
use Rattle.tmpl_code.specs.MakesText.{set_makes_text}
use Rattle.tmpl_code.specs.Room.{Suffices}
use Rattle.tmpl_engine.specs.State.{Plan, State, starting, starting_dot}
use Rattle.tmpl_engine.specs.Machine.{goes, next_of}
use Rattle.tmpl_engine.specs.Ends.{Ends, RunsTo}
use Rattle.tmpl_engine.specs.Render.{IsRender}
use Rattle.tmpl_engine.specs.declared.error.RenderError.TheVariants.{NoTemplate}

-- the code is that of the templates
abbrev pub IsPlanLinked : Plan → Type 0
IsPlanLinked plan = Starts plan.templates plan.templates plan.starts plan.code

-- over a stack of as many cells as each chain of calls from it needs that is no longer than the depth, a run that
-- starts at a template gives just the text, the fault and the mark that the template means: each turn is ready, and
-- none gets stuck
abbrev pub ComesToMeaning : Type 0
ComesToMeaning =
    (plan : Plan) (size : ℕ) → IsPlanLinked plan → 1 ≤ plan.rules.depth_limit
    → (number start : ℕ) (t : Template) (input : Option Value)
    → Suffices plan.rules.depth_limit plan.templates number size
    → slice_get plan.templates number ≡ Some t → slice_get plan.starts number ≡ Some start
    → Ends plan size (starting plan number start (starting_dot input)) (ran plan.rules plan.templates t.0 t.1 input)

-- where no chain of calls from a template is longer than a depth, no greater depth makes a difference
abbrev pub DepthByChains : Type 0
DepthByChains =
    (rules : Rules) (ts : List Template) (depth number : ℕ) (t : Template) (input : Option Value)
    → slice_get ts number ≡ Some t → ((rest : List ℕ) → IsChain ts number rest → length rest < depth)
    → depth ≤ rules.depth_limit
    → ran (record rules { depth_limit = depth }) ts t.0 t.1 input ≡ ran rules ts t.0 t.1 input

-- a state that ends never has more cells than that
abbrev pub StaysWithin : Type 0
StaysWithin =
    (plan : Plan) (size : ℕ) (s t : State) (end : Ran) → Ends plan size s end → length s.cells ≤ size
    → next_of plan s ≡ goes t → length t.cells ≤ size

-- a state has one end at most, whatever the size of the stack
abbrev pub HasOneEnd : Type 0
HasOneEnd = (plan : Plan) (m n : ℕ) (s : State) (f g : Ran) → Ends plan m s f → Ends plan n s g → f ≡ g

-- the steps left are lessened, or they stay and how many templates are inside one another is lessened, or both stay and
-- the place goes forward in the code
abbrev pub Lessens : State → State → Type 0
Lessens s t =
    (t.left < s.left)
    ⊎ ((t.left ≡ s.left) × ((t.depth < s.depth) ⊎ ((t.depth ≡ s.depth) × (s.place < t.place))))

-- so does each turn
abbrev pub EachTurnLessens : Type 0
EachTurnLessens = (plan : Plan) (s t : State) → next_of plan s ≡ goes t → Lessens s t

-- for each step that may be taken, and once more, twice as many turns as the code has instructions
abbrev pub most_turns : Plan → ℕ
most_turns plan = 2 * length plan.code * (plan.rules.step_limit + 1)

-- a run that starts at a template, and ends, takes at most this many turns; `ComesToMeaning` says
-- when it does
abbrev pub TurnsAreBounded : Type 0
TurnsAreBounded =
    (plan : Plan) (size number start : ℕ) (dot : Value) (end : Ran)
    → Ends plan size (starting plan number start dot) end → RunsTo plan size (most_turns plan) (starting plan number start dot) end

-- what was put out so far begins the text of the end
abbrev pub OnlyAdds : Type 0
OnlyAdds = (plan : Plan) (size : ℕ) (s : State) (end : Ran) → Ends plan size s end → Begins s.text end.text

-- where a function that makes a text was called so far, the end says so
abbrev pub MarkStays : Type 0
MarkStays =
    (plan : Plan) (size : ℕ) (s : State) (end : Ran) → Ends plan size s end → s.made_text ≡ true → end.made_text ≡ true

-- a run that makes text is of a set in which some template names a function that makes one
abbrev pub TextIsNamed : Type 0
TextIsNamed =
    (rules : Rules) (ts : List Template) (number : ℕ) (t : Template) (input : Option Value)
    → slice_get ts number ≡ Some t → (ran rules ts t.0 t.1 input).made_text ≡ true → set_makes_text ts ≡ true

-- where a render answers that there is no template there is none of the name, and nothing was put out
abbrev pub LeavesSink : Type 0
LeavesSink = (r : Option Ran) (before after : Told) → IsRender r (sunk before after) (Err NoTemplate)
    → (r ≡ None) × Untouched (sunk before after)
