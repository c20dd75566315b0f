-- What one instruction does.
use Rattle.std.specs.Prelude.{ℕ, zero, suc, ◌+◌, ◌-◌, ◌&&◌, nat_eq, nat_lt, Bool, true, false, List, [], ◌∷◌, ◌++◌}
use Rattle.std.specs.Prelude.{drop}
use Rattle.std.specs.Prelude.{Option, Some, None, Result, Ok, Err, slice_get, slice_set}
use Rattle.tmpl_values.specs.Value as value
use Rattle.tmpl_values.specs.Value.{Value, nothing}
use Rattle.tmpl_values.specs.Elements.{Element, elements, pairs}
use Rattle.tmpl_values.specs.Text.{text_of}
use Rattle.tmpl_values.specs.Truth.{truth}
use Rattle.tmpl_syntax.specs.Set.{Template}
use Rattle.tmpl_meaning.specs.Fault.{Cause, Fault, steps_spent, not_a_range, calls_too_deep}
use Rattle.tmpl_meaning.specs.Meaning.{Ran}
use Rattle.tmpl_meaning.specs.Pipeline.{chain}
use Rattle.tmpl_code.specs.Instruction as code
use Rattle.tmpl_code.specs.Instruction.{Operation, Instruction}
use Rattle.tmpl_engine.specs.Cell.{Cell, cell, fresh, slot}
use Rattle.tmpl_engine.specs.State.{Plan, State}
use Rattle.tmpl_engine.specs.Step.{Went, on, halted, lacks, made_by}
use Rattle.tmpl_engine.specs.Step as pipe

-- goes on from a state, ends, or does not find what it needs
pub data Turn : Type 0 where
  goes : State → Turn
  ended : Ran → Turn
  stuck : Turn

-- ---- ends

abbrev pub ran_so : State → Option Fault → Ran
ran_so s fault = record { text = s.text; fault = fault; made_text = s.made_text }

abbrev pub fault_in : Template → ℕ → Cause → Fault
fault_in t line cause = record { file = t.1.file; line = line; template = t.0; cause = cause }

-- a fault of this template
abbrev pub fail_with : Template → ℕ → Cause → State → Turn
fail_with t line cause s = ended (ran_so s (Some (fault_in t line cause)))

-- ---- steps

abbrev pub after_step_if : Bool → Plan → Template → ℕ → State → (State → Turn) → Turn
after_step_if true plan t line s go = fail_with t line (steps_spent plan.rules.step_limit) s
after_step_if false plan t line s go = go (record s { left = s.left - 1; line = line })

-- takes a step and goes on, or stops where none is left
abbrev pub after_step : Plan → Template → ℕ → State → (State → Turn) → Turn
after_step plan t line s go = after_step_if (nat_eq s.left 0) plan t line s go

-- ---- cells

-- goes on with these cells at a place
abbrev pub onto : List Cell → ℕ → State → Turn
onto cs place s = goes (record s { cells = cs; place = place })

-- with the newest cell and those below it
abbrev pub top : List Cell → (Cell → List Cell → Turn) → Turn
top [] go = stuck
top (c ∷ cs) go = go c cs

-- with the two cells of a range: the dot from outside, with the place of its turn, and the value gone over, with the
-- index of the element that is visited
abbrev pub ring : List Cell → (Cell → Cell → List Cell → Turn) → Turn
ring [] go = stuck
ring (d ∷ []) go = stuck
ring (d ∷ v ∷ cs) go = go d v cs

-- with the three cells of a template: `$`, the place where its caller goes on, and the caller's dot, with its number
abbrev pub frame : List Cell → (Cell → Cell → List Cell → Turn) → Turn
frame [] go = stuck
frame (c ∷ []) go = stuck
frame (c ∷ back ∷ []) go = stuck
frame (c ∷ back ∷ saved ∷ cs) go = go back saved cs

-- ---- pipelines

abbrev pub turn_of_operation : Template → Operation → Went → State → Turn
turn_of_operation t o (on skip cs) s =
    goes (record s { cells = cs; made_text = made_by o s.made_text; place = s.place + 1 + skip })
turn_of_operation t o (halted cause) s = fail_with t s.line cause (record s { made_text = made_by o s.made_text })
turn_of_operation t o lacks s = stuck

-- ---- variables

-- the newest value is a variable; below it there is one for an index or key, if that is wanted
abbrev pub hold_variable : Bool → Cell → List Cell → List Cell
hold_variable false c cs = c ∷ cs
hold_variable true c cs = c ∷ fresh nothing ∷ cs

-- a cell that stays if it is a variable
abbrev pub kept_on : Bool → Cell → List Cell → List Cell
kept_on true c cs = c ∷ cs
kept_on false c cs = cs

-- ---- `if` and `with`

abbrev pub branch : Bool → Bool → ℕ → Cell → List Cell → State → Turn
branch true kept skip c cs s = onto (kept_on kept c cs) (s.place + 1) s
branch false kept skip c cs s = onto (kept_on kept c cs) (s.place + 1 + skip) s

abbrev pub with_dot : Bool → Bool → ℕ → Cell → List Cell → State → Turn
with_dot true kept skip c cs s =
    goes (record s { cells = fresh s.dot ∷ kept_on kept c cs; dot = c.val; place = s.place + 1 })
with_dot false kept skip c cs s = onto (kept_on kept c cs) (s.place + 1 + skip) s

-- ---- ranges

-- what a range visits, by whether it wants the index or key
abbrev pub elements_for : Bool → Value → Option (List Element)
elements_for false v = elements v
elements_for true v = pairs v

-- a range opens over these elements, whose value is in this cell; its turn gives a dot again
abbrev pub open_range : Plan → Template → ℕ → Cell → List Cell → Option (List Element) → State → Turn
open_range plan t skip c cs None s = fail_with t s.line not_a_range s
open_range plan t skip c cs (Some []) s = onto cs (s.place + 1 + skip) s
open_range plan t skip c cs (Some (e ∷ es)) s =
    after_step plan t s.line s (λ s. goes (record s {
      cells = cell s.dot (s.place + 1) ∷ fresh c.val ∷ cs;
      dot = nothing;
      place = s.place + 1;
    }))

abbrev pub elements_in : Option (List Element) → List Element
elements_in None = []
elements_in (Some es) = es

-- the elements of a range from the one that is visited on
abbrev pub left_in : Cell → List Element
left_in v = drop v.num (elements_in (elements v.val))

-- this many variables: the element, above its index or key
abbrev pub variables_on : ℕ → Element → List Cell → List Cell
variables_on zero e cs = cs
variables_on (suc zero) e cs = fresh e.1 ∷ cs
variables_on (suc (suc n)) e cs = fresh e.1 ∷ fresh e.0 ∷ cs

abbrev pub start_element : ℕ → List Element → State → Turn
start_element n [] s = stuck
start_element n (e ∷ es) s = goes (record s { cells = variables_on n e s.cells; dot = e.1; place = s.place + 1 })

abbrev pub is_number : Value → Bool
is_number (value.number n) = true
is_number v = false

-- to the turn of an element, at this place, or past it: then the element is dot already
abbrev pub visit : Bool → Element → List Cell → ℕ → State → Turn
visit false e cs turn s = onto cs turn s
visit true e cs turn s = goes (record s { cells = cs; dot = e.1; place = turn + 1 })

-- after a turn, by the elements that are left; where no cell was forgotten no variable was declared, and the turn of a
-- number, which would only make it dot, is passed over
abbrev pub again : Plan → Template → ℕ → ℕ → ℕ → Cell → Cell → List Cell → List Element → State → Turn
again plan t n skip line d v cs [] s = goes (record s { cells = cs; dot = d.val; place = s.place + 1 + skip })
again plan t n skip line d v cs (e ∷ es) s =
    after_step plan t line s (visit (nat_eq n 0 && is_number v.val) e (d ∷ cell v.val (suc v.num) ∷ cs) d.num)

-- ---- calls

-- by whether no step is left, and whether fewer templates are inside one another than may be
abbrev pub deepen_run : Bool → Bool → Plan → Template → ℕ → State → Turn
deepen_run true shallow plan t line s = fail_with t line (steps_spent plan.rules.step_limit) s
deepen_run false true plan t line s = goes (record s { line = line; place = s.place + 1 })
deepen_run false false plan t line s = fail_with t line (calls_too_deep plan.rules.depth_limit) s

-- the template of this number, which starts here, over a value
abbrev pub invoke_template : Plan → Template → ℕ → Option ℕ → Cell → List Cell → State → Turn
invoke_template plan t number None c cs s = stuck
invoke_template plan t number (Some start) c cs s =
    after_step plan t s.line s (λ s. goes (record s {
      cells = fresh c.val ∷ cell nothing (s.place + 1) ∷ cell s.dot s.template ∷ cs;
      dot = c.val;
      template = number;
      depth = suc s.depth;
      place = start;
    }))

-- the end of a template, by whether it is inside another: that of the first one is the end of the run
abbrev pub returned_if : Bool → List Cell → State → Turn
returned_if false cs s = ended (ran_so s None)
returned_if true cs s =
    frame cs (λ back saved cs. goes (record s {
      cells = cs;
      dot = saved.val;
      template = saved.num;
      depth = s.depth - 1;
      place = back.num;
    }))

-- ---- values that are shown where they lie

-- the text of a value is put out, or there is no value
abbrev pub put_value : Template → Result Value Cause → State → Turn
put_value t (Ok v) s = goes (record s { text = s.text ++ text_of v; place = s.place + 1 })
put_value t (Err cause) s = fail_with t s.line cause s

-- ---- instructions

-- an instruction of this template
abbrev pub carry_out : Plan → Template → Instruction → State → Turn
carry_out plan t (code.spend line) s = after_step plan t line s (λ s. onto s.cells (s.place + 1) s)
carry_out plan t (code.put line bytes) s =
    after_step plan t line s (λ s. goes (record s { text = s.text ++ bytes; place = s.place + 1 }))
carry_out plan t (code.act o) s =
    turn_of_operation t o (pipe.step (record { missing_key = plan.rules.missing_key; dot = s.dot; env = [] }) o s.cells) s
carry_out plan t code.show s =
    top s.cells (λ c cs. goes (record s { cells = cs; text = s.text ++ text_of c.val; place = s.place + 1 }))
carry_out plan t (code.show_fields line names) s =
    after_step plan t line s (λ s. put_value t (chain plan.rules.missing_key names s.dot) s)
carry_out plan t (code.show_slot line k names) s =
    after_step plan t line s (λ s. put_value t (chain plan.rules.missing_key names (slot k s.cells)) s)
carry_out plan t (code.hold key) s = top s.cells (λ c cs. onto (hold_variable key c cs) (s.place + 1) s)
carry_out plan t (code.set slot) s = top s.cells (λ c cs. onto (c ∷ slice_set cs slot (fresh c.val)) (s.place + 1) s)
carry_out plan t (code.set_dot slot) s = onto (slice_set s.cells slot (fresh s.dot)) (s.place + 1) s
carry_out plan t (code.unless kept skip) s = top s.cells (λ c cs. branch (truth c.val) kept skip c cs s)
carry_out plan t (code.enter_with kept skip) s = top s.cells (λ c cs. with_dot (truth c.val) kept skip c cs s)
carry_out plan t (code.end_with n variables skip) s =
    top (drop n s.cells)
    (λ c cs. goes (record s { cells = drop variables cs; dot = c.val; place = s.place + 1 + skip }))
carry_out plan t (code.forget n skip) s = onto (drop n s.cells) (s.place + 1 + skip) s
carry_out plan t (code.enter key skip) s = top s.cells (λ c cs. open_range plan t skip c cs (elements_for key c.val) s)
carry_out plan t (code.turn n) s = ring s.cells (λ d v cs. start_element n (left_in v) s)
carry_out plan t (code.next n skip line) s =
    ring (drop n s.cells) (λ d v cs. again plan t n skip line d v cs (drop 1 (left_in v)) s)
carry_out plan t (code.leave n skip) s =
    ring (drop n s.cells) (λ d v cs. goes (record s { cells = cs; dot = d.val; place = s.place + 1 + skip }))
carry_out plan t (code.deepen line) s =
    deepen_run (nat_eq s.left 0) (nat_lt s.depth plan.rules.depth_limit) plan t line s
carry_out plan t (code.invoke number) s =
    top s.cells (λ c cs. invoke_template plan t number (slice_get plan.starts number) c cs s)
carry_out plan t (code.return_from n) s = returned_if (nat_lt 1 s.depth) (drop n s.cells) s

-- the instruction at its place, in the template that runs
abbrev pub done_in : Plan → Option Template → Option Instruction → State → Turn
done_in plan None i s = stuck
done_in plan (Some t) None s = stuck
done_in plan (Some t) (Some i) s = carry_out plan t i s

abbrev pub next_of : Plan → State → Turn
next_of plan s = done_in plan (slice_get plan.templates s.template) (slice_get plan.code s.place) s
