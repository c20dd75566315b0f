-- What one step of a pipeline does to the cells, the newest first.
use Rattle.std.specs.Prelude.{ℕ, Bool, true, false, ◌||◌, List, [], ◌∷◌, ◌++◌, take, drop, reverse}
use Rattle.std.specs.Prelude.{Result, Ok, Err}
use Rattle.tmpl_values.specs.Value.{Value, nothing, boolean, number, string}
use Rattle.tmpl_funcs.specs.Func.{makes_text}
use Rattle.tmpl_funcs.specs.declared.func.Func.{Func}
use Rattle.tmpl_funcs.specs.declared.fault.CallFault.TheVariants.{WrongCount}
use Rattle.tmpl_meaning.specs.Fault as fault
use Rattle.tmpl_meaning.specs.Fault.{Cause, call_failed}
use Rattle.tmpl_meaning.specs.Pipeline.{Place, apply_function, chain, decides, without_null}
use Rattle.tmpl_code.specs.Instruction.{Operation, push_nothing, push_bool, push_number, push_text, push_dot}
use Rattle.tmpl_code.specs.Instruction.{push_fields, push_slot, chained, call_with, decide, settle, refuse}
use Rattle.tmpl_code.specs.Instruction.{CommandError, not_a_function, nil_command, wrong_count, no_template}
use Rattle.tmpl_code.specs.Code.{piped_count}
use Rattle.tmpl_engine.specs.Cell.{Cell, fresh, slot, values_in}

-- goes on after this many more steps over these cells, or stops, or does not find a cell that it takes
pub data Went : Type 0 where
  on : ℕ → List Cell → Went
  halted : Cause → Went
  lacks : Went

-- a value is put on the stack, or the run stops
abbrev pub push_value : Result Value Cause → List Cell → Went
push_value (Ok v) cs = on 0 (fresh v ∷ cs)
push_value (Err cause) cs = halted cause

-- the newest value is taken
abbrev pub newest : List Cell → (Value → List Cell → Went) → Went
newest [] go = lacks
newest (c ∷ cs) go = go c.val cs

abbrev pub cause_of : CommandError → Cause
cause_of not_a_function = fault.not_a_function
cause_of nil_command = fault.nil_command
cause_of (wrong_count f) = call_failed f WrongCount
cause_of (no_template name) = fault.no_template name

-- a function over these arguments, and over a piped one that lies on the stack
abbrev pub called_on : Func → List Value → Bool → List Cell → Went
called_on f args false cs = push_value (apply_function f args).result cs
called_on f args true cs = newest cs (λ v cs. push_value (apply_function f (args ++ v ∷ [])).result cs)

-- a value that decides stays, and a piped one below it goes; another goes
abbrev pub decided_by : Bool → ℕ → Bool → Value → List Cell → Went
decided_by true skip piped v cs = on skip (fresh v ∷ drop (piped_count piped) cs)
decided_by false skip piped v cs = on 0 cs

-- one step; it reads the mode for missing keys and dot
abbrev pub step : Place → Operation → List Cell → Went
step s push_nothing cs = on 0 (fresh nothing ∷ cs)
step s (push_bool b) cs = on 0 (fresh (boolean b) ∷ cs)
step s (push_number n) cs = on 0 (fresh (number n) ∷ cs)
step s (push_text bytes) cs = on 0 (fresh (string bytes) ∷ cs)
step s push_dot cs = on 0 (fresh s.dot ∷ cs)
step s (push_fields names) cs = push_value (chain s.missing_key names s.dot) cs
step s (push_slot k) cs = on 0 (fresh (slot k cs) ∷ cs)
step s (chained names) cs = newest cs (λ v cs. push_value (chain s.missing_key names v) cs)
step s (call_with f n piped) cs = called_on f (values_in (reverse (take n cs))) piped (drop n cs)
step s (decide is_or piped skip) cs = newest cs (λ v cs. decided_by (decides is_or v) skip piped v cs)
step s settle cs = newest cs (λ v cs. on 0 (fresh (without_null v) ∷ cs))
step s (refuse why) cs = halted (cause_of why)

-- whether a function that makes a text was called with all its arguments, after a step
abbrev pub made_by : Operation → Bool → Bool
made_by (call_with f n piped) made = made || makes_text f
made_by o made = made
