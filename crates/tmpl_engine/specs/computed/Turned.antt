-- What a turn of a machine in memory is.
use Rattle.std.specs.Prelude.{◌≡◌, Bool, true, false, List, ℕ, [], ◌+◌, None, Result, Ok, Err}
use Rattle.std.specs.Prelude.{◌-◌, ◌<◌, ◌≤◌, ◌^◌, length, nat_eq}
use Rattle.tmpl_values.specs.Text.{text_of}
use Rattle.tmpl_values.specs.Value.{Value}
use Rattle.tmpl_values.specs.View.{val_of}
use Rattle.tmpl_values.specs.declared.value.Val.{Val}
use Rattle.tmpl_syntax.specs.Set.{Template}
use Rattle.tmpl_meaning.specs.Fault.{Cause, steps_spent}
use Rattle.tmpl_meaning.specs.Meaning.{Rules}
use Rattle.tmpl_meaning.specs.Pipeline.{chain}
use Rattle.tmpl_meaning.specs.declared.missing_key.MissingKey.{MissingKey}
use Rattle.tmpl_meaning.specs.declared.sink.SinkFault.{SinkFault}
use Rattle.tmpl_meaning.specs.View.{cause_of}
use Rattle.tmpl_code.specs.Code.{Code}
use Rattle.tmpl_code.specs.Instruction as code
use Rattle.tmpl_code.specs.Instruction.{Instruction}
use Rattle.tmpl_engine.specs.Cell.{slot}
use Rattle.tmpl_engine.specs.State.{Plan, State}
use Rattle.tmpl_engine.specs.Step.{made_by}
use Rattle.tmpl_engine.specs.Machine.{Turn, carry_out, ended, fail_with, goes, ran_so, stuck}
use Rattle.tmpl_engine.specs.declared.flow.Flow.{Flow}
use Rattle.tmpl_engine.specs.declared.flow.Flow.TheVariants as flow
use Rattle.tmpl_engine.specs.computed.Machines.{no_template, state_of}
use Rattle.tmpl_engine.specs.declared.machine.Machine.{Machine}
use Rattle.tmpl_engine.specs.declared.halt.Halt.{Halt}
use Rattle.tmpl_engine.specs.declared.halt.Halt.TheVariants as stop

-- a turn finds its cells, and goes to a place that can be counted
abbrev pub Lands : Turn → Type 0
Lands (goes t) = t.place < 2 ^ 64
Lands (ended r) = Unit {0}
Lands stuck = ⊥

-- .. and so finds the cells below those that it forgets, and the template that it calls
abbrev pub IsAble : Plan → Instruction → State → Type 0
IsAble plan (code.next n skip line) s = n + 2 ≤ length s.cells
IsAble plan (code.leave n skip) s = n + 2 ≤ length s.cells
IsAble plan (code.invoke number) s = number < length plan.starts
IsAble plan (code.return_from n) s = 1 < s.depth → n + 3 ≤ length s.cells
IsAble plan i s = Unit {0}

-- whether a function that makes a text was called with all its arguments, after an instruction
abbrev pub mark_after : Instruction → Bool → Bool
mark_after (code.act o) made = made_by o made
mark_after i made = made

-- what is put out where a step is taken first, by whether none is left
abbrev pub paid_for : Bool → List ℕ → List ℕ
paid_for true bytes = []
paid_for false bytes = bytes

abbrev pub text_in : Result Value Cause → List ℕ
text_in (Ok v) = text_of v
text_in (Err cause) = []

-- what it puts out in a state
abbrev pub added_text : MissingKey → Instruction → State → List ℕ
added_text mode (code.put line bytes) s = paid_for (nat_eq s.left 0) bytes
added_text mode code.show s = text_of (slot 0 s.cells)
added_text mode (code.show_fields line names) s = paid_for (nat_eq s.left 0) (text_in (chain mode names s.dot))
added_text mode (code.show_slot line k names) s = paid_for (nat_eq s.left 0) (text_in (chain mode names (slot k s.cells)))
added_text mode i s = []

-- a state after it, with what it puts out and whether it makes a text
abbrev pub beyond : MissingKey → Instruction → State → State → State
beyond mode i s t = record t { text = added_text mode i s; made_text = mark_after i false }

-- it was carried out, and the run goes on or is over, or it stops; where a put failed it was carried out up to that
abbrev pub Executed : Plan → Instruction → Machine → Machine → Result Flow Halt → Type 0
Executed plan i m n (Ok flow.On) =
    carry_out plan no_template i (state_of m) ≡ goes (beyond plan.rules.missing_key i (state_of m) (state_of n))
Executed plan i m n (Ok flow.Over) =
    carry_out plan no_template i (state_of m) ≡ ended (ran_so (beyond plan.rules.missing_key i (state_of m) (state_of m)) None)
Executed plan i m n (Err (stop.Fault kind)) =
    carry_out plan no_template i (state_of m)
    ≡ fail_with no_template n.line (cause_of kind) (beyond plan.rules.missing_key i (state_of m) (state_of m))
Executed plan i m n (Err stop.WriteFailed) =
    carry_out plan no_template i (state_of m) ≡ goes (beyond plan.rules.missing_key i (state_of m) (state_of n))
Executed plan i m n (Err stop.OutOfMemory) = Unit {0}

-- .. by an instruction that puts nothing out, and may stop where memory is refused
abbrev pub TurnedOr : Plan → Instruction → Machine → Machine → Result Flow Halt → Type 0
TurnedOr plan i m n (Ok f) = Executed plan i m n (Ok f)
TurnedOr plan i m n (Err (stop.Fault kind)) = Executed plan i m n (Err (stop.Fault kind))
TurnedOr plan i m n (Err stop.WriteFailed) = ⊥
TurnedOr plan i m n (Err stop.OutOfMemory) = Unit {0}

-- a plan by these rules of which what else it tells may be anything
abbrev pub HoldsOfEach : Rules → (Plan → Type 0) → Type 0
HoldsOfEach rules Holds =
    (templates : List Template) (starts : List ℕ) (all : Code)
    → Holds (record { rules = rules; templates = templates; starts = starts; code = all })

-- .. by each plan with these rules that is so
abbrev pub TurnedUnder : Rules → (Plan → Type 0) → Instruction → Machine → Machine → Result Flow Halt → Type 0
TurnedUnder rules IsSo i m n (Ok f) = HoldsOfEach rules (λ plan. IsSo plan → Executed plan i m n (Ok f))
TurnedUnder rules IsSo i m n (Err (stop.Fault kind)) =
    HoldsOfEach rules (λ plan. IsSo plan → Executed plan i m n (Err (stop.Fault kind)))
TurnedUnder rules IsSo i m n (Err stop.WriteFailed) = ⊥
TurnedUnder rules IsSo i m n (Err stop.OutOfMemory) = Unit {0}

-- a step was taken at a line, or none is left of this many
abbrev pub StepTaken : ℕ → ℕ → Machine → Machine → Result (Unit {0}) Halt → Type 0
StepTaken limit line m n (Ok u) = (nat_eq m.left 0 ≡ false) × (n ≡ record m { left = m.left - 1; line = line })
StepTaken limit line m n (Err (stop.Fault kind)) =
    (nat_eq m.left 0 ≡ true) × (cause_of kind ≡ steps_spent limit) × (n ≡ record m { line = line })
StepTaken limit line m n (Err stop.WriteFailed) = ⊥
StepTaken limit line m n (Err stop.OutOfMemory) = ⊥

-- whether a put failed
abbrev pub put_by : {A : Type 0} → Result A Halt → Result (Unit {0}) SinkFault
put_by (Ok a) = Ok tt
put_by (Err (stop.Fault kind)) = Ok tt
put_by (Err stop.WriteFailed) = Err (record {})
put_by (Err stop.OutOfMemory) = Ok tt

-- what it puts out, by what it answers
abbrev pub put_out : MissingKey → Instruction → Machine → Result Flow Halt → List ℕ
put_out mode i m (Ok f) = added_text mode i (state_of m)
put_out mode i m (Err (stop.Fault kind)) = added_text mode i (state_of m)
put_out mode i m (Err stop.WriteFailed) = added_text mode i (state_of m)
put_out mode i m (Err stop.OutOfMemory) = []

-- a field of a field of .. of a value was found, or there is none, or memory was refused
abbrev pub IsFound : MissingKey → List (List ℕ) → Value → Result Val Halt → Type 0
IsFound mode names v (Ok field) = Ok (val_of field) ≡ chain mode names v
IsFound mode names v (Err (stop.Fault kind)) = Err (cause_of kind) ≡ chain mode names v
IsFound mode names v (Err stop.WriteFailed) = ⊥
IsFound mode names v (Err stop.OutOfMemory) = Unit {0}
