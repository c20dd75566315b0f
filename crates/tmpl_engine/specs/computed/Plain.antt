-- Whether a value of a run owns its text. One that does not is taken once more without memory, so a run in which none
-- does wants none.
use Rattle.std.specs.Prelude.{◌≡◌, Bool, false, take, Result, Ok, Err, OnErr}
use Rattle.std.specs.declared.alloc.AllocError.{AllocError}
use Rattle.tmpl_values.specs.View.{is_made}
use Rattle.tmpl_funcs.specs.Answer.{AreBorrowed}
use Rattle.tmpl_engine.specs.computed.View.{IsSameRoom}
use Rattle.tmpl_engine.specs.declared.machine.Machine.{Machine}
use Rattle.tmpl_engine.specs.declared.stack.Stack.{Stack}
use Rattle.tmpl_engine.specs.declared.halt.Halt.{Halt}
use Rattle.tmpl_engine.specs.declared.halt.Halt.TheVariants as stop

-- no live cell holds a made text
unfoldable pub IsPlainStack : Stack → Type 0
IsPlainStack s = AreBorrowed (take s.top s.cells.now)

-- .. and dot is none
abbrev pub IsPlain : Machine → Type 0
IsPlain m = IsPlainStack m.stack × (is_made m.dot ≡ false)

-- no memory was refused, and this holds
abbrev pub Spared : {A : Type 0} → Result A AllocError → Type 0 → Type 0
Spared (Ok a) Holds = Holds
Spared (Err e) Holds = ⊥

-- .. by an instruction that may stop for another reason, and where it does this holds too
abbrev pub SparedOr : {A : Type 0} → Result A Halt → Type 0 → Type 0
SparedOr (Ok a) Holds = Holds
SparedOr (Err (stop.Fault kind)) Holds = Holds
SparedOr (Err stop.WriteFailed) Holds = Holds
SparedOr (Err stop.OutOfMemory) Holds = ⊥

-- there is the same room as before, and where no cell held a made text, none does
abbrev pub SteadyStack : Stack → Stack → Type 0
SteadyStack old new = IsSameRoom old new × (IsPlainStack old → IsPlainStack new)

abbrev pub Steady : Machine → Machine → Type 0
Steady old new = (IsPlain old → IsPlain new) × IsSameRoom old.stack new.stack

-- the template that runs is the same where it stops
abbrev pub StopsIn : {A E : Type 0} → Result A E → Machine → Machine → Type 0
StopsIn result old new = OnErr result (new.template ≡ old.template)

-- .. and memory was not refused then
abbrev pub SteadyOr : {A : Type 0} → Result A Halt → Machine → Machine → Type 0
SteadyOr result old new =
    (IsPlain old → SparedOr result (IsPlain new)) × IsSameRoom old.stack new.stack × StopsIn result old new

-- .. unless a text is made
abbrev pub SteadyUnless : {A : Type 0} → Bool → Result A Halt → Machine → Machine → Type 0
SteadyUnless makes result old new =
    (makes ≡ false → IsPlain old → SparedOr result (IsPlain new)) × IsSameRoom old.stack new.stack × StopsIn result old new
