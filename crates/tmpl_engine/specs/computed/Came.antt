-- The result of the loop of a run, before what waits is put out.
use Rattle.std.specs.Prelude.{◌≡◌, ◌+◌, ◌-◌, ◌<◌, ◌^◌, ◌⊎◌, Bool, true, false, ℕ, List, [], Option, None, Some, option_map, Result, Ok, Err}
use Rattle.tmpl_meaning.specs.Meaning.{Ran}
use Rattle.tmpl_meaning.specs.Sink.{IsPut, Puts}
use Rattle.tmpl_syntax.specs.Set.{Template}
use Rattle.tmpl_meaning.specs.View.{cause_of, fault_seen}
use Rattle.tmpl_meaning.specs.declared.sink.SinkFault.{SinkFault}
use Rattle.tmpl_engine.specs.Ends.{Ends}
use Rattle.tmpl_engine.specs.Laws.{Begins}
use Rattle.tmpl_engine.specs.Machine.{fault_in}
use Rattle.tmpl_engine.specs.computed.Machines.{with_told}
use Rattle.tmpl_engine.specs.declared.flow.Flow.{Flow}
use Rattle.tmpl_engine.specs.declared.flow.Flow.TheVariants as flow
use Rattle.tmpl_engine.specs.State.{Plan, State}
use Rattle.tmpl_engine.specs.declared.halt.Halt.{Halt}
use Rattle.tmpl_engine.specs.declared.halt.Halt.TheVariants as stop
use Rattle.tmpl_engine.specs.declared.fault.RunError.{RunError}
use Rattle.tmpl_engine.specs.declared.fault.RunError.TheVariants as error

-- what a run is to come to: its end, over a stack of at most this many cells, after what its output was given before
pub record Aim : Type 0 where
  pub end : Ran
  pub room : ℕ
  pub before : Puts

-- after what was put out since and the mark, a state comes to that end; and where no text was made, this holds
pub record Stands (plan : Plan) (aim : Aim) (s : State) (Plain : Type 0) (now : Puts) : Type 0 where
  pub depth : s.depth + s.left < 2 ^ 64 - 1
  pub text : List ℕ
  pub made : Bool
  pub given : IsPut {F = SinkFault} (Ok tt) aim.before now text
  pub ends : Ends plan aim.room (with_told text made s) aim.end
  pub plain : made ≡ false → Plain

-- a stop in a template at a line
abbrev pub IsStopped : Option Template → ℕ → Halt → RunError → Type 0
IsStopped t line (stop.Fault kind) (error.Fault fault) =
    Some (fault_seen fault) ≡ option_map (λ t. fault_in t line (cause_of kind)) t
IsStopped t line (stop.Fault kind) error.WriteFailed = ⊥
IsStopped t line (stop.Fault kind) error.OutOfMemory = ⊥
IsStopped t line stop.WriteFailed e = e ≡ error.WriteFailed
IsStopped t line stop.OutOfMemory e = e ≡ error.OutOfMemory

-- the whole text of the end was given, and there is no fault, or this one; or a put failed; or memory was refused,
-- where text is made, and a beginning was given
abbrev pub Came : Ran → Puts → Puts → Result (Unit {0}) RunError → Type 0
Came end before now (Ok u) = IsPut {F = SinkFault} (Ok tt) before now end.text × (end.fault ≡ None)
Came end before now (Err (error.Fault fault)) =
    IsPut {F = SinkFault} (Ok tt) before now end.text × (end.fault ≡ Some (fault_seen fault))
Came end before now (Err error.WriteFailed) = IsPut {F = SinkFault} (Err (record {})) before now end.text
Came end before now (Err error.OutOfMemory) =
    (text : List ℕ) × Begins text end.text × IsPut {F = SinkFault} (Ok tt) before now text × (end.made_text ≡ true)

-- the loop of a run is left where the run goes on from here, or where it came to its end or stopped
abbrev pub IsLeft : Plan → Aim → State → Type 0 → Puts → Result Flow RunError → Type 0
IsLeft plan aim s Plain now (Ok flow.On) = Stands plan aim s Plain now
IsLeft plan aim s Plain now (Ok flow.Over) = Came aim.end aim.before now (Ok tt)
IsLeft plan aim s Plain now (Err e) = Came aim.end aim.before now (Err e)

-- how it ended, where it does not go on
abbrev pub ended_by : Result Flow RunError → Result (Unit {0}) RunError
ended_by (Ok f) = Ok tt
ended_by (Err e) = Err e

-- what waited was given to the sink, or a put failed
abbrev pub Flushed : Result (Unit {0}) RunError → Result (Unit {0}) RunError → Puts → Puts → List ℕ → Type 0
Flushed was r old new rest =
    ((r ≡ was) × IsPut {F = SinkFault} (Ok tt) old new [] × (rest ≡ []))
    ⊎ ((r ≡ Err error.WriteFailed) × IsPut {F = SinkFault} (Err (record {})) old new [])

-- .. where a run came to its end or to a fault; else nothing more is put
abbrev pub Closed : Result (Unit {0}) RunError → Result (Unit {0}) RunError → Puts → Puts → List ℕ → Type 0
Closed (Ok u) r old new rest = Flushed (Ok u) r old new rest
Closed (Err (error.Fault fault)) r old new rest = Flushed (Err (error.Fault fault)) r old new rest
Closed (Err error.WriteFailed) r old new rest = (r ≡ Err error.WriteFailed) × (new ≡ old)
Closed (Err error.OutOfMemory) r old new rest = (r ≡ Err error.OutOfMemory) × (new ≡ old)
