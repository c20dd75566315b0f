-- The result of a run, as its sink saw it.
use Rattle.std.specs.Prelude.{◌≡◌, true, None, Some, Result, Ok, Err}
use Rattle.tmpl_meaning.specs.Meaning.{Ran}
use Rattle.tmpl_meaning.specs.Sink.{Begun, Cut, Sunk, Whole}
use Rattle.tmpl_meaning.specs.View.{fault_seen}
use Rattle.tmpl_engine.specs.declared.fault.RunError.{RunError}
use Rattle.tmpl_engine.specs.declared.fault.RunError.TheVariants as error

-- the whole text was taken, and the meaning has no fault, or this one; or a put failed, once, and a beginning of the
-- text was taken; or memory was refused, which comes only where text is made, and a beginning was taken
abbrev pub IsRun : Ran → Sunk → Result (Unit {0}) RunError → Type 0
IsRun ran s (Ok u) = Whole ran.text s × (ran.fault ≡ None)
IsRun ran s (Err (error.Fault fault)) = Whole ran.text s × (ran.fault ≡ Some (fault_seen fault))
IsRun ran s (Err error.WriteFailed) = Cut ran.text s
IsRun ran s (Err error.OutOfMemory) = Begun ran.text s × (ran.made_text ≡ true)
