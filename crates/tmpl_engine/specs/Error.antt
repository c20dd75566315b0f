-- A run's error as a render's.
use Rattle.tmpl_engine.specs.declared.fault.RunError.{RunError}
use Rattle.tmpl_engine.specs.declared.fault.RunError.TheVariants as run
use Rattle.tmpl_engine.specs.declared.error.RenderError.{RenderError}
use Rattle.tmpl_engine.specs.declared.error.RenderError.TheVariants.{Fault, WriteFailed, OutOfMemory}

abbrev pub error_of : RunError → RenderError
error_of (run.Fault fault) = Fault fault
error_of run.WriteFailed = WriteFailed
error_of run.OutOfMemory = OutOfMemory
