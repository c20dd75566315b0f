-- What the answers of the operating system stand for, and the end of the command.
use Rattle.std.specs.Prelude.{ℕ, zero, suc, Result, Ok, Err, Vec}
use Rattle.std.specs.declared.alloc.Global.{Global}
use Rattle.std.specs.IoError.{error_kind}
use Rattle.std.specs.declared.io.Error.{Error}
use Rattle.std.specs.declared.io.ErrorKind.{ErrorKind}
use Rattle.std.specs.declared.io.ErrorKind.TheVariants as io
use Rattle.tmpl_meaning.specs.Sink.{Sunk, Untouched}
use Rattle.tmpl_meaning.specs.declared.sink.SinkFault.{SinkFault}
use Rattle.tmpl_tool.specs.Outcome.{Says, write_line}
use Rattle.tmpl_tool.specs.declared.files.source.SourceFault.{SourceFault}
use Rattle.tmpl_tool.specs.declared.files.source.SourceFault.TheVariants as fault

-- a file is missing exactly where the system says that there is none of the name
abbrev pub source_fault : ErrorKind → SourceFault
source_fault io.NotFound = fault.NotFound
source_fault io.OutOfMemory = fault.OutOfMemory
source_fault kind = fault.Failed

-- what a read of the system answers
abbrev pub read_result : Result (Vec ℕ Global) Error → Result (Vec ℕ Global) SourceFault
read_result (Ok bytes) = Ok bytes
read_result (Err e) = Err (source_fault (error_kind e))

-- the status after the last flush: one that fails is a failed write, and outranks that all went well
abbrev pub status_after_flush : Result (Unit {0}) SinkFault → ℕ → ℕ
status_after_flush (Ok u) code = code
status_after_flush (Err f) zero = 6
status_after_flush (Err f) (suc n) = suc n

-- what is said of the last flush
abbrev pub SaysFlush : Result (Unit {0}) SinkFault → ℕ → Sunk → Type 0
SaysFlush (Ok u) code err = Untouched err
SaysFlush (Err f) zero err = Says write_line err
SaysFlush (Err f) (suc n) err = Untouched err
