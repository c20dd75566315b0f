-- What a write means.
use Rattle.std.specs.Prelude.{ℕ, zero, suc, Result, Ok, Err, Bool, true, false, List, Option, None}
use Rattle.std.specs.declared.io.Error.{Error}
use Rattle.tmpl_meaning.specs.declared.sink.SinkFault.{SinkFault}

-- how many bytes a write took: one that took none failed, as one that the system refused
abbrev pub write_result : Result ℕ Error → Result ℕ SinkFault
write_result (Ok zero) = Err (record {})
write_result (Ok (suc n)) = Ok (suc n)
write_result (Err e) = Err (record {})

-- the bytes that a writer holds, where its sink tells them
abbrev pub known_if : Bool → Option (List ℕ) → Option (List ℕ)
known_if true contents = contents
known_if false contents = None
