-- What follows from a stage that may not give anything.
use Rattle.std.specs.Prelude.{Result, Ok, Err}

-- goes on with what a stage gives, or ends as it does
abbrev pub and_then : {T U E : Type 0} → Result T E → (T → Result U E) → Result U E
and_then (Ok t) next = next t
and_then (Err e) next = Err e
