-- The place that a number names.
use Rattle.std.specs.Prelude.{ℕ, ℤ, pos, negsuc, nat_lt, Bool, true, false, Option, Some, None, Result, Ok, Err}
use Rattle.tmpl_funcs.specs.declared.fault.CallFault.{CallFault}
use Rattle.tmpl_funcs.specs.declared.fault.CallFault.TheVariants.{WrongKind, OutOfRange}

-- this place, where it is one
abbrev pub place_if : Bool → ℕ → Result ℕ CallFault
place_if true i = Ok i
place_if false i = Err OutOfRange

-- the place that a number names among this many, counted from 0
abbrev pub place_among : Option ℤ → ℕ → Result ℕ CallFault
place_among None n = Err WrongKind
place_among (Some (pos i)) n = place_if (nat_lt i n) i
place_among (Some (negsuc i)) n = Err OutOfRange
