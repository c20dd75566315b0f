-- The result of a function of the table.
use Rattle.std.specs.Prelude.{◌≡◌, Result, Ok, Err}
use Rattle.tmpl_values.specs.Value.{Value}
use Rattle.tmpl_values.specs.View.{val_of}
use Rattle.tmpl_values.specs.declared.value.Val.{Val}
use Rattle.tmpl_funcs.specs.declared.fault.CallFault.{CallFault}
use Rattle.tmpl_funcs.specs.declared.fault.CallError.{CallError}
use Rattle.tmpl_funcs.specs.declared.fault.CallError.TheVariants as error

-- the answer is the one asked for, value or fault
abbrev pub IsAnswer : Result Value CallFault → Result Val CallFault → Type 0
IsAnswer asked (Ok v) = asked ≡ Ok (val_of v)
IsAnswer asked (Err f) = asked ≡ Err f

-- .. or memory was refused
abbrev pub IsMade : Result Value CallFault → Result Val CallError → Type 0
IsMade asked (Ok v) = asked ≡ Ok (val_of v)
IsMade asked (Err (error.Fault f)) = asked ≡ Err f
IsMade asked (Err error.OutOfMemory) = Unit {0}
