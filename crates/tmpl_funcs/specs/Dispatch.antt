-- The result of a call.
use Rattle.std.specs.Prelude.{◌≡◌, true, List, length, Result, Ok, Err}
use Rattle.tmpl_values.specs.Value.{Value}
use Rattle.tmpl_values.specs.View.{val_of}
use Rattle.tmpl_values.specs.declared.value.Val.{Val}
use Rattle.tmpl_funcs.specs.Arguments.{given_for}
use Rattle.tmpl_funcs.specs.Func.{row_of, takes, makes_text}
use Rattle.tmpl_funcs.specs.declared.func.Func.{Func}
use Rattle.tmpl_funcs.specs.declared.fault.CallFault.{CallFault}
use Rattle.tmpl_funcs.specs.declared.fault.CallError.{CallError}
use Rattle.tmpl_funcs.specs.declared.fault.CallError.TheVariants as error

-- what a function gives for arguments: the table's answer
abbrev pub table_answer : Func → List Value → Result Value CallFault
table_answer f = given_for (row_of f).arguments

-- the answer is the table's. Want of memory comes only from a function that makes a text, and not before the number of
-- arguments was found right
abbrev pub IsCall : Func → List Value → Result Val CallError → Type 0
IsCall f vs (Ok v) = table_answer f vs ≡ Ok (val_of v)
IsCall f vs (Err (error.Fault e)) = table_answer f vs ≡ Err e
IsCall f vs (Err error.OutOfMemory) = (makes_text f ≡ true) × (takes f (length vs) ≡ true)
