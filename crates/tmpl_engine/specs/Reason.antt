-- Why a run stopped, in words.
use Rattle.std.specs.Prelude.{◌++◌, ℕ, List, codes, decimal}
use Rattle.tmpl_values.specs.Quote.{quote}
use Rattle.tmpl_funcs.specs.Func.{name_of}
use Rattle.tmpl_funcs.specs.declared.fault.CallFault.{CallFault}
use Rattle.tmpl_funcs.specs.declared.fault.CallFault.TheVariants as call
use Rattle.tmpl_meaning.specs.Meaning.{Cause, steps_spent, not_a_function, nil_command, lacks_field, lacks_entry}
use Rattle.tmpl_meaning.specs.Meaning.{not_a_range, call_failed, no_template, calls_too_deep}

abbrev pub call_text : CallFault → List ℕ
call_text call.WrongCount = codes "wrong number of arguments"
call_text call.WrongKind = codes "wrong kind of argument"
call_text call.OutOfRange = codes "out of range"
call_text call.NotComparable = codes "can't be compared"
call_text call.FormatRefused = codes "format refused"

abbrev pub cause_text : Cause → List ℕ
cause_text (steps_spent limit) = codes "more than " ++ (decimal limit ++ codes " steps")
cause_text (lacks_field name) = codes "no field " ++ (quote name ++ codes " here")
cause_text (lacks_entry name) = codes "no entry for key " ++ quote name
cause_text not_a_range = codes "can't range over this value"
cause_text not_a_function = codes "not a function"
cause_text nil_command = codes "nil is not a command"
cause_text (no_template name) = codes "no template " ++ quote name
cause_text (calls_too_deep limit) = codes "calls deeper than " ++ decimal limit
cause_text (call_failed f fault) = name_of f ++ (codes ": " ++ call_text fault)
