-- What the program's values stand for: the rules of a run, its fault, and a value or why there is none.
use Rattle.std.specs.Prelude.{Result, Ok, Err}
use Rattle.tmpl_values.specs.Value.{Value}
use Rattle.tmpl_values.specs.View.{val_of}
use Rattle.tmpl_values.specs.declared.value.Val.{Val}
use Rattle.tmpl_meaning.specs.Fault.{Cause, steps_spent, not_a_function, nil_command, lacks_field, lacks_entry}
use Rattle.tmpl_meaning.specs.Fault.{not_a_range, call_failed, no_template, calls_too_deep, Fault}
use Rattle.tmpl_meaning.specs.Meaning.{Rules}
use Rattle.tmpl_meaning.specs.declared.fault.RunFaultKind.{RunFaultKind}
use Rattle.tmpl_meaning.specs.declared.fault.RunFaultKind.TheVariants as kind
use Rattle.tmpl_meaning.specs.declared.fault.RunFault.{RunFault}
use Rattle.tmpl_meaning.specs.declared.options.Options.{Options}

abbrev pub rules_of : Options → Rules
rules_of options =
    record { missing_key = options.missing_key; step_limit = options.steps; depth_limit = options.depth }

abbrev pub cause_of : RunFaultKind → Cause
cause_of (kind.StepsSpent limit) = steps_spent limit
cause_of (kind.NoField name) = lacks_field name.now
cause_of (kind.NoEntry name) = lacks_entry name.now
cause_of kind.NotARange = not_a_range
cause_of kind.NotAFunction = not_a_function
cause_of kind.NilCommand = nil_command
cause_of (kind.Call f fault) = call_failed f fault
cause_of (kind.NoTemplate name) = no_template name.now
cause_of (kind.CallsTooDeep limit) = calls_too_deep limit

abbrev pub fault_seen : RunFault → Fault
fault_seen f =
    record { file = f.file.now; line = f.line; template = f.template.now; cause = cause_of f.kind }

abbrev pub value_seen : Result Val RunFaultKind → Result Value Cause
value_seen (Ok v) = Ok (val_of v)
value_seen (Err kind) = Err (cause_of kind)
