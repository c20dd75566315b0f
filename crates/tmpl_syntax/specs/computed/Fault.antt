-- Why a file is refused, as the code tells it from step to step.
use Rattle.tmpl_syntax.specs.Fault as reason
use Rattle.tmpl_syntax.specs.Fault.{Reason}
use Rattle.tmpl_syntax.specs.declared.fault.Fault.{Fault}
use Rattle.tmpl_syntax.specs.declared.fault.Fault.TheVariants as fault
use Rattle.tmpl_syntax.specs.declared.fault.ParseKind.TheVariants as kind
use Rattle.tmpl_syntax.specs.declared.fault.Refusal.{Refusal}

-- the reason that the fault of an action is
abbrev pub of_action : Fault → Reason
of_action fault.Unreadable = reason.unreadable
of_action fault.NotAnAction = reason.not_an_action
of_action fault.OutOfPlace = reason.out_of_place
of_action fault.NestedTooDeeply = reason.nested_too_deeply
of_action fault.UndeclaredVariable = reason.undeclared_variable

abbrev pub out_of_memory : Refusal
out_of_memory = record { line = 1; start = 0; kind = kind.OutOfMemory; first = 0 }
