-- Why a run stops, and where.
use Rattle.std.specs.Prelude.{ℕ, List}
use Rattle.tmpl_funcs.specs.declared.func.Func.{Func}
use Rattle.tmpl_funcs.specs.declared.fault.CallFault.{CallFault}

-- why a run stops: no step is left of this many, or calls are deeper than this many templates; what is no function is
-- given an argument, `nil` stands for a command, or a value is not what a range visits; a value has no fields, and one
-- of this name is asked for, a map has no entry of this name, or there is no template of this name to call; a function
-- refuses what it is given
pub data Cause : Type 0 where
  steps_spent calls_too_deep : ℕ → Cause
  not_a_function nil_command not_a_range : Cause
  lacks_field lacks_entry no_template : List ℕ → Cause
  call_failed : Func → CallFault → Cause

-- why a run stops, and where
pub record Fault : Type 0 where
  pub file : List ℕ
  pub line : ℕ
  pub template : List ℕ
  pub cause : Cause
