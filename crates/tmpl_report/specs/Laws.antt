-- What the meaning of templates says of commands that always fail.
use Rattle.std.specs.Prelude.{◌≡◌, true, Option, Err, is_some}
use Rattle.tmpl_values.specs.Value.{Value}
use Rattle.tmpl_funcs.specs.declared.func.Func.{Func}
use Rattle.tmpl_grammar.specs.Tree.{Operands, function}
use Rattle.tmpl_meaning.specs.Fault.{Cause}
use Rattle.tmpl_meaning.specs.Pipeline.{Given, Place, command_value, operand_value}
use Rattle.tmpl_problems.specs.Failing.{always_fails, fails_alone}

abbrev pub HasNoValue : {T : Type 0} → Given T → Type 0
HasNoValue given = (cause : Cause) × (given.result ≡ Err cause)

-- a command that always fails has no value, wherever it is and whatever is piped to it
abbrev pub CommandFails : Type 0
CommandFails = (s : Place) (os : Operands) (piped : Option Value) → always_fails os (is_some piped) ≡ true
    → HasNoValue (command_value s os piped)

-- nor has a function that is an argument and takes some of its own
abbrev pub ArgumentFails : Type 0
ArgumentFails = (s : Place) (f : Func) → fails_alone (function f) ≡ true → HasNoValue (operand_value s (function f))
