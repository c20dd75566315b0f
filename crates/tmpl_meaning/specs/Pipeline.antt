-- The value of a pipeline ("Arguments", "Pipelines", "Variables" and "Functions" in the documentation of Go's
-- text/template). What nothing, null and the modes for missing keys do is our own rule, also where Go differs.
use Rattle.std.specs.Prelude.{ℕ, ◌+◌, Bool, true, false, not, ◌||◌, List, [], ◌∷◌, ◌++◌, Option, Some}
use Rattle.std.specs.Prelude.{None, Result, Ok, Err, length, option_to_list, unwrap_or, if◌then◌else◌}
use Rattle.std.specs.Option.{option_map_or}
use Rattle.std.specs.Result.{result_map_both}
use Rattle.std.specs.List.{find}
use Rattle.std.specs.Str.{bytes_eq}
use Rattle.tmpl_values.specs.Value.{Value, nothing, null, boolean, number, string}
use Rattle.tmpl_values.specs.Stage.{and_then}
use Rattle.tmpl_values.specs.Truth.{truth}
use Rattle.tmpl_values.specs.Field.{FieldValue, found, missing, no_field, field_at}
use Rattle.tmpl_funcs.specs.Dispatch.{table_answer}
use Rattle.tmpl_funcs.specs.Func.{makes_text, takes}
use Rattle.tmpl_funcs.specs.declared.func.Func.{Func}
use Rattle.tmpl_funcs.specs.declared.func.Func.TheVariants.{And, Or}
use Rattle.tmpl_funcs.specs.declared.fault.CallFault.TheVariants.{WrongCount}
use Rattle.tmpl_grammar.specs.Tree.{Operand, dot, fields, variable, bool_constant, number_constant}
use Rattle.tmpl_grammar.specs.Tree.{text_constant, nil, function, group, Operands, no_operand, operand, operand_count}
use Rattle.tmpl_grammar.specs.Tree.{Pipeline, no_command, command}
use Rattle.tmpl_meaning.specs.Fault.{Cause, not_a_function, nil_command, lacks_field, lacks_entry, call_failed}
use Rattle.tmpl_meaning.specs.declared.missing_key.MissingKey.{MissingKey}
use Rattle.tmpl_meaning.specs.declared.missing_key.MissingKey.TheVariants.{Zero, Error}

-- ---- variables

-- the variables in scope, the newest first; that of the empty name, written `$`, is the dot at the start
abbrev pub Environment : Type 0
Environment = List (List ℕ × Value)

-- the value of the newest variable of a name; a template that is accepted names none that is not there
abbrev pub lookup : List ℕ → Environment → Value
lookup name env = option_map_or (λ v. v.1) (find (λ v. bytes_eq v.0 name) env) nothing

-- ---- fields

-- a field, by what its value has under the name; absent is an entry that a map does not have, and any entry of nothing
abbrev pub field_value : MissingKey → List ℕ → FieldValue → Result Value Cause
field_value missing_key name (found v) = Ok v
field_value missing_key name no_field = Err (lacks_field name)
field_value Error name absent = Err (lacks_entry name)
field_value Zero name missing = Ok null
field_value missing_key name absent = Ok nothing

-- the field of the field of .. of a value
abbrev pub chain : MissingKey → List (List ℕ) → Value → Result Value Cause
chain missing_key [] v = Ok v
chain missing_key (name ∷ names) v = and_then (field_value missing_key name (field_at name v)) (chain missing_key names)

-- a null that a command gives is nothing
abbrev pub without_null : Value → Value
without_null null = nothing
without_null v = v

-- ---- what evaluating gives

-- something or why there is none, and whether a function that makes a text was called with all its arguments
pub record Given (T : Type 0) : Type 0 where
  pub result : Result T Cause
  pub made_text : Bool

abbrev pub as_given : {T : Type 0} → Result T Cause → Given T
as_given r = record { result = r; made_text = false }

-- goes on with what is given, or stops
abbrev pub go_on : {T U : Type 0} → Result T Cause → Bool → (T → Given U) → Given U
go_on (Ok t) made_text next = record { result = (next t).result; made_text = made_text || (next t).made_text }
go_on (Err cause) made_text next = record { result = Err cause; made_text = made_text }

abbrev pub given_then : {T U : Type 0} → Given T → (T → Given U) → Given U
given_then g next = go_on g.result g.made_text next

-- ---- calls

-- a function over these values
abbrev pub apply_function : Func → List Value → Given Value
apply_function f vs = record { result = result_map_both (λ v. v) (call_failed f) (table_answer f vs); made_text = makes_text f }

-- by the function: `and` and `or` evaluate their operands themselves
abbrev pub by_function : Func → Given Value → Given Value → Given Value → Given Value
by_function And all both either = both
by_function Or all both either = either
by_function f all both either = all

-- whether a value decides an `or`, as the first that is not empty, or an `and`, as the first that is
abbrev pub decides : Bool → Value → Bool
decides is_or v = if is_or then truth v else not (truth v)

-- ---- commands

-- where a pipeline stands: the mode for missing keys, dot and the variables
pub record Place : Type 0 where
  pub missing_key : MissingKey
  pub dot : Value
  pub env : Environment

abbrev mutual
  -- as an argument: null stays null, `nil` is nothing, and a function is a call without arguments
  pub operand_value : Place → Operand → Given Value
  operand_value s dot = as_given (Ok s.dot)
  operand_value s (fields names) = as_given (chain s.missing_key names s.dot)
  operand_value s (variable name names) = as_given (chain s.missing_key names (lookup name s.env))
  operand_value s (bool_constant b) = as_given (Ok (boolean b))
  operand_value s (number_constant n) = as_given (Ok (number n))
  operand_value s (text_constant bytes) = as_given (Ok (string bytes))
  operand_value s nil = as_given (Ok nothing)
  operand_value s (function f) = if takes f 0 then apply_function f [] else as_given (Err (call_failed f WrongCount))
  operand_value s (group cs names) = given_then (commands_value s cs None) (λ v. as_given (chain s.missing_key names v))

  -- the operands from left to right, up to the first that has no value
  pub operand_values : Place → Operands → Given (List Value)
  operand_values s no_operand = as_given (Ok [])
  operand_values s (operand o os) =
      given_then (operand_value s o) (λ v. given_then (operand_values s os) (λ vs. as_given (Ok (v ∷ vs))))

  -- the first of the operands and the piped value that decides, else the last of them; no operand after it is evaluated
  pub junction : Bool → Place → Value → Operands → Option Value → Given Value
  junction is_or s last no_operand piped = as_given (Ok (unwrap_or piped last))
  junction is_or s last (operand o os) piped = given_then (operand_value s o)
      (λ v. if decides is_or v then as_given (Ok v) else junction is_or s v os piped)

  -- a command, to which a value may be piped: a call, of which the number of arguments is looked at first, or one
  -- operand alone, which `nil` may not be
  pub command_value : Place → Operands → Option Value → Given Value
  command_value s (operand (function f) os) piped = if takes f (operand_count os + length (option_to_list piped)) then
      by_function f (given_then (operand_values s os) (λ vs. apply_function f (vs ++ option_to_list piped)))
      (junction false s nothing os piped) (junction true s nothing os piped)
      else as_given (Err (call_failed f WrongCount))
  command_value s (operand nil no_operand) None = as_given (Err nil_command)
  command_value s (operand o no_operand) None = operand_value s o
  command_value s os piped = as_given (Err not_a_function)

  -- the commands from left to right: each gives its value to the next as its last argument
  pub commands_value : Place → Pipeline → Option Value → Given Value
  commands_value s no_command piped = as_given (Ok (unwrap_or piped nothing))
  commands_value s (command os cs) piped =
      given_then (command_value s os piped) (λ v. commands_value s cs (Some (without_null v)))
