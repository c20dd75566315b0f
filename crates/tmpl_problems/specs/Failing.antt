-- Commands that fail at each run that gets to them, whatever the data is: our own rules. A law of `tmpl_problems` ties them
-- to the meaning of templates.
use Rattle.std.specs.Prelude.{◌+◌, Bool, true, false, not, ◌&&◌, ◌||◌, List, [], ◌∷◌, Option, Some, None, Ok, Err}
use Rattle.std.specs.Option.{option_map_or}
use Rattle.tmpl_values.specs.Value.{Value, nothing, boolean, number, string}
use Rattle.tmpl_funcs.specs.Arguments.{Answer}
use Rattle.tmpl_funcs.specs.Dispatch.{table_answer}
use Rattle.tmpl_funcs.specs.Func.{is_called, makes_text, takes}
use Rattle.tmpl_funcs.specs.declared.func.Func.{Func}
use Rattle.tmpl_grammar.specs.Action.{Action, pipeline_action, opening, else_branch, template_action, block_action}
use Rattle.tmpl_grammar.specs.Tree.{Operand, bool_constant, number_constant, text_constant, nil, function, group}
use Rattle.tmpl_grammar.specs.Tree.{Operands, no_operand, operand, operand_count, Pipeline, no_command, command}

-- the value of a constant
abbrev pub constant_value : Operand → Option Value
constant_value (bool_constant b) = Some (boolean b)
constant_value (number_constant n) = Some (number n)
constant_value (text_constant bytes) = Some (string bytes)
constant_value nil = Some nothing
constant_value other = None

abbrev pub both_values : Option Value → Option (List Value) → Option (List Value)
both_values (Some v) (Some vs) = Some (v ∷ vs)
both_values v vs = None

-- those of operands, where all of them are constants
abbrev pub constant_values : Operands → Option (List Value)
constant_values no_operand = Some []
constant_values (operand o os) = both_values (constant_value o) (constant_values os)

abbrev pub is_refusal : Answer → Bool
is_refusal (Ok v) = false
is_refusal (Err fault) = true

-- a function that makes no text refuses its arguments, which are constants
abbrev pub refuses : Func → Operands → Bool
refuses f os = (is_called f && not (makes_text f))
    && option_map_or (λ vs. is_refusal (table_answer f vs)) (constant_values os) false

abbrev pub call_fails : Func → Operands → Bool → Bool
call_fails f os true = not (takes f (operand_count os + 1))
call_fails f os false = not (takes f (operand_count os)) || refuses f os

-- what is no function has an argument, or a value is piped to it
abbrev pub has_argument : Operands → Bool → Bool
has_argument no_operand piped = piped
has_argument (operand o os) piped = true

abbrev pub first_fails : Operand → Operands → Bool → Bool
first_fails (function f) os piped = call_fails f os piped
first_fails nil os piped = true
first_fails o os piped = has_argument os piped

-- a command has no value, whatever its place is: a function gets a number of arguments that it does not take, or constants
-- that it refuses; it is `nil`; or what is no function has an argument. To a command a value may be piped
abbrev pub always_fails : Operands → Bool → Bool
always_fails no_operand piped = true
always_fails (operand o os) piped = first_fails o os piped

abbrev mutual
  -- a command of a pipeline fails, or one in its parentheses, or a function that is an argument and so gets none
  pub fails_within : Pipeline → Bool → Bool
  fails_within no_command piped = false
  fails_within (command os cs) piped = (always_fails os piped || fails_inside os) || fails_within cs true

  -- in a command: the function that it calls is no argument
  pub fails_inside : Operands → Bool
  fails_inside no_operand = false
  fails_inside (operand (function f) os) = fails_among os
  fails_inside (operand o os) = fails_alone o || fails_among os

  pub fails_among : Operands → Bool
  fails_among no_operand = false
  fails_among (operand o os) = fails_alone o || fails_among os

  pub fails_alone : Operand → Bool
  fails_alone (function f) = not (takes f 0)
  fails_alone (group cs names) = fails_within cs false
  fails_alone o = false

-- in an action
abbrev pub action_fails : Action → Bool
action_fails (pipeline_action h) = fails_within h.pipeline false
action_fails (opening c h) = fails_within h.pipeline false
action_fails (else_branch br h) = fails_within h.pipeline false
action_fails (template_action name given) = option_map_or (λ p. fails_within p false) given false
action_fails (block_action name p) = fails_within p false
action_fails other = false
