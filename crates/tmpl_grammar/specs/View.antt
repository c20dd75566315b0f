-- What trees and actions stand for, apart from how they are held.
use Rattle.std.specs.Prelude.{List, Option, map, option_map}
use Rattle.std.specs.Borrow.{Bor}
use Rattle.tmpl_grammar.specs.Tree.{Operand, dot, fields, variable, bool_constant, number_constant, text_constant, nil}
use Rattle.tmpl_grammar.specs.Tree.{function, group, Operands, operands_from, Pipeline, commands_from}
use Rattle.tmpl_grammar.specs.Tree.{Binding, unbound, declare, assign, declare_pair, Header}
use Rattle.tmpl_grammar.specs.Action.{Action, pipeline_action, opening, plain_else, else_branch, end_action}
use Rattle.tmpl_grammar.specs.Action.{break_action, continue_action, define_action, template_action, block_action}
use Rattle.tmpl_grammar.specs.declared.tree.Operand as held_operand
use Rattle.tmpl_grammar.specs.declared.tree.Operand.{fold-Operand}
use Rattle.tmpl_grammar.specs.declared.tree.Operand.TheOpen.{Operand-F, Command-F}
use Rattle.tmpl_grammar.specs.declared.tree.Command as held_command
use Rattle.tmpl_grammar.specs.declared.tree.Pipeline as held_pipeline
use Rattle.tmpl_grammar.specs.declared.tree.Binding as held_binding
use Rattle.tmpl_grammar.specs.declared.tree.Binding.TheVariants as binding
use Rattle.tmpl_grammar.specs.declared.tree.Header as held_header
use Rattle.tmpl_grammar.specs.declared.action.Action as held_action
use Rattle.tmpl_grammar.specs.declared.action.Action.TheVariants as act
use Rattle.tmpl_grammar.specs.declared.print.PrintedAction.{PrintedAction}
use Rattle.tmpl_grammar.specs.declared.print.PrintedAction.TheVariants as print

-- ---- trees

-- one operand, with what stands inside it already seen
abbrev pub operand_step : Operand-F Operand Operands → Operand
operand_step Operand-F.Dot = dot
operand_step (Operand-F.Fields names) = fields names.items
operand_step (Operand-F.Variable name names) = variable name names.items
operand_step (Operand-F.Bool b) = bool_constant b
operand_step (Operand-F.Number n) = number_constant n
operand_step (Operand-F.Text bytes) = text_constant bytes
operand_step Operand-F.Nil = nil
operand_step (Operand-F.Function f) = function f
operand_step (Operand-F.Group commands names) = group (commands_from commands.items) names.items

abbrev pub command_step : Command-F Operand Operands → Operands
command_step c = operands_from c.operands.items

abbrev pub operand_of : held_operand.Operand → Operand
operand_of = fold-Operand Operand Operands operand_step command_step

abbrev pub operands_in : List held_operand.Operand → Operands
operands_in os = operands_from (map operand_of os)

abbrev pub command_of : held_command.Command → Operands
command_of c = operands_in c.operands.items

abbrev pub commands_in : List held_command.Command → Pipeline
commands_in cs = commands_from (map command_of cs)

abbrev pub pipeline_of : held_pipeline.Pipeline → Pipeline
pipeline_of p = commands_in p.commands.items

abbrev pub binding_of : held_binding.Binding → Binding
binding_of binding.Unbound = unbound
binding_of (binding.Declare name) = declare name
binding_of (binding.Assign name) = assign name
binding_of (binding.DeclarePair pair) = declare_pair pair.value.key pair.value.element

abbrev pub header_of : held_header.Header → Header
header_of h = record { binding = binding_of h.binding; pipeline = pipeline_of h.pipeline }

-- ---- actions

abbrev pub action_of : held_action.Action → Action
action_of (act.Pipeline h) = pipeline_action (header_of h)
action_of (act.Open c h) = opening c (header_of h)
action_of act.Else = plain_else
action_of (act.ElseBranch branch h) = else_branch branch (header_of h)
action_of act.End = end_action
action_of act.Break = break_action
action_of act.Continue = continue_action
action_of (act.Define name) = define_action name
action_of (act.Template name given) = template_action name (option_map pipeline_of given)
action_of (act.Block name p) = block_action name (pipeline_of p)

-- the pipeline that a call is given
abbrev pub given_of : Option (Bor held_pipeline.Pipeline) → Option Pipeline
given_of given = option_map (λ p. pipeline_of p.now) given

-- an action that is printed
abbrev pub printed_of : PrintedAction → Action
printed_of (print.Pipeline h) = pipeline_action (header_of h.now)
printed_of (print.Open c h) = opening c (header_of h.now)
printed_of print.Else = plain_else
printed_of print.End = end_action
printed_of print.Break = break_action
printed_of print.Continue = continue_action
printed_of (print.Define name) = define_action name.now
printed_of (print.Template name given) = template_action name.now (given_of given)
