use Rattle.std.proofs.Common.{◌≡◌, ◌≤◌, ◌+◌, ◌*◌, drop, false, length}
use Rattle.tmpl_grammar.specs.View.{commands_in, operand_of, operands_in}
use Rattle.tmpl_grammar.specs.Need.{need_of_commands, need_of_arguments}
use Rattle.tmpl_code.specs.MakesText.{commands_make_text, operands_make_text}
use Rattle.tmpl_code.specs.computed.Surveyed.{Surveys}
use Rattle.tmpl_grammar.proofs.WeightLemmas.{all_weight, weight, weights}
use Rattle.tmpl_code.proofs.cost.+pipes.Given as goal

abbrev pub decreases-cost_of_commands : goal.decreases-cost_of_commands
decreases-cost_of_commands l = 4 * all_weight (commands_in l.commands.now) + 3

abbrev pub decreases-cost_of_piped : goal.decreases-cost_of_piped
decreases-cost_of_piped l = 4 * all_weight (commands_in l.commands.now) + 2

abbrev pub decreases-cost_of_command : goal.decreases-cost_of_command
decreases-cost_of_command l = 4 * weights (operands_in l.operands.now) + 2

abbrev pub decreases-cost_of_arguments : goal.decreases-cost_of_arguments
decreases-cost_of_arguments l = 4 * weights (operands_in l.operands.now) + 1

abbrev pub decreases-cost_of_operand : goal.decreases-cost_of_operand
decreases-cost_of_operand l = 4 * weight (operand_of l.operand.now)

abbrev pub decreases-cost_of_piped-loop-i : goal.decreases-cost_of_piped-loop-i
decreases-cost_of_piped-loop-i l = l.i

abbrev pub decreases-cost_of_arguments-loop-i : goal.decreases-cost_of_arguments-loop-i
decreases-cost_of_arguments-loop-i l = l.i

abbrev pub invariant-cost_of_piped-loop-i : goal.invariant-cost_of_piped-loop-i
invariant-cost_of_piped-loop-i l = record {
  within : l.i ≤ length l.commands;
  cost : let cs = commands_in (drop l.i l.commands) in Surveys (need_of_commands 1 cs) (commands_make_text cs) false l.cost;
}

abbrev pub invariant-cost_of_arguments-loop-i : goal.invariant-cost_of_arguments-loop-i
invariant-cost_of_arguments-loop-i l = record {
  within : l.i ≤ length l.operands;
  below : l.below ≡ l.held + l.i;
  cost : let os = operands_in (drop l.i l.operands) in Surveys (need_of_arguments (l.held + l.i) os) (operands_make_text os) false l.cost;
}
