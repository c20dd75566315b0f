use Rattle.std.proofs.Common.{◌+◌, ◌*◌}
use Rattle.tmpl_grammar.specs.View.{commands_in, operand_of, operands_in}
use Rattle.tmpl_grammar.proofs.WeightLemmas.{all_weight, weight, weights}
use Rattle.tmpl_schema.proofs.state.+narrow.Given as goal

abbrev pub decreases-narrow : goal.decreases-narrow
decreases-narrow l = 8 * all_weight (commands_in l.commands.now) + 5

abbrev pub decreases-narrow_command : goal.decreases-narrow_command
decreases-narrow_command l = 8 * weights (operands_in l.operands.now) + 4

abbrev pub decreases-narrow_call : goal.decreases-narrow_call
decreases-narrow_call l = 8 * weights (operands_in l.operands.now) + 3

abbrev pub decreases-narrow_all : goal.decreases-narrow_all
decreases-narrow_all l = 8 * weights (operands_in l.operands.now) + 1

abbrev pub decreases-narrow_operand : goal.decreases-narrow_operand
decreases-narrow_operand l = 8 * weight (operand_of l.operand.now)
