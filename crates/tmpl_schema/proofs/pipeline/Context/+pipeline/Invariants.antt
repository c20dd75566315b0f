use Rattle.std.proofs.Common.{◌+◌, ◌*◌}
use Rattle.tmpl_grammar.specs.View.{commands_in, operand_of, operands_in}
use Rattle.tmpl_grammar.proofs.WeightLemmas.{all_weight, weight, weights}
use Rattle.tmpl_schema.proofs.pipeline.Context.+pipeline.Given as goal

abbrev pub decreases-commands_shape : goal.decreases-commands_shape
decreases-commands_shape l = 8 * all_weight (commands_in l.commands.now) + 5

abbrev pub decreases-command_shape : goal.decreases-command_shape
decreases-command_shape l = 8 * weights (operands_in l.operands.now) + 4

abbrev pub decreases-function_shape : goal.decreases-function_shape
decreases-function_shape l = 8 * weights (operands_in l.operands.now) + 3

abbrev pub decreases-called_shape : goal.decreases-called_shape
decreases-called_shape l = 8 * weights (operands_in l.operands.now) + 2

abbrev pub decreases-argument_kinds : goal.decreases-argument_kinds
decreases-argument_kinds l = 8 * weights (operands_in l.operands.now) + 1

abbrev pub decreases-put_arguments : goal.decreases-put_arguments
decreases-put_arguments l = 8 * weights (operands_in l.operands.now)

abbrev pub decreases-junction_shape : goal.decreases-junction_shape
decreases-junction_shape l = 8 * weights (operands_in l.operands.now) + 1

abbrev pub decreases-alone_shape : goal.decreases-alone_shape
decreases-alone_shape l = 8 * weight (operand_of l.first.now) + 1

abbrev pub decreases-operand_shape : goal.decreases-operand_shape
decreases-operand_shape l = 8 * weight (operand_of l.operand.now)

abbrev pub decreases-indexed_shape : goal.decreases-indexed_shape
decreases-indexed_shape l = 8 * weights (operands_in l.operands.now) + 2

abbrev pub decreases-entry_along : goal.decreases-entry_along
decreases-entry_along l = 8 * weights (operands_in l.keys.now) + 1

abbrev pub decreases-printed_shape : goal.decreases-printed_shape
decreases-printed_shape l = 8 * weights (operands_in l.operands.now) + 2

abbrev pub decreases-sliced_shape : goal.decreases-sliced_shape
decreases-sliced_shape l = 8 * weights (operands_in l.operands.now) + 2
