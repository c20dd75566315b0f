use Rattle.tmpl_grammar.specs.View.{commands_in, operand_of, operands_in}
use Rattle.tmpl_grammar.proofs.WeightLemmas.{all_weight, weight, weights}
use Rattle.tmpl_schema.proofs.room.+need.Given as goal

abbrev pub decreases-pipeline_need : goal.decreases-pipeline_need
decreases-pipeline_need l = all_weight (commands_in l.commands.now)

abbrev pub decreases-command_need : goal.decreases-command_need
decreases-command_need l = weights (operands_in l.operands.now)

abbrev pub decreases-operand_need : goal.decreases-operand_need
decreases-operand_need l = weight (operand_of l.operand.now)
