use Rattle.tmpl_grammar.specs.View.{commands_in, operand_of, operands_in}
use Rattle.tmpl_grammar.proofs.WeightLemmas.{all_weight, weight, weights}
use Rattle.tmpl_loops.proofs.find.+seen.Given as goal

abbrev pub decreases-is_seen : goal.decreases-is_seen
decreases-is_seen l = weight (operand_of l.operand.now)

abbrev pub decreases-are_seen : goal.decreases-are_seen
decreases-are_seen l = weights (operands_in l.operands.now)

abbrev pub decreases-are_all_seen : goal.decreases-are_all_seen
decreases-are_all_seen l = all_weight (commands_in l.commands.now)
