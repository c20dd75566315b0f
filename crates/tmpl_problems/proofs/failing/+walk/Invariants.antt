use Rattle.std.proofs.Common.{◌≡◌, ◌+◌, ◌*◌, false, drop}
use Rattle.tmpl_grammar.specs.View.{commands_in, operand_of, operands_in}
use Rattle.tmpl_problems.specs.Failing.{fails_among, fails_within}
use Rattle.tmpl_grammar.proofs.WeightLemmas.{all_weight, weight, weights}
use Rattle.tmpl_problems.proofs.failing.+walk.Given as goal

abbrev pub decreases-failing_in : goal.decreases-failing_in
decreases-failing_in l = 4 * all_weight (commands_in l.commands.now) + 3

abbrev pub decreases-failing_command : goal.decreases-failing_command
decreases-failing_command l = 4 * weights (operands_in l.operands.now) + 2

abbrev pub decreases-failing_among : goal.decreases-failing_among
decreases-failing_among l = 4 * weights (operands_in l.operands.now) + 1

abbrev pub decreases-failing_alone : goal.decreases-failing_alone
decreases-failing_alone l = 4 * weight (operand_of l.operand.now)

abbrev pub invariant-failing_among-loop-operand : goal.invariant-failing_among-loop-operand
invariant-failing_among-loop-operand l = fails_among (operands_in (drop l.operand-index l.operands)) ≡ fails_among (operands_in l.operands)

abbrev pub invariant-failing_in-loop-command : goal.invariant-failing_in-loop-command
invariant-failing_in-loop-command l = fails_within (commands_in (drop l.command-index l.commands)) l.is_piped ≡ fails_within (commands_in l.commands) false
