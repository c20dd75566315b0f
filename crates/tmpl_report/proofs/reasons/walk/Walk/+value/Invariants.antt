use Rattle.std.proofs.Common.{◌+◌, ◌*◌}
use Rattle.tmpl_report.proofs.reasons.walk.Walk.+value.Given as goal

abbrev pub decreases-pipeline : goal.decreases-pipeline
decreases-pipeline l = 10 * l.levels + 0

abbrev pub decreases-command : goal.decreases-command
decreases-command l = 10 * l.levels + 5

abbrev pub decreases-operand : goal.decreases-operand
decreases-operand l = 10 * l.levels + 4
