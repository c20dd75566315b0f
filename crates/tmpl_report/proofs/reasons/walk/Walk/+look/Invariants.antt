use Rattle.std.proofs.Common.{◌+◌, ◌*◌}
use Rattle.tmpl_report.proofs.reasons.walk.Walk.+look.Given as goal

abbrev pub decreases-look_into : goal.decreases-look_into
decreases-look_into l = 10 * l.levels + 0

abbrev pub decreases-look_operand : goal.decreases-look_operand
decreases-look_operand l = 10 * l.levels + 5
