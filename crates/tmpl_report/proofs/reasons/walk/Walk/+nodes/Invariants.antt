use Rattle.std.proofs.Common.{◌+◌, ◌*◌}
use Rattle.tmpl_report.proofs.reasons.walk.Walk.+nodes.Given as goal

abbrev pub decreases-nodes : goal.decreases-nodes
decreases-nodes l = 10 * l.levels + 0

abbrev pub decreases-node : goal.decreases-node
decreases-node l = 10 * l.levels + 5

abbrev pub decreases-control : goal.decreases-control
decreases-control l = 10 * l.levels + 4
