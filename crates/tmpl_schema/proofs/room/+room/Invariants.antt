use Rattle.std.proofs.Common.{◌+◌, ◌*◌}
use Rattle.tmpl_syntax.specs.View.{control_of, node_of, nodes_in}
use Rattle.tmpl_syntax.proofs.WeightLemmas.{node_weight, nodes_weight}
use Rattle.tmpl_schema.proofs.room.+room.Given as goal

abbrev pub decreases-crowded_in : goal.decreases-crowded_in
decreases-crowded_in l = 9 * nodes_weight (nodes_in l.nodes.now)

abbrev pub decreases-crowded_at : goal.decreases-crowded_at
decreases-crowded_at l = 9 * node_weight (node_of l.node.now).what + 4

abbrev pub decreases-crowded_inside : goal.decreases-crowded_inside
decreases-crowded_inside l = 9 * node_weight (control_of l.control.now) + 3
