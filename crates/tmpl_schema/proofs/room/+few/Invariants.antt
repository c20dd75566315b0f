use Rattle.std.proofs.Common.{◌+◌, ◌*◌}
use Rattle.tmpl_syntax.specs.View.{control_of, node_of, nodes_in}
use Rattle.tmpl_syntax.proofs.WeightLemmas.{node_weight, nodes_weight}
use Rattle.tmpl_schema.proofs.room.+few.Given as goal

abbrev pub decreases-left_in : goal.decreases-left_in
decreases-left_in l = 9 * nodes_weight (nodes_in l.nodes.now)

abbrev pub decreases-left_at : goal.decreases-left_at
decreases-left_at l = 9 * node_weight (node_of l.node.now).what + 4

abbrev pub decreases-left_inside : goal.decreases-left_inside
decreases-left_inside l = 9 * node_weight (control_of l.control.now) + 3
