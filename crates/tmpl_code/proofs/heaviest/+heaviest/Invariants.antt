use Rattle.std.proofs.Common.{◌≡◌, ◌≤◌, ◌+◌, ◌*◌, drop, length}
use Rattle.tmpl_syntax.specs.View.{node_of, nodes_in, set_view}
use Rattle.tmpl_code.specs.computed.Weights.{heaviest_of_nodes}
use Rattle.tmpl_syntax.proofs.WeightLemmas.{node_weight, nodes_weight}
use Rattle.tmpl_code.proofs.heaviest.+heaviest.Given as goal

abbrev pub decreases-heaviest_of_nodes : goal.decreases-heaviest_of_nodes
decreases-heaviest_of_nodes l = 2 * nodes_weight (nodes_in l.nodes.now)

abbrev pub decreases-heaviest_of_node : goal.decreases-heaviest_of_node
decreases-heaviest_of_node l = 2 * node_weight (node_of l.node.now).what + 1

abbrev pub decreases-heaviest_of_nodes-loop-i : goal.decreases-heaviest_of_nodes-loop-i
decreases-heaviest_of_nodes-loop-i l = l.i

abbrev pub invariant-heaviest_of_nodes-loop-i : goal.invariant-heaviest_of_nodes-loop-i
invariant-heaviest_of_nodes-loop-i l = record {
  within : l.i ≤ length l.nodes;
  weight : l.heaviest.weight ≡ heaviest_of_nodes (set_view l.set) l.claims.weights.items (nodes_in (drop l.i l.nodes));
  allowance : l.heaviest.allowance ≡ heaviest_of_nodes (set_view l.set) l.claims.allowances.items (nodes_in (drop l.i l.nodes));
}
