use Rattle.std.proofs.Common.{◌+◌, ◌*◌}
use Rattle.tmpl_syntax.specs.View.{control_of, node_of, nodes_in, set_view}
use Rattle.tmpl_syntax.proofs.WeightLemmas.{node_weight, nodes_weight}
use Rattle.tmpl_code.proofs.TailLemmas.{Putting}
use Rattle.tmpl_code.proofs.node.Compiler.+nodes.Given as goal

abbrev pub decreases-put_nodes : goal.decreases-put_nodes
decreases-put_nodes l = 5 * nodes_weight (nodes_in l.nodes.now)

abbrev pub decreases-put_node : goal.decreases-put_node
decreases-put_node l = 5 * node_weight (node_of l.node.now).what + 4

abbrev pub decreases-put_control : goal.decreases-put_control
decreases-put_control l = 5 * node_weight (control_of l.node.now) + 3

abbrev pub decreases-put_part : goal.decreases-put_part
decreases-put_part l = 5 * nodes_weight (nodes_in l.nodes.now) + 1

abbrev pub decreases-put_ended : goal.decreases-put_ended
decreases-put_ended l = 5 * nodes_weight (nodes_in l.nodes.now) + 2

abbrev pub decreases-put_dotted_part : goal.decreases-put_dotted_part
decreases-put_dotted_part l = 5 * nodes_weight (nodes_in l.nodes.now) + 1

abbrev pub decreases-put_turns : goal.decreases-put_turns
decreases-put_turns l = 5 * nodes_weight (nodes_in l.body.now) + 1

abbrev pub decreases-put_if : goal.decreases-put_if
decreases-put_if l = 5 * (nodes_weight (nodes_in l.parts.body.now) + nodes_weight (nodes_in l.parts.other.now)) + 3

abbrev pub decreases-put_with : goal.decreases-put_with
decreases-put_with l = 5 * (nodes_weight (nodes_in l.parts.body.now) + nodes_weight (nodes_in l.parts.other.now)) + 3

abbrev pub decreases-put_range : goal.decreases-put_range
decreases-put_range l = 5 * (nodes_weight (nodes_in l.parts.body.now) + nodes_weight (nodes_in l.parts.other.now)) + 3

abbrev pub decreases-put_nodes-loop-i : goal.decreases-put_nodes-loop-i
decreases-put_nodes-loop-i l = l.i

abbrev pub invariant-put_nodes-loop-i : goal.invariant-put_nodes-loop-i
invariant-put_nodes-loop-i l = Putting (set_view l.site.set.now) l.site.exit l.nodes l.i l.fn.self l.self
