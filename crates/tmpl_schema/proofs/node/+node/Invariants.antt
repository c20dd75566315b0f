use Rattle.std.proofs.Common.{◌≡◌, ◌+◌, ◌*◌, None, drop}
use Rattle.tmpl_syntax.specs.View.{control_of, node_of, nodes_in}
use Rattle.tmpl_schema.specs.computed.Check.{after_nodes}
use Rattle.tmpl_shape.specs.computed.View.{base_of}
use Rattle.tmpl_schema.specs.computed.View.{known_seen, left_of, state_of, table_of}
use Rattle.tmpl_syntax.proofs.WeightLemmas.{node_weight, nodes_weight}
use Rattle.tmpl_schema.proofs.node.+node.Given as goal

abbrev pub decreases-after_nodes : goal.decreases-after_nodes
decreases-after_nodes l = 60 * nodes_weight (nodes_in l.nodes.now)

abbrev pub decreases-after_node : goal.decreases-after_node
decreases-after_node l = 60 * node_weight (node_of l.node.now).what + 1

abbrev pub decreases-after_control : goal.decreases-after_control
decreases-after_control l = 60 * node_weight (control_of l.control.now)

abbrev pub decreases-after_choice : goal.decreases-after_choice
decreases-after_choice l = 60 * (nodes_weight (nodes_in l.parts.now.body.now) + nodes_weight (nodes_in l.parts.now.other.now)) + 30

abbrev pub decreases-after_range : goal.decreases-after_range
decreases-after_range l = 60 * (nodes_weight (nodes_in l.parts.now.body.now) + nodes_weight (nodes_in l.parts.now.other.now)) + 30

abbrev pub decreases-settle_soon : goal.decreases-settle_soon
decreases-settle_soon l = 60 * nodes_weight (nodes_in l.turns.now.body.now) + 19

abbrev pub decreases-settle : goal.decreases-settle
decreases-settle l = 60 * nodes_weight (nodes_in l.turns.now.body.now) + (l.rounds + 5)

abbrev pub decreases-turn : goal.decreases-turn
decreases-turn l = 60 * nodes_weight (nodes_in l.turns.now.body.now) + 4

abbrev pub invariant-after_nodes-loop-node : goal.invariant-after_nodes-loop-node
invariant-after_nodes-loop-node l =
    after_nodes (base_of l.checker.base) l.checker.mode (table_of l.checker.table.now) (known_seen l.head) None (state_of l.initial.state) (nodes_in l.nodes)
    ≡ after_nodes (base_of l.checker.base) l.checker.mode (table_of l.checker.table.now) (known_seen l.head) (left_of l.left) (state_of l.state)
    (nodes_in (drop l.node-index l.nodes))
