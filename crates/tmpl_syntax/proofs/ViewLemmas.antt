-- For code on nodes: nodes, seen by their parts.
use Rattle.std.proofs.Common.{rules, ◌≡◌, ◌∙◌, ℕ, Box, Global}
use Rattle.tmpl_grammar.specs.View.{header_of}
use Rattle.tmpl_syntax.specs.Tree.{NodeKind, control_node}
use Rattle.tmpl_syntax.specs.View.{control_of, node_of, nodes_in}
use Rattle.tmpl_syntax.specs.computed.View.{kind_of}
use Rattle.tmpl_syntax.specs.declared.tree.Node.{roll-Node}
use Rattle.tmpl_syntax.specs.declared.tree.ControlNode as held_node_control
use Rattle.tmpl_syntax.specs.declared.tree.ControlNode.{out-ControlNode}
use Rattle.tmpl_syntax.specs.declared.tree.NodeKind as held_kind
use Rattle.tmpl_syntax.specs.declared.tree.NodeKind.{Control, the_lemmas}

pub node_of-Node : (line start : ℕ) (what : held_kind.NodeKind)
    → node_of (roll-Node (record { line = line; start = start; what = what })) ≡ record { line = line; what = kind_of what }
node_of-Node line start what = search (rules, the_lemmas)

pub kind_of-Control : (c : Box held_node_control.ControlNode Global) → kind_of (Control c) ≡ control_of c.value
kind_of-Control c = search (rules, the_lemmas)

-- .. and so by its fields
abbrev pub control_seen : held_node_control.ControlNode → NodeKind
control_seen c =
    let node = out-ControlNode c in
    control_node node.control (header_of node.header) (nodes_in node.body.items) (nodes_in node.other.items)

pub control_of-fields : (c : held_node_control.ControlNode) → control_of c ≡ control_seen c
control_of-fields c = search (rules, the_lemmas)

pub kind_of-fields : (c : Box held_node_control.ControlNode Global) → kind_of (Control c) ≡ control_seen c.value
kind_of-fields c = kind_of-Control c ∙ control_of-fields c.value

pub ruleset controls = (kind_of-fields, kind_of-Control, control_of-fields)

pub ruleset nodes = node_of-Node
