-- What trees, sets, items and the steps between them stand for, apart from how they are held.
use Rattle.std.specs.Prelude.{ℕ, List, Vec, map, option_map}
use Rattle.std.specs.declared.alloc.Global.{Global}
use Rattle.tmpl_grammar.specs.View.{header_of, pipeline_of}
use Rattle.tmpl_syntax.specs.Tree.{NodeKind, text, action, control_node, break_node}
use Rattle.tmpl_syntax.specs.Tree.{continue_node, template_node, Nodes, Node, nodes_of, Tree}
use Rattle.tmpl_syntax.specs.Set.{Template}
use Rattle.tmpl_syntax.specs.declared.tree.Node as held_node
use Rattle.tmpl_syntax.specs.declared.tree.Node.{fold-Node}
use Rattle.tmpl_syntax.specs.declared.tree.NodeKind.TheOpen.{Node-F, ControlNode-F, NodeKind-F}
use Rattle.tmpl_syntax.specs.declared.tree.ControlNode as held_control
use Rattle.tmpl_syntax.specs.declared.tree.ControlNode.{fold-ControlNode}
use Rattle.tmpl_syntax.specs.declared.tree.Tree as held_tree
use Rattle.tmpl_syntax.specs.declared.name_hash.NameHash.{NameHash}
use Rattle.tmpl_syntax.specs.declared.set.Set.{Set}
use Rattle.tmpl_syntax.specs.declared.set.Names.{Names}

-- ---- trees

-- one node, with those inside it already seen
abbrev pub node_step : Node-F NodeKind NodeKind Node → Node
node_step n = record { line = n.line; what = n.what }

abbrev pub control_step : ControlNode-F NodeKind NodeKind Node → NodeKind
control_step c = control_node c.control (header_of c.header) (nodes_of c.body.items) (nodes_of c.other.items)

abbrev pub kind_step : NodeKind-F NodeKind NodeKind Node → NodeKind
kind_step (NodeKind-F.Text bytes) = text bytes
kind_step (NodeKind-F.Action h) = action (header_of h)
kind_step (NodeKind-F.Control c) = c.value
kind_step NodeKind-F.Break = break_node
kind_step NodeKind-F.Continue = continue_node
kind_step (NodeKind-F.Template name given) = template_node name (option_map pipeline_of given)

abbrev pub node_of : held_node.Node → Node
node_of = fold-Node NodeKind NodeKind Node kind_step control_step node_step

abbrev pub control_of : held_control.ControlNode → NodeKind
control_of = fold-ControlNode NodeKind NodeKind Node kind_step control_step node_step

abbrev pub nodes_in : List held_node.Node → Nodes
nodes_in ns = nodes_of (map node_of ns)

abbrev pub tree_of : held_tree.Tree → Tree
tree_of t = record { file = t.file.value; nodes = nodes_in t.nodes.items }

-- ---- sets

abbrev pub template_of : Vec ℕ Global × held_tree.Tree → Template
template_of e = (e.0.items, tree_of e.1)

-- the templates that entries hold
unfoldable pub entries_view : List (Vec ℕ Global × held_tree.Tree) → List Template
entries_view entries = map template_of entries

-- a set is held as entries and how their names are hashed
unfoldable pub set_view : Set → List Template
set_view s = entries_view s.0

abbrev pub hash_view : Set → NameHash
hash_view s = s.1

-- the names that are left to give
abbrev pub names_left : Names → List (List ℕ)
names_left n = map (λ (k : Vec ℕ Global). k.items) n.keys
