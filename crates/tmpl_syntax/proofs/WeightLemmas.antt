-- For code on nodes: their weight one level at a time, by which its recursion ends.
use Rattle.std.proofs.Common.{arith, ◌≡◌, ◌+◌, ◌<◌, ℕ, zero, suc, List, [], ◌∷◌, length, get_or}
use Rattle.tmpl_syntax.specs.Tree as tree
use Rattle.tmpl_syntax.specs.Tree.{NodeKind, Nodes, control_node}
use Rattle.tmpl_syntax.specs.View.{node_of, nodes_in}
use Rattle.tmpl_syntax.specs.declared.tree.Node as held

-- how much there is to look at
abbrev mutual
  pub node_weight : NodeKind → ℕ
  node_weight (control_node c h body other) = suc (nodes_weight body + nodes_weight other)
  node_weight _ = 0

  pub nodes_weight : Nodes → ℕ
  nodes_weight tree.none = 0
  nodes_weight (tree.then line n ns) = suc (node_weight n + nodes_weight ns)

pub item-weight : (ns : List held.Node) (i : ℕ) (n : held.Node) → i < length ns → n ≡ get_or ns i n → node_weight (node_of n).what < nodes_weight (nodes_in ns)
item-weight [] i n h is = absurd (omega arith)
item-weight (m ∷ ns) zero n h is = rw is (omega arith)
item-weight (m ∷ ns) (suc i) n h is = omega (arith, item-weight ns i n (omega arith) is)

pub ruleset lighter = (item-weight)
