-- For `put_nodes` and what it calls: layouts and weights of nodes one level at a time, by which the recursion ends and its scope fits.
use Rattle.std.proofs.Common.{arith, ◌≡◌, ◌∙◌, ◌+◌, ◌<◌, ◌≤◌, ℕ, zero, suc, Option, List, [], ◌∷◌, length, take, drop, get_or, refl, ap, sym}
use Rattle.std.proofs.lemmas.List.{at_drop_more}
use Rattle.tmpl_grammar.specs.Tree.{Binding, unbound}
use Rattle.tmpl_syntax.specs.Tree as tree
use Rattle.tmpl_syntax.specs.Tree.{NodeKind, Node, Nodes, text, action, control_node, break_node, continue_node, template_node}
use Rattle.tmpl_syntax.specs.Set.{Template}
use Rattle.tmpl_syntax.specs.View.{node_of, nodes_in}
use Rattle.tmpl_syntax.specs.declared.tree.Node as held
use Rattle.tmpl_code.specs.Code.{Code, Exit, NodeAt, NodesAt, StepAt, step_of_call}
use Rattle.tmpl_code.specs.Layout.{Layout, bound_on, after_node}
use Rattle.tmpl_code.specs.computed.Held.{StepBy, bound_off, shrunk, all_grown, number_called}

pub bound_off-on : (b : Binding) (lay : Layout) → bound_off b (bound_on b lay) ≡ lay
bound_off-on unbound lay = refl
bound_off-on _ lay = refl

pub shrunk-after_node : (n : NodeKind) (lay : Layout) → shrunk n (after_node n lay) ≡ lay
shrunk-after_node (action h) lay = bound_off-on h.binding lay
shrunk-after_node _ lay = refl

-- the nodes up to a place, and one more
pub after_node-next : (ns : List held.Node) (i : ℕ) (n : held.Node) (lay : Layout) → i < length ns → n ≡ get_or ns i n
    → all_grown (nodes_in (take (i + 1) ns)) lay ≡ after_node (node_of n).what (all_grown (nodes_in (take i ns)) lay)
after_node-next [] i n lay h is = absurd (omega arith)
after_node-next (m ∷ ns) zero n lay h is = ap (λ (k : held.Node). after_node (node_of k).what lay) (sym is)
after_node-next (m ∷ ns) (suc i) n lay h is =
    let one : suc i + 1 ≡ suc (i + 1) = omega arith in
    ap (λ k. all_grown (nodes_in (take k (m ∷ ns))) lay) one ∙ after_node-next ns i n (after_node (node_of m).what lay) (omega arith) is

pub bound-longer : (b : Binding) (lay : Layout) → length lay ≤ length (bound_on b lay)
bound-longer unbound lay = omega arith
bound-longer _ lay = omega arith

pub ruleset offs = (bound_off-on, bound-longer)

pub all_grown-longer : (ns : Nodes) (lay : Layout) → length lay ≤ length (all_grown ns lay)
all_grown-longer tree.none lay = omega arith
all_grown-longer (tree.then line (action h) ns) lay = let one = bound-longer h.binding lay in let rest = all_grown-longer ns (bound_on h.binding lay) in
    omega arith
all_grown-longer (tree.then line _ ns) lay = all_grown-longer ns lay

-- the layout before a node, and after it
module _ (ns : List held.Node) (i j : ℕ) (n : held.Node) (lay now : Layout) (h : j < length ns) (next : i ≡ j + 1) (is : n ≡ get_or ns j n)
    (grew : now ≡ all_grown (nodes_in (take i ns)) lay) where
  pub grows : now ≡ after_node (node_of n).what (all_grown (nodes_in (take j ns)) lay)
  grows = grew ∙ ap (λ k. all_grown (nodes_in (take k ns)) lay) next ∙ after_node-next ns j n lay h is

  pub shrinks : shrunk (node_of n).what now ≡ all_grown (nodes_in (take j ns)) lay
  shrinks = ap (shrunk (node_of n).what) grows ∙ shrunk-after_node (node_of n).what (all_grown (nodes_in (take j ns)) lay)

-- the nodes from one on
pub nodes_from : (ns : List held.Node) (i j : ℕ) (n : held.Node) → j < length ns → i ≡ j + 1 → n ≡ get_or ns j n
    → nodes_in (n ∷ drop i ns) ≡ nodes_in (drop j ns)
nodes_from ns i j n h next is =
    ap (λ k. nodes_in (n ∷ drop k ns)) next ∙ ap (λ (m : held.Node). nodes_in (m ∷ drop (j + 1) ns)) is ∙ sym (at_drop_more nodes_in ns j n h)

-- one node more
pub nodes_more : (ts : List Template) (ns : List held.Node) (i j : ℕ) (n : held.Node) (x : Exit) (before after : Layout) (new start mid old : Code)
    → j < length ns → i ≡ j + 1 → n ≡ get_or ns j n → after ≡ after_node (node_of n).what before → StepAt ts (node_of n).line (node_of n).what new start
    → NodeAt ts (node_of n).line (node_of n).what before x start mid → NodesAt ts (nodes_in (drop i ns)) after x mid old
    → NodesAt ts (nodes_in (drop j ns)) before x new old
nodes_more ts ns i j n x before after new start mid old h next is grew step one rest =
    rw (← nodes_from ns i j n h next is) (start, mid, step, one, rw (← grew) rest)

-- the step of a node by the number of the template that it calls
pub step_called : (ts : List Template) (line : ℕ) (n : NodeKind) (number : Option ℕ) (code rest : Code) → number ≡ number_called ts n
    → StepBy line n number code rest → StepAt ts line n code rest
step_called ts line (template_node name given) number code rest is step = step ∙ ap (λ o. step_of_call line o ∷ rest) is
step_called ts line (text t) number code rest is step = step
step_called ts line (action h) number code rest is step = step
step_called ts line (control_node c h body other) number code rest is step = step ∙ ap (λ o. step_of_call line o ∷ rest) is
step_called ts line break_node number code rest is step = step ∙ ap (λ o. step_of_call line o ∷ rest) is
step_called ts line continue_node number code rest is step = step ∙ ap (λ o. step_of_call line o ∷ rest) is
