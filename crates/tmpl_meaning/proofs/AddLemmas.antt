-- For the law `adds_to_text`: no part of a template takes anything from the text of its run.
use Rattle.std.proofs.Common.{◌≡◌, ◌∙◌, ◌++◌, ℕ, List, [], Some, None, ap, sym, append-nil, append_assoc}
use Rattle.tmpl_grammar.specs.Tree.{Pipeline}
use Rattle.tmpl_syntax.specs.Tree as tree
use Rattle.tmpl_syntax.specs.Tree.{NodeKind, Nodes, control_node, template_node}
use Rattle.tmpl_syntax.specs.Set.{Template}
use Rattle.tmpl_meaning.specs.Meaning.{Rules, Run, calls_within, setting_of, stepped}
use Rattle.tmpl_meaning.specs.Laws.{NodeAdds, NodesAdd}
use Rattle.tmpl_meaning.proofs.EachPartLemmas.{CallsKeep, Keeps, NodeHas, NodesHave, calls-kept, nodes-kept, spend-kept, stepped-kept}

abbrev pub Adds : Run → Run → Type 0
Adds r q = (more : List ℕ) × (q.text ≡ r.text ++ more)

-- whatever the pipelines are
abbrev pub Any : Pipeline → Type 0
Any p = Unit {0}

mutual
  pub any-node : (n : NodeKind) → NodeHas Any n
  any-node (control_node c h body other) = (tt, any-nodes body, any-nodes other)
  any-node (template_node name None) = tt
  any-node (template_node name (Some p)) = tt
  any-node _ = tt

  pub any-nodes : (ns : Nodes) → NodesHave Any ns
  any-nodes tree.none = tt
  any-nodes (tree.then line n ns) = (any-node n, any-nodes ns)

pub adds : Keeps Adds Any
adds = record {
  same = λ r. ([], sym (append-nil r.text));
  on = λ r q u x y. (x.0 ++ y.0, y.1 ∙ ap (λ l. l ++ y.0) x.1 ∙ append_assoc r.text x.0 y.0);
  binds = λ r env. ([], sym (append-nil r.text));
  spends = λ r left. ([], sym (append-nil r.text));
  puts = λ r bytes. (bytes, λ j. r.text ++ bytes);
  pipes = λ p s fine r. ([], sym (append-nil r.text));
}

pub calls-add : (rules : Rules) (set : List Template) (depth : ℕ) → CallsKeep adds (calls_within rules set depth)
calls-add rules set depth = calls-kept adds rules set (λ name t is. any-nodes t.nodes) depth

pub node-adds : NodeAdds
node-adds rules set depth name t line n d =
    let s = setting_of rules (calls_within rules set depth) name t in
    spend-kept adds s line (stepped s line n d) (stepped-kept adds s (calls-add rules set depth) n line d (any-node n))

pub nodes-add : NodesAdd
nodes-add rules set depth name t ns d =
    nodes-kept adds (setting_of rules (calls_within rules set depth) name t) (calls-add rules set depth) ns d (any-nodes ns)
