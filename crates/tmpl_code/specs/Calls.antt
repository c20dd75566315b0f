-- Which templates call which, and how many can be inside one another.
use Rattle.std.specs.Prelude.{◌≡◌, ◌⊎◌, ℕ, List, [], ◌∷◌, Some, slice_get}
use Rattle.tmpl_syntax.specs.Tree as tree
use Rattle.tmpl_syntax.specs.Tree.{NodeKind, control_node, template_node, Nodes}
use Rattle.tmpl_syntax.specs.Set.{Template, number_of}

-- a template of this name is called, by the node or in one of its parts
abbrev mutual
  pub NodeNames : List ℕ → NodeKind → Type 0
  NodeNames name (control_node c h body other) = NodesName name body ⊎ NodesName name other
  NodeNames name (template_node called given) = name ≡ called
  NodeNames name n = ⊥

  pub NodesName : List ℕ → Nodes → Type 0
  NodesName name tree.none = ⊥
  NodesName name (tree.then line n ns) = NodeNames name n ⊎ NodesName name ns

-- the template of one number calls that of another
pub record Calls (ts : List Template) (i j : ℕ) : Type 0 where
  pub caller : Template
  pub at : slice_get ts i ≡ Some caller
  pub name : List ℕ
  pub named : NodesName name caller.1.nodes
  pub number : number_of name ts ≡ Some j

-- a template calls the first of these, and each of them the next
abbrev pub IsChain : List Template → ℕ → List ℕ → Type 0
IsChain ts i [] = Unit {0}
IsChain ts i (j ∷ more) = Calls ts i j × IsChain ts j more
