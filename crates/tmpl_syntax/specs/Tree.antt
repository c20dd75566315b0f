-- The tree of a template, apart from how it is held.
use Rattle.std.specs.Prelude.{ℕ, List, [], ◌∷◌, Option}
use Rattle.tmpl_grammar.specs.Tree.{Pipeline, Header}
use Rattle.tmpl_grammar.specs.declared.tree.Control.{Control}

mutual
  -- what a node is; a control has its body and its else part
  pub data NodeKind : Type 0 where
    text : List ℕ → NodeKind
    action : Header → NodeKind
    control_node : Control → Header → Nodes → Nodes → NodeKind
    break_node continue_node : NodeKind
    -- a call of the template of this name, with a pipeline or with nothing
    template_node : List ℕ → Option Pipeline → NodeKind

  -- nodes one after the other, each with its line
  pub data Nodes : Type 0 where
    none : Nodes
    then : ℕ → NodeKind → Nodes → Nodes

pub record Node : Type 0 where
  pub line : ℕ
  pub what : NodeKind

abbrev pub nodes_of : List Node → Nodes
nodes_of [] = none
nodes_of (n ∷ ns) = then n.line n.what (nodes_of ns)

-- a body, and the path of the file that it stands in
pub record Tree : Type 0 where
  pub file : List ℕ
  pub nodes : Nodes

-- a template that a file defines: the line of its header, its name and its body
pub record Definition : Type 0 where
  pub line : ℕ
  pub name : List ℕ
  pub nodes : Nodes
