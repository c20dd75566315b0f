-- Whether templates call others, and their weights and allowances, by which a look at each call says how many cells are
-- enough for all chains of calls.
use Rattle.std.specs.Prelude.{◌≡◌, ℕ, ◌+◌, ◌*◌, ◌≤◌, ◌||◌, Bool, true, false, max, List, [], ◌∷◌, get_or, Option}
use Rattle.std.specs.Prelude.{Some, None, slice_get}
use Rattle.tmpl_syntax.specs.Need.{need}
use Rattle.tmpl_syntax.specs.Set.{Template, number_of}
use Rattle.tmpl_syntax.specs.Tree as tree
use Rattle.tmpl_syntax.specs.Tree.{NodeKind, control_node, template_node, Nodes}
use Rattle.tmpl_code.specs.Room.{Suffices}

-- whether there is a call
abbrev mutual
  pub node_calls : NodeKind → Bool
  node_calls (control_node c h body other) = nodes_call body || nodes_call other
  node_calls (template_node name given) = true
  node_calls n = false

  pub nodes_call : Nodes → Bool
  nodes_call tree.none = false
  nodes_call (tree.then line n ns) = node_calls n || nodes_call ns

-- whether some template does
abbrev pub set_calls : List Template → Bool
set_calls [] = false
set_calls (t ∷ ts) = nodes_call t.1.nodes || set_calls ts

-- ---- weights

abbrev pub weight_found : List ℕ → Option ℕ → ℕ
weight_found weights None = 0
weight_found weights (Some number) = get_or weights number 0

-- the weight of the heaviest template that is called
abbrev mutual
  pub heaviest_of_node : List Template → List ℕ → NodeKind → ℕ
  heaviest_of_node ts weights (control_node c h body other) =
      max (heaviest_of_nodes ts weights body) (heaviest_of_nodes ts weights other)
  heaviest_of_node ts weights (template_node name given) = weight_found weights (number_of name ts)
  heaviest_of_node ts weights n = 0

  pub heaviest_of_nodes : List Template → List ℕ → Nodes → ℕ
  heaviest_of_nodes ts weights tree.none = 0
  heaviest_of_nodes ts weights (tree.then line n ns) =
      max (heaviest_of_node ts weights n) (heaviest_of_nodes ts weights ns)

-- a template's weight and its allowance pay for what it needs and the heaviest that it calls, whose allowances are no
-- larger; the weight is no more than is held once, nor is the allowance more than each is given
pub record HoldsOf (ts : List Template) (weights allowances : List ℕ) (fixed each number : ℕ) (t : Template) : Type 0 where
  pub pays : need t.1 + heaviest_of_nodes ts weights t.1.nodes ≤ get_or weights number 0 + get_or allowances number 0
  pub lasts : heaviest_of_nodes ts allowances t.1.nodes ≤ get_or allowances number 0
  pub most : get_or weights number 0 ≤ fixed
  pub greatest : get_or allowances number 0 ≤ each

-- so it is of each template
abbrev pub Hold : List Template → List ℕ → List ℕ → ℕ → ℕ → Type 0
Hold ts weights allowances fixed each =
    (number : ℕ) (t : Template) → slice_get ts number ≡ Some t → HoldsOf ts weights allowances fixed each number t

-- this many cells, and this many more for each template that may be inside the others, are enough for every template
abbrev pub IsBound : List Template → ℕ → ℕ → Type 0
IsBound ts fixed each = (depth first : ℕ) → Suffices depth ts first (fixed + depth * each)

-- for each template its weight, and its allowance for each template that may be inside the others, are enough
abbrev pub AreEnough : List Template → List ℕ → List ℕ → Type 0
AreEnough ts weights allowances =
    (depth first : ℕ) → Suffices depth ts first (get_or weights first 0 + depth * get_or allowances first 0)
