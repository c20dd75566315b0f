-- Which trees are formed: each name that is used or assigned in them is in scope where it stands, each `break` and
-- `continue` stands in the body of a range, and no more levels are inside one another than may be.
use Rattle.std.specs.Prelude.{◌≡◌, ℕ, ◌+◌, Bool, true, false, ◌&&◌, nat_lt, List, [], ◌∷◌}
use Rattle.std.specs.List.{list_any, list_all}
use Rattle.std.specs.Str.{bytes_eq}
use Rattle.tmpl_grammar.specs.Tree.{Binding, declare, declare_pair}
use Rattle.tmpl_grammar.specs.declared.tree.Control.{Control}
use Rattle.tmpl_grammar.specs.declared.tree.Control.TheVariants.{Range}
use Rattle.tmpl_syntax.specs.Tree as tree
use Rattle.tmpl_syntax.specs.Tree.{NodeKind, text, action, control_node, break_node, continue_node, template_node}
use Rattle.tmpl_syntax.specs.Tree.{Nodes, Definition}
use Rattle.tmpl_syntax.specs.Place.Role.{Name, names_of, names_given}
use Rattle.tmpl_syntax.specs.Place.Body.{most_levels}

abbrev pub is_among : List Name → Name → Bool
is_among scope name = list_any (bytes_eq name) scope

-- each of the names is in this scope, which has the newest name first
abbrev pub are_among : List Name → List Name → Bool
are_among scope names = list_all (is_among scope) names

-- the scope after what binds a pipeline's value
abbrev pub declared_to : Binding → List Name → List Name
declared_to (declare name) scope = name ∷ scope
declared_to (declare_pair key name) scope = name ∷ key ∷ scope
declared_to b scope = scope

-- the scope of the else part of a control: the variables of a range are not there
abbrev pub else_scope : Control → Binding → List Name → List Name
else_scope Range b scope = scope
else_scope c b scope = declared_to b scope

-- whether the body of a control is in the body of a range: that of a range is, and any other where the control is
abbrev pub is_looped : Control → Bool → Bool
is_looped Range loop = true
is_looped c loop = loop

-- the scope after a node: a variable of an action lasts to the end of the nodes among which it stands, and those of a
-- control to its end
abbrev pub scope_after : NodeKind → List Name → List Name
scope_after (action h) scope = declared_to h.binding scope
scope_after n scope = scope

abbrev mutual
  -- a node where these names are in scope, in the body of a range or in none, with this many levels around it
  pub is_formed : NodeKind → List Name → Bool → ℕ → Bool
  is_formed (text bytes) scope loop levels = true
  is_formed (action h) scope loop levels = are_among scope (names_of h).uses
  is_formed (control_node c h body other) scope loop levels =
      are_among scope (names_of h).uses && nat_lt levels most_levels
      && are_formed body (declared_to h.binding scope) (is_looped c loop) (levels + 1)
      && are_formed other (else_scope c h.binding scope) loop (levels + 1)
  is_formed break_node scope loop levels = loop
  is_formed continue_node scope loop levels = loop
  is_formed (template_node name given) scope loop levels = are_among scope (names_given given).uses

  -- nodes one after the other
  pub are_formed : Nodes → List Name → Bool → ℕ → Bool
  are_formed tree.none scope loop levels = true
  are_formed (tree.then line n ns) scope loop levels =
      is_formed n scope loop levels && are_formed ns (scope_after n scope) loop levels

-- the nodes of a template: at its start no name is in scope but `$`, and nothing is around it
abbrev pub IsFormed : Nodes → Type 0
IsFormed ns = are_formed ns [] false 0 ≡ true

-- .. of each of these definitions
abbrev pub AreFormed : List Definition → Type 0
AreFormed [] = Unit {0}
AreFormed (d ∷ ds) = IsFormed d.nodes × AreFormed ds
