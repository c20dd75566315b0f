-- What the cells of a template's frame are at a place of its tree, and where among them a variable is.
use Rattle.std.specs.Prelude.{ℕ, suc, ◌+◌, Bool, true, false, List, [], ◌∷◌, Option, Some, None, option_map}
use Rattle.std.specs.Str.{bytes_eq}
use Rattle.tmpl_grammar.specs.Tree.{Binding, unbound, declare, assign, declare_pair}
use Rattle.tmpl_syntax.specs.Tree as tree
use Rattle.tmpl_syntax.specs.Tree.{NodeKind, action}
use Rattle.tmpl_syntax.specs.Tree.{Nodes}
use Rattle.tmpl_syntax.specs.Need.{left_after}

-- the newest first: a variable of a name, or what a control or a call saves
abbrev pub Layout : Type 0
Layout = List (Option (List ℕ))

abbrev pub is_named : List ℕ → Option (List ℕ) → Bool
is_named name None = false
is_named name (Some x) = bytes_eq x name

abbrev pub found_at : Bool → Option ℕ → Option ℕ
found_at true deeper = Some 0
found_at false deeper = option_map (λ slot. suc slot) deeper

-- the slot of the newest variable of a name
abbrev pub slot_named : List ℕ → Layout → Option ℕ
slot_named name [] = None
slot_named name (cell ∷ cells) = found_at (is_named name cell) (slot_named name cells)

-- after what binds variables: those that it declares are the newest, an element above its index or key
abbrev pub bound_on : Binding → Layout → Layout
bound_on unbound cells = cells
bound_on (declare name) cells = Some name ∷ cells
bound_on (assign name) cells = cells
bound_on (declare_pair key name) cells = Some name ∷ Some key ∷ cells

-- whether variables are declared
abbrev pub declares : Binding → Bool
declares unbound = false
declares (declare name) = true
declares (assign name) = false
declares (declare_pair key name) = true

-- .. and one for an index or key
abbrev pub declares_key : Binding → Bool
declares_key (declare_pair key name) = true
declares_key b = false

-- after a node, which leaves the variables that an action declares
abbrev pub after_node : NodeKind → Layout → Layout
after_node (action h) cells = bound_on h.binding cells
after_node n cells = cells

-- how many variables nodes leave
abbrev pub declared_in : Nodes → ℕ
declared_in tree.none = 0
declared_in (tree.then line n ns) = left_after n + declared_in ns

-- that of a template at its start: `$`, which is a variable of the empty name, above two cells for where its caller
-- goes on and for the dot of the caller
abbrev pub first_layout : Layout
first_layout = Some [] ∷ None ∷ None ∷ []
