-- The law of what never comes in code of a formed tree: a variable without a slot, and a break out of a template.
use Rattle.std.specs.Prelude.{◌≡◌, Bool, true, false, ◌&&◌, List, [], ◌∷◌, None, is_some}
use Rattle.std.specs.List.{list_all}
use Rattle.tmpl_grammar.specs.Tree.{Binding}
use Rattle.tmpl_grammar.specs.declared.tree.Control.{Control}
use Rattle.tmpl_grammar.specs.declared.tree.Control.TheVariants as control
use Rattle.tmpl_syntax.specs.Tree as tree
use Rattle.tmpl_syntax.specs.Tree.{NodeKind, text, action, control_node, break_node, continue_node, template_node}
use Rattle.tmpl_syntax.specs.Tree.{Nodes}
use Rattle.tmpl_syntax.specs.Place.Role.{Name, names_of, names_given}
use Rattle.tmpl_syntax.specs.Formed.{IsFormed, is_looped}
use Rattle.tmpl_code.specs.Layout.{Layout, slot_named, bound_on, after_node, first_layout}

-- each of these names has a slot in this layout
abbrev pub have_each : List Name → Layout → Bool
have_each names cells = list_all (λ name. is_some (slot_named name cells)) names

-- .. and so has `$`
abbrev pub have_slots : List Name → Layout → Bool
have_slots names cells = is_some (slot_named [] cells) && have_each names cells

-- the layout of the body of a control, as `ControlAt` has it, and that of its other part
abbrev pub body_layout : Control → Binding → Layout → Layout
body_layout control.If b cells = bound_on b cells
body_layout control.With b cells = None ∷ bound_on b cells
body_layout control.Range b cells = bound_on b (None ∷ None ∷ cells)

abbrev pub other_layout : Control → Binding → Layout → Layout
other_layout control.Range b cells = cells
other_layout c b cells = bound_on b cells

abbrev mutual
  -- along a tree with the layouts of `NodeAt`, in the body of a range or in none: each name that is used or assigned
  -- has a slot, and each `break` and `continue` a range to go out of
  pub is_placed : NodeKind → Layout → Bool → Bool
  is_placed (text bytes) cells loop = true
  is_placed (action h) cells loop = have_slots (names_of h).uses cells
  is_placed (control_node c h body other) cells loop =
      have_slots (names_of h).uses cells
      && are_placed body (body_layout c h.binding cells) (is_looped c loop)
      && are_placed other (other_layout c h.binding cells) loop
  is_placed break_node cells loop = loop
  is_placed continue_node cells loop = loop
  is_placed (template_node name given) cells loop = have_slots (names_given given).uses cells

  pub are_placed : Nodes → Layout → Bool → Bool
  are_placed tree.none cells loop = true
  are_placed (tree.then line n ns) cells loop = is_placed n cells loop && are_placed ns (after_node n cells) loop

-- the code of a formed tree, which starts with the layout of a template and in no range, comes neither to
-- `VariableAt`, `SetAt` or `SetDotAt` of no slot nor to `BreakAt` or `ContinueAt` of no range
abbrev pub PlacesFormed : Type 0
PlacesFormed = (ns : Nodes) → IsFormed ns → are_placed ns first_layout false ≡ true
