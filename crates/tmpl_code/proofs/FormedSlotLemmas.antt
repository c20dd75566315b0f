-- For the law `formed_slots`: where a tree is formed, each name in scope has a slot.
use Rattle.std.proofs.Common.{◌≡◌, ◌∙◌, ◌+◌, ◌||◌, ℕ, Bool, true, false, List, [], ◌∷◌, Option, Some, None, refl, ap}
use Rattle.std.specs.Option.{is_some}
use Rattle.std.specs.Str.{bytes_eq}
use Rattle.std.specs.Cmp.Lexicographic.{nat_list_eq_equiv}
use Rattle.std.specs.Cmp.Derive.{both_true}
use Rattle.std.proofs.lemmas.Bool.{false≢true, and_parts}
use Rattle.tmpl_grammar.specs.Tree.{Binding, unbound, declare, assign, declare_pair}
use Rattle.tmpl_grammar.specs.declared.tree.Control.{Control}
use Rattle.tmpl_grammar.specs.declared.tree.Control.TheVariants as control
use Rattle.tmpl_syntax.specs.Tree as tree
use Rattle.tmpl_syntax.specs.Tree.{NodeKind, Nodes, text, action, control_node, template_node}
use Rattle.tmpl_syntax.specs.Place.Role.{Name, names_of, names_given}
use Rattle.tmpl_syntax.specs.Formed.{is_among, are_among, declared_to, else_scope, is_looped, scope_after, is_formed, are_formed}
use Rattle.tmpl_syntax.proofs.FormedLemmas.{control-formed}
use Rattle.tmpl_code.specs.Layout.{Layout, is_named, found_at, slot_named, bound_on, after_node, first_layout}
use Rattle.tmpl_code.specs.Laws.{have_each, have_slots, body_layout, other_layout, is_placed, are_placed, PlacesFormed}

abbrev HasSlot : Name → Layout → Type 0
HasSlot name cells = is_some (slot_named name cells) ≡ true

-- each name in scope has a slot, and so has `$`
abbrev HaveSlots : List Name → Layout → Type 0
HaveSlots scope cells = HasSlot [] cells × ((name : Name) → is_among scope name ≡ true → HasSlot name cells)

found-deeper : (b : Bool) (o : Option ℕ) → is_some o ≡ true → is_some (found_at b o) ≡ true
found-deeper true o e = refl
found-deeper false (Some slot) e = refl
found-deeper false None e = absurd (false≢true e)

-- a cell more
deeper : (cell : Option (List ℕ)) (scope : List Name) (cells : Layout) → HaveSlots scope cells → HaveSlots scope (cell ∷ cells)
deeper cell scope cells h =
    (found-deeper (is_named [] cell) (slot_named [] cells) h.0, λ name e. found-deeper (is_named name cell) (slot_named name cells) (h.1 name e))

-- a variable more
named : (x : Name) (scope : List Name) (cells : Layout) → HaveSlots scope cells → HaveSlots (x ∷ scope) (Some x ∷ cells)
named x scope cells h = (
  found-deeper (bytes_eq x []) (slot_named [] cells) h.0,
  λ name e. go name (bytes_eq x name) (ap (λ b. b || is_among scope name) (nat_list_eq_equiv.symm x name) ∙ e),
)
  where
    go : (name : Name) (b : Bool) → (b || is_among scope name) ≡ true → is_some (found_at b (slot_named name cells)) ≡ true
    go name true e = refl
    go name false e = found-deeper false (slot_named name cells) (h.1 name e)

bound-slots : (b : Binding) (scope : List Name) (cells : Layout) → HaveSlots scope cells → HaveSlots (declared_to b scope) (bound_on b cells)
bound-slots unbound scope cells h = h
bound-slots (declare name) scope cells h = named name scope cells h
bound-slots (assign name) scope cells h = h
bound-slots (declare_pair key name) scope cells h = named name (key ∷ scope) (Some key ∷ cells) (named key scope cells h)

body-slots : (c : Control) (b : Binding) (scope : List Name) (cells : Layout) → HaveSlots scope cells
    → HaveSlots (declared_to b scope) (body_layout c b cells)
body-slots control.If b scope cells h = bound-slots b scope cells h
body-slots control.With b scope cells h = deeper None (declared_to b scope) (bound_on b cells) (bound-slots b scope cells h)
body-slots control.Range b scope cells h =
    bound-slots b scope (None ∷ None ∷ cells) (deeper None scope (None ∷ cells) (deeper None scope cells h))

other-slots : (c : Control) (b : Binding) (scope : List Name) (cells : Layout) → HaveSlots scope cells
    → HaveSlots (else_scope c b scope) (other_layout c b cells)
other-slots control.Range b scope cells h = h
other-slots _ b scope cells h = bound-slots b scope cells h

after_node-slots : (n : NodeKind) (scope : List Name) (cells : Layout) → HaveSlots scope cells → HaveSlots (scope_after n scope) (after_node n cells)
after_node-slots (action h) scope cells k = bound-slots h.binding scope cells k
after_node-slots _ scope cells k = k

all-slots : (names : List Name) (scope : List Name) (cells : Layout) → HaveSlots scope cells → are_among scope names ≡ true → have_slots names cells ≡ true
all-slots names scope cells h e = both_true h.0 (go names e)
  where
    go : (names : List Name) → are_among scope names ≡ true → have_each names cells ≡ true
    go [] e = refl
    go (x ∷ xs) e = let p = and_parts (is_among scope x) (are_among scope xs) e in both_true (h.1 x p.0) (go xs p.1)

mutual
  node-placed : (n : NodeKind) (scope : List Name) (cells : Layout) (loop : Bool) (levels : ℕ) → HaveSlots scope cells
      → is_formed n scope loop levels ≡ true → is_placed n cells loop ≡ true
  node-placed (text bytes) scope cells loop levels h e = refl
  node-placed (action a) scope cells loop levels h e = all-slots (names_of a).uses scope cells h e
  node-placed (control_node c a body other) scope cells loop levels h e =
      let parts = control-formed c a body other scope loop levels e in
      let inside = body-slots c a.binding scope cells h in
      both_true (both_true (all-slots (names_of a).uses scope cells h parts.uses)
      (nodes-placed body (declared_to a.binding scope) (body_layout c a.binding cells) (is_looped c loop) (levels + 1) inside parts.in_body))
      (nodes-placed other (else_scope c a.binding scope) (other_layout c a.binding cells) loop (levels + 1) (other-slots c a.binding scope cells h)
      parts.in_other)
  node-placed (template_node name given) scope cells loop levels h e = all-slots (names_given given).uses scope cells h e
  node-placed _ scope cells loop levels h e = e

  nodes-placed : (ns : Nodes) (scope : List Name) (cells : Layout) (loop : Bool) (levels : ℕ) → HaveSlots scope cells
      → are_formed ns scope loop levels ≡ true → are_placed ns cells loop ≡ true
  nodes-placed tree.none scope cells loop levels h e = refl
  nodes-placed (tree.then line n ns) scope cells loop levels h e =
      let p = and_parts (is_formed n scope loop levels) (are_formed ns (scope_after n scope) loop levels) e in
      both_true (node-placed n scope cells loop levels h p.0)
      (nodes-placed ns (scope_after n scope) (after_node n cells) loop levels (after_node-slots n scope cells h) p.1)

pub places-formed : PlacesFormed
places-formed ns e = nodes-placed ns [] first_layout false 0 (refl, λ name f. absurd (false≢true f)) e

pub ruleset placed = (places-formed)
