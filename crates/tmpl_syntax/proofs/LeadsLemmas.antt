-- For the lemmas of what items spell: the first items of a list spell nodes, and what is left after them.
use Rattle.std.proofs.Common.{◌≡◌, ◌∙◌, ℕ, List, [], ◌∷◌, ◌++◌, Some, refl, sym, ap, subst, append_assoc, append-nil}
use Rattle.tmpl_grammar.specs.Tree.{Pipeline, Header}
use Rattle.tmpl_grammar.specs.Action.{opening, plain_else, else_branch, end_action}
use Rattle.tmpl_grammar.specs.Action.{define_action, block_action, control_in}
use Rattle.tmpl_grammar.specs.declared.tree.Control.{Control}
use Rattle.tmpl_grammar.specs.declared.action.Branch.{Branch}
use Rattle.tmpl_syntax.specs.Tree.{NodeKind, Nodes, none, then, control_node}
use Rattle.tmpl_syntax.specs.Tree.{template_node, Definition}
use Rattle.tmpl_syntax.specs.Item.{ItemKind, Item, item, action_item}
use Rattle.tmpl_syntax.specs.Spelling as spells
use Rattle.tmpl_syntax.specs.Spelling.{definition, IsNode, Spells, SpellsBody, SpellsElse}

mutual
  -- the first items spell these nodes, and those last are left; of the definitions from the first item on those last
  -- are left as well
  pub data Leads : List Item → List Definition → Nodes → List Item → List Definition → Type 0 where
    nothing : {xs : List Item} {ds : List Definition} → Leads xs ds none xs ds
    a_node : {line : ℕ} {what : ItemKind} {n : NodeKind} {xs ys : List Item} {ds es : List Definition} {ns : Nodes}
        → IsNode what n → Leads xs ds ns ys es → Leads (item line what ∷ xs) ds (then line n ns) ys es
    a_control : {line : ℕ} {c : Control} {h : Header} {xs ys zs ws : List Item} {ds es fs gs : List Definition}
        {body other ns : Nodes}
        → Leads xs ds body ys es → Closes ys es other zs fs → Leads zs fs ns ws gs
        → Leads (item line (action_item (opening c h)) ∷ xs) ds (then line (control_node c h body other) ns) ws gs
    a_define : {line last : ℕ} {name : List ℕ} {xs ys zs : List Item} {ds es fs : List Definition} {body ns : Nodes}
        → Leads xs ds body (item last (action_item end_action) ∷ ys) es → Leads ys es ns zs fs
        → Leads (item line (action_item (define_action name)) ∷ xs) (definition line name body ∷ ds) ns zs fs
    a_block : {line last : ℕ} {name : List ℕ} {p : Pipeline} {xs ys zs : List Item} {ds es fs : List Definition}
        {body ns : Nodes}
        → Leads xs ds body (item last (action_item end_action) ∷ ys) es → Leads ys es ns zs fs
        → Leads (item line (action_item (block_action name p)) ∷ xs) (definition line name body ∷ ds)
        (then line (template_node name (Some p)) ns) zs fs

  -- what stands after the body of a control, to its `end`, spells the nodes of its else part
  pub data Closes : List Item → List Definition → Nodes → List Item → List Definition → Type 0 where
    an_end : {line : ℕ} {xs : List Item} {ds : List Definition}
        → Closes (item line (action_item end_action) ∷ xs) ds none xs ds
    an_else : {line last : ℕ} {xs ys : List Item} {ds es : List Definition} {other : Nodes}
        → Leads xs ds other (item last (action_item end_action) ∷ ys) es
        → Closes (item line (action_item plain_else) ∷ xs) ds other ys es
    an_else_branch : {line : ℕ} {branch : Branch} {h : Header} {xs ys zs : List Item} {ds es fs : List Definition}
        {body other : Nodes}
        → Leads xs ds body ys es → Closes ys es other zs fs
        → Closes (item line (action_item (else_branch branch h)) ∷ xs) ds
        (then line (control_node (control_in branch) h body other) none) zs fs

-- ---- from what is spelled

mutual
  leads : {xs : List Item} {ds : List Definition} {ns : Nodes} → Spells xs ds ns → (ys : List Item) (es : List Definition)
      → Leads (xs ++ ys) (ds ++ es) ns ys es
  leads spells.nothing ys es = nothing
  leads (spells.a_node is l) ys es = a_node is (leads l ys es)
  leads (spells.a_control {xs = xs} {ys = us} {zs = zs} {ds = ds} {es = gs} {fs = fs} b o l) ys es =
      rw (append_assoc xs (us ++ zs) ys, append_assoc us zs ys, append_assoc ds (gs ++ fs) es, append_assoc gs fs es)
      (a_control (leads b (us ++ (zs ++ ys)) (gs ++ (fs ++ es))) (closes o (zs ++ ys) (fs ++ es)) (leads l ys es))
  leads (spells.a_define {xs = xs} {ys = us} {ds = ds} {es = gs} b l) ys es =
      let body = ends b (us ++ ys) (gs ++ es) in
      rw (append_assoc xs us ys, append_assoc ds gs es) (a_define {last = body.0} body.1 (leads l ys es))
  leads (spells.a_block {xs = xs} {ys = us} {ds = ds} {es = gs} b l) ys es =
      let body = ends b (us ++ ys) (gs ++ es) in
      rw (append_assoc xs us ys, append_assoc ds gs es) (a_block {last = body.0} body.1 (leads l ys es))

  ends : {xs : List Item} {ds : List Definition} {ns : Nodes} → SpellsBody xs ds ns → (ys : List Item) (es : List Definition)
      → (line : ℕ) × Leads (xs ++ ys) (ds ++ es) ns (item line (action_item end_action) ∷ ys) es
  ends (spells.ended {xs = xs} line l) ys es =
      (line, rw (append_assoc xs (item line (action_item end_action) ∷ []) ys) (leads l (item line (action_item end_action) ∷ ys) es))

  closes : {xs : List Item} {ds : List Definition} {other : Nodes} → SpellsElse xs ds other → (ys : List Item) (es : List Definition)
      → Closes (xs ++ ys) (ds ++ es) other ys es
  closes spells.an_end ys es = an_end
  closes (spells.an_else b) ys es = let body = ends b ys es in an_else {last = body.0} body.1
  closes (spells.an_else_branch {xs = xs} {ys = us} {ds = ds} {es = gs} b o) ys es =
      rw (append_assoc xs us ys, append_assoc ds gs es) (an_else_branch (leads b (us ++ ys) (gs ++ es)) (closes o ys es))

pub led : {xs : List Item} {ds : List Definition} {ns : Nodes} → Spells xs ds ns → Leads xs ds ns [] []
led {xs = xs} {ds = ds} {ns = ns} s =
    subst (λ ys. Leads ys ds ns [] []) (append-nil xs) (subst (λ es. Leads (xs ++ []) es ns [] []) (append-nil ds) (leads s [] []))

-- ---- .. and to it

-- the items and definitions before those that are left
record Front (Spell : List Item → List Definition → Type 0) (xs : List Item) (ds : List Definition) (ys : List Item) (es : List Definition) : Type 0 where
  items : List Item
  definitions : List Definition
  items_are : xs ≡ items ++ ys
  definitions_are : ds ≡ definitions ++ es
  spell : Spell items definitions

joined : {X : Type 0} {xs ys : List X} (zs a b : List X) → xs ≡ a ++ ys → ys ≡ b ++ zs → xs ≡ (a ++ b) ++ zs
joined zs a b e g = e ∙ ap (λ t. a ++ t) g ∙ sym (append_assoc a b zs)

body-front : {xs ys : List Item} {ds es : List Definition} {ns : Nodes} (line : ℕ)
    → Front (λ items definitions. Spells items definitions ns) xs ds (item line (action_item end_action) ∷ ys) es
    → Front (λ items definitions. SpellsBody items definitions ns) xs ds ys es
body-front line f = record {
  items = f.items ++ item line (action_item end_action) ∷ [];
  definitions = f.definitions;
  items_are = joined _ f.items (item line (action_item end_action) ∷ []) f.items_are refl;
  definitions_are = f.definitions_are;
  spell = spells.ended line f.spell;
}

mutual
  fronts : {xs ys : List Item} {ds es : List Definition} {ns : Nodes} → Leads xs ds ns ys es → Front (λ items definitions. Spells items definitions ns) xs ds ys es
  fronts nothing = record { items = []; definitions = []; items_are = refl; definitions_are = refl; spell = spells.nothing }
  fronts (a_node {line = line} {what = what} is l) =
      let f = fronts l in
      record {
        items = item line what ∷ f.items;
        definitions = f.definitions;
        items_are = ap (λ t. item line what ∷ t) f.items_are;
        definitions_are = f.definitions_are;
        spell = spells.a_node is f.spell;
      }
  fronts (a_control {line = line} {c = c} {h = h} b o l) =
      let f = fronts b in
      let g = else-fronts o in
      let k = fronts l in
      record {
        items = item line (action_item (opening c h)) ∷ (f.items ++ (g.items ++ k.items));
        definitions = f.definitions ++ (g.definitions ++ k.definitions);
        items_are = ap (λ t. item line (action_item (opening c h)) ∷ t) (joined _ f.items (g.items ++ k.items) f.items_are (joined _ g.items k.items g.items_are k.items_are));
        definitions_are = joined _ f.definitions (g.definitions ++ k.definitions) f.definitions_are (joined _ g.definitions k.definitions g.definitions_are k.definitions_are);
        spell = spells.a_control f.spell g.spell k.spell;
      }
  fronts (a_define {line = line} {last = last} {name = name} {body = body} b l) =
      let f = body-front last (fronts b) in
      let k = fronts l in
      record {
        items = item line (action_item (define_action name)) ∷ (f.items ++ k.items);
        definitions = definition line name body ∷ (f.definitions ++ k.definitions);
        items_are = ap (λ t. item line (action_item (define_action name)) ∷ t) (joined _ f.items k.items f.items_are k.items_are);
        definitions_are = ap (λ t. definition line name body ∷ t) (joined _ f.definitions k.definitions f.definitions_are k.definitions_are);
        spell = spells.a_define f.spell k.spell;
      }
  fronts (a_block {line = line} {last = last} {name = name} {p = p} {body = body} b l) =
      let f = body-front last (fronts b) in
      let k = fronts l in
      record {
        items = item line (action_item (block_action name p)) ∷ (f.items ++ k.items);
        definitions = definition line name body ∷ (f.definitions ++ k.definitions);
        items_are = ap (λ t. item line (action_item (block_action name p)) ∷ t) (joined _ f.items k.items f.items_are k.items_are);
        definitions_are = ap (λ t. definition line name body ∷ t) (joined _ f.definitions k.definitions f.definitions_are k.definitions_are);
        spell = spells.a_block f.spell k.spell;
      }

  else-fronts : {xs ys : List Item} {ds es : List Definition} {other : Nodes} → Closes xs ds other ys es
      → Front (λ items definitions. SpellsElse items definitions other) xs ds ys es
  else-fronts (an_end {line = line}) =
      record { items = item line (action_item end_action) ∷ []; definitions = []; items_are = refl; definitions_are = refl; spell = spells.an_end }
  else-fronts (an_else {line = line} {last = last} l) =
      let f = body-front last (fronts l) in
      record {
        items = item line (action_item plain_else) ∷ f.items;
        definitions = f.definitions;
        items_are = ap (λ t. item line (action_item plain_else) ∷ t) f.items_are;
        definitions_are = f.definitions_are;
        spell = spells.an_else f.spell;
      }
  else-fronts (an_else_branch {line = line} {branch = branch} {h = h} b o) =
      let f = fronts b in
      let g = else-fronts o in
      record {
        items = item line (action_item (else_branch branch h)) ∷ (f.items ++ g.items);
        definitions = f.definitions ++ g.definitions;
        items_are = ap (λ t. item line (action_item (else_branch branch h)) ∷ t) (joined _ f.items g.items f.items_are g.items_are);
        definitions_are = joined _ f.definitions g.definitions f.definitions_are g.definitions_are;
        spell = spells.an_else_branch f.spell g.spell;
      }

pub spelled : {xs : List Item} {ds : List Definition} {ns : Nodes} → Leads xs ds ns [] [] → Spells xs ds ns
spelled {xs = xs} {ds = ds} {ns = ns} l =
    let f = fronts l in
    subst (λ ys. Spells ys ds ns) (sym (f.items_are ∙ append-nil f.items))
    (subst (λ es. Spells f.items es ns) (sym (f.definitions_are ∙ append-nil f.definitions)) f.spell)
