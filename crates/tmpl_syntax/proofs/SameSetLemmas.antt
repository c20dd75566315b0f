-- For the law `set_accepted`: what comes of a set's templates where they are added to none, one by one, and of a blank one after them.
use Rattle.std.proofs.Common.{◌≡◌, ◌∙◌, ℕ, Bool, true, false, ◌&&◌, List, [], ◌∷◌, ◌++◌, Option, Some, None}
use Rattle.std.proofs.Common.{refl, subst, codes, sym, ap, map, cond, if◌then◌else◌}
use Rattle.std.specs.Prelude.{MatchOption, find}
use Rattle.std.specs.List.{flat_map, list_all}
use Rattle.tmpl_lex.specs.Bytes.{is_space}
use Rattle.std.specs.Option.{option_map}
use Rattle.std.specs.Str.{bytes_eq}
use Rattle.tmpl_syntax.specs.Tree as tree
use Rattle.tmpl_syntax.specs.Tree.{text, control_node, NodeKind, Nodes, Tree}
use Rattle.tmpl_grammar.specs.Action.{define_action, end_action, opening, plain_else}
use Rattle.tmpl_syntax.specs.Kept.{HaveOwnNames}
use Rattle.tmpl_syntax.specs.Set.{Template, tree_named, is_blank, add_definition, defined_each}
use Rattle.tmpl_syntax.specs.computed.Set.{has_name, choose}
use Rattle.tmpl_syntax.specs.Print.Printed.{Said, file_of, node_said, nodes_said, said, said_text, template_said, unlined, unlined_node}
use Rattle.tmpl_syntax.specs.Print.Laws.{PrintsAlike, Unlined, newline_nodes, unlined_template}
use Rattle.tmpl_syntax.proofs.SetInvariantLemmas.{same-both}

-- ---- names

pub not-first : (name : List ℕ) (t : Template) (ts : List Template) → tree_named name (t ∷ ts) ≡ None
    → (bytes_eq name t.0 ≡ false) × (tree_named name ts ≡ None)
not-first name t ts = by (bytes_eq name t.0)
  where
    by : (b : Bool) → option_map (λ (u : Template). u.1) (cond b (Some t) (find (has_name name) ts)) ≡ None → (b ≡ false) × (tree_named name ts ≡ None)
    by true e = cc
    by false e = (refl, e)

abbrev AlikeSets : List Template → List Template → Type 0
AlikeSets us ts = map unlined_template us ≡ map unlined_template ts

-- ---- one by one

module _ (t : Template) where
  -- a template stays first where no later one has its name
  stays-first : (us set : List Template) → tree_named t.0 us ≡ None → defined_each (t ∷ set) us ≡ t ∷ defined_each set us
  stays-first [] set none = refl
  stays-first (u ∷ us) set none =
      let apart = not-first t.0 u us none in
      ap (λ b. defined_each (if b then (t.0, choose t.1 u.1) ∷ set else t ∷ add_definition set u.0 u.1) us) (same-both t.0 u.0 apart.0)
      ∙ stays-first us (add_definition set u.0 u.1) apart.1

pub each-stays : (us : List Template) → HaveOwnNames us → defined_each [] us ≡ us
each-stays [] h = refl
each-stays (u ∷ us) h = stays-first u us [] h.0 ∙ ap (λ vs. u ∷ vs) (each-stays us h.1)

-- ---- alike sets

heads : (t u : Template) (ts us : List Template) → AlikeSets (u ∷ us) (t ∷ ts) → (unlined_template u ≡ unlined_template t) × AlikeSets us ts
heads t u ts us e = (cc, cc)

named-alike : (name : List ℕ) (ts us : List Template) → AlikeSets us ts → tree_named name ts ≡ None → tree_named name us ≡ None
named-alike name [] [] e none = refl
named-alike name [] (u ∷ us) e none = cc
named-alike name (t ∷ ts) [] e none = cc
named-alike name (t ∷ ts) (u ∷ us) e none =
    let apart = not-first name t ts none in
    let parts = heads t u ts us e in
    ap (λ (v : Unlined). option_map (λ (u : Template). u.1) (cond (bytes_eq name v.0) (Some u) (find (has_name name) us))) parts.0
    ∙ ap (λ b. option_map (λ (u : Template). u.1) (cond b (Some u) (find (has_name name) us))) apart.0
    ∙ named-alike name ts us parts.1 apart.1

pub own-alike : (ts us : List Template) → AlikeSets us ts → HaveOwnNames ts → HaveOwnNames us
own-alike [] [] e h = tt
own-alike [] (u ∷ us) e h = cc
own-alike (t ∷ ts) [] e h = cc
own-alike (t ∷ ts) (u ∷ us) e h =
    let parts = heads t u ts us e in
    (ap (λ (v : Unlined). tree_named v.0 us) parts.0 ∙ named-alike t.0 ts us parts.1 h.0, own-alike ts us parts.1 h.1)

-- what one of them has under a name the other has too
pub found-alike : (name : List ℕ) (ts us : List Template) (t : Tree) → AlikeSets us ts → tree_named name ts ≡ Some t
    → (u : Tree) × (tree_named name us ≡ Some u) × (unlined u.nodes ≡ unlined t.nodes)
found-alike name [] us t e found = cc
found-alike name (v ∷ ts) [] t e found = cc
found-alike name (v ∷ ts) (w ∷ us) t e found =
    by (bytes_eq name v.0) (ap (λ (x : Unlined). bytes_eq name x.0) parts.0) (found-alike name ts us t parts.1) found
  where
    parts : (unlined_template w ≡ unlined_template v) × AlikeSets us ts
    parts = heads v w ts us e

    Found : Option Tree → Type 0
    Found o = (u : Tree) × (o ≡ Some u) × (unlined u.nodes ≡ unlined t.nodes)

    by : (b : Bool) → bytes_eq name w.0 ≡ b → (tree_named name ts ≡ Some t → Found (tree_named name us))
        → option_map (λ (x : Template). x.1) (cond b (Some v) (find (has_name name) ts)) ≡ Some t → Found (tree_named name (w ∷ us))
    by true is more found =
        let same : v.1 ≡ t = cc in (
          w.1,
          ap (λ b. option_map (λ (x : Template). x.1) (cond b (Some w) (find (has_name name) us))) is,
          ap (λ (x : Unlined). x.1) parts.0 ∙ ap (λ (x : Tree). unlined x.nodes) same,
        )
    by false is more found =
        subst Found (sym (ap (λ b. option_map (λ (x : Template). x.1) (cond b (Some w) (find (has_name name) us))) is)) (more found)

-- ---- what is printed of them

mutual
  node-said-alike : (n : NodeKind) → node_said (unlined_node n) ≡ node_said n
  node-said-alike (control_node c h body tree.none) = λ i. said (opening c h) ∷ (nodes-said-alike body i ++ said end_action ∷ [])
  node-said-alike (control_node c h body (tree.then line m ms)) = λ i.
      said (opening c h) ∷ (nodes-said-alike body i ++ said plain_else ∷ ((node-said-alike m i ++ nodes-said-alike ms i) ++ said end_action ∷ []))
  node-said-alike _ = refl

  nodes-said-alike : (ns : Nodes) → nodes_said (unlined ns) ≡ nodes_said ns
  nodes-said-alike tree.none = refl
  nodes-said-alike (tree.then line n ns) = λ i. node-said-alike n i ++ nodes-said-alike ns i

abbrev template_of_said : List ℕ → List Said → List Said
template_of_said name ss = said (define_action name) ∷ (ss ++ said end_action ∷ said_text (codes "\n") ∷ [])

said-alike : (t : Template) → template_of_said t.0 (nodes_said (unlined t.1.nodes)) ≡ template_said t
said-alike t = ap (template_of_said t.0) (nodes-said-alike t.1.nodes)

set-said-alike : (ts us : List Template) → AlikeSets us ts → flat_map template_said us ≡ flat_map template_said ts
set-said-alike [] [] e = refl
set-said-alike [] (u ∷ us) e = cc
set-said-alike (t ∷ ts) [] e = cc
set-said-alike (t ∷ ts) (u ∷ us) e =
    let parts = heads t u ts us e in
    let first : template_said u ≡ template_said t = sym (said-alike u) ∙ ap (λ (v : Unlined). template_of_said v.0 (nodes_said v.1)) parts.0 ∙ said-alike t in
    λ i. first i ++ set-said-alike ts us parts.1 i

pub prints_alike : PrintsAlike
prints_alike ts us e = ap (file_of None) (set-said-alike ts us e)

-- ---- a blank one

pub blank-unlined : (ns : Nodes) → is_blank (unlined ns) ≡ is_blank ns
blank-unlined tree.none = refl
blank-unlined (tree.then line (text bytes) ns) = ap (λ b. list_all is_space bytes && b) (blank-unlined ns)
blank-unlined (tree.then line _ ns) = refl

newlines-blank : (ts : List Template) → is_blank (newline_nodes ts) ≡ true
newlines-blank [] = refl
newlines-blank (t ∷ ts) = newlines-blank ts

pub blank-own : (ts : List Template) (own : Nodes) → unlined own ≡ newline_nodes ts → is_blank own ≡ true
blank-own ts own e = sym (blank-unlined own) ∙ ap is_blank e ∙ newlines-blank ts

-- a blank template is last, or none where its name is there
module _ (name : List ℕ) (new : Tree) (blank : is_blank new.nodes ≡ true) where
  abbrev Same : Option Tree → List Template → List Template → Type 0
  Same found ts us =
      MatchOption found (map unlined_template (add_definition us name new) ≡ map unlined_template ts ++ (name, unlined new.nodes) ∷ [])
      (λ t. map unlined_template (add_definition us name new) ≡ map unlined_template ts)

  pub same-set : (ts us : List Template) → AlikeSets us ts → Same (tree_named name ts) ts us
  same-set [] [] e = refl
  same-set [] (u ∷ us) e = cc
  same-set (t ∷ ts) [] e = cc
  same-set (t ∷ ts) (u ∷ us) e = by (bytes_eq name t.0) (ap (λ (v : Unlined). bytes_eq name v.0) (heads t u ts us e).0) (same-set ts us (heads t u ts us e).1)
    where
      added : Bool → List Template
      added b = if b then (u.0, choose u.1 new) ∷ us else u ∷ add_definition us name new

      kept : (b : Bool) → bytes_eq name u.0 ≡ b → map unlined_template (add_definition (u ∷ us) name new) ≡ map unlined_template (added b)
      kept b is = ap (λ b. map unlined_template (added b)) is

      later : bytes_eq name u.0 ≡ false → (found : Option Tree) → Same found ts us
          → MatchOption found
          (map unlined_template (add_definition (u ∷ us) name new) ≡ unlined_template t ∷ (map unlined_template ts ++ (name, unlined new.nodes) ∷ []))
          (λ o. map unlined_template (add_definition (u ∷ us) name new) ≡ unlined_template t ∷ map unlined_template ts)
      later is None more = kept false is ∙ (λ i. (heads t u ts us e).0 i ∷ more i)
      later is (Some o) more = kept false is ∙ (λ i. (heads t u ts us e).0 i ∷ more i)

      by : (b : Bool) → bytes_eq name u.0 ≡ b → Same (tree_named name ts) ts us
          → Same (option_map (λ (t : Template). t.1) (cond b (Some t) (find (has_name name) ts))) (t ∷ ts) (u ∷ us)
      by true is more = kept true is ∙ ap (λ b. map unlined_template ((u.0, if b then u.1 else new) ∷ us)) blank ∙ e
      by false is more = later is (tree_named name ts) more
