-- For the law `set_accepted`: what is printed of a set is accepted, and what it then adds to no templates.
use Rattle.std.proofs.Common.{arith, ◌≡◌, ◌∙◌, ℕ, ◌||◌, true, List, [], ◌∷◌, ◌++◌, refl, sym, ap, subst, map, append_assoc, codes, None}
use Rattle.std.specs.List.{All, flat_map, fold}
use Rattle.std.proofs.Math.Bool.{or-true}
use Rattle.std.proofs.lemmas.List.Elements.{All-cons}
use Rattle.std.proofs.lemmas.List.Kept.{AllPairs-cons}
use Rattle.std.proofs.lemmas.Slice.Eq.{bytes_eq-Decides}
use Rattle.tmpl_grammar.specs.Action.{end_action}
use Rattle.tmpl_syntax.specs.Tree.{Nodes, Tree, Definition}
use Rattle.tmpl_syntax.specs.Item.{Item}
use Rattle.tmpl_syntax.specs.Place.Opening as opened
use Rattle.tmpl_syntax.specs.Place.Role.{roles_of}
use Rattle.tmpl_syntax.specs.Place.Body.{IsFine}
use Rattle.tmpl_syntax.specs.Spelling.{definition}
use Rattle.tmpl_syntax.specs.Set.{Template, add_definition, defined_each, is_blank, tree_named}
use Rattle.tmpl_syntax.specs.Kept.{AreKept, HaveOwnNames}
use Rattle.tmpl_syntax.specs.Parse.{NoneSecond, base_name, template_in}
use Rattle.tmpl_syntax.specs.computed.Frames.{Judged, none_known, opened_names, verdict_of, enter_opening}
use Rattle.tmpl_syntax.specs.Place.Role.{names_given}
use Rattle.tmpl_syntax.specs.Print.Printed.{Said, said, said_text, nodes_said, template_said, unlined}
use Rattle.tmpl_syntax.specs.Print.Laws.{AcceptsPrinted, IsSameSet, Says, newline_nodes, unlined_definition, unlined_template}
use Rattle.tmpl_syntax.proofs.AcceptedLemmas.{nodes-passes, roles_said, says-roles}
use Rattle.tmpl_syntax.proofs.FormedLemmas.{fine-back, passes, passes-fine}
use Rattle.tmpl_syntax.proofs.SetInvariantLemmas.{kept-printable}
use Rattle.tmpl_syntax.proofs.PrintedLemmas.{has-said, set-is-said, set-leads}
use Rattle.tmpl_syntax.proofs.ReadingLemmas.{fold-add_definition}
use Rattle.tmpl_syntax.proofs.SameSetLemmas.{blank-own, each-stays, not-first, own-alike, same-set}
use Rattle.tmpl_syntax.proofs.VerdictLemmas.{judged-all}
use Rattle.std.proofs.lemmas.Bool.{false≢true}
use Rattle.std.proofs.lemmas.List.{map-append}
use Rattle.std.proofs.lemmas.List.Sums.{fold-append}
use Rattle.std.specs.Prelude.{MatchOption}

-- ---- places

-- each definition stands where nothing is open, and after it nothing is open again
set-passes : (ts : List Template) → AreKept ts → passes [] none_known (roles_said (flat_map template_said ts)) ≡ true
set-passes [] h = refl
set-passes (t ∷ ts) h =
    let more : List Said = said end_action ∷ said_text (codes "\n") ∷ flat_map template_said ts in
    let joined : (nodes_said t.1.nodes ++ said end_action ∷ said_text (codes "\n") ∷ []) ++ flat_map template_said ts ≡ nodes_said t.1.nodes ++ more =
    simp append_assoc in
    let f = enter_opening opened.define (names_given None) None [] in
    ap (λ ss. passes (f ∷ []) (opened_names opened.define [] none_known) (roles_said ss)) joined
    ∙ nodes-passes t.1.nodes (f ∷ []) (opened_names opened.define [] none_known) [] more (λ x. refl) h.1.formed (set-passes ts h.2)

pub said-fine : (ss : List Said) (xs : List Item) → Says ss xs → passes [] none_known (roles_said ss) ≡ true → IsFine (roles_of xs)
unfolding verdict_of
said-fine ss xs s passed =
    subst (Judged (roles_of xs)) (fine-back (verdict_of (roles_of xs))
    (passes-fine (roles_of xs) 0 [] none_known ∙ ap (passes [] none_known) (says-roles s) ∙ passed)) (judged-all (roles_of xs))

-- ---- names

abbrev OnePlace : Definition → Definition → Type 0
OnePlace c d = c.name ≡ d.name → (is_blank c.nodes || is_blank d.nodes) ≡ true

differ : (name : List ℕ) (d : Definition) (ds : List Definition) (file : List ℕ) → tree_named name (map (template_in file) (d ∷ ds)) ≡ None
    → (name ≡ d.name → ⊥) × (tree_named name (map (template_in file) ds) ≡ None)
differ name d ds file none =
    let apart = not-first name (template_in file d) (map (template_in file) ds) none in
    (λ e. absurd (false≢true (sym apart.0 ∙ (bytes_eq-Decides name d.name).1 e)), apart.1)

module _ (file : List ℕ) (own : Definition) (blank : is_blank own.nodes ≡ true) where
  -- no definition has the name of a later one, and the last one is blank
  once-after : (c : Definition) (ds : List Definition) → tree_named c.name (map (template_in file) ds) ≡ None → All (OnePlace c) (ds ++ own ∷ [])
  once-after c [] none =
      All-cons (OnePlace c) own [] (λ e. ap (λ b. is_blank c.nodes || b) blank ∙ or-true (is_blank c.nodes)) (λ k d lt. absurd (omega arith))
  once-after c (d ∷ ds) none =
      let apart = differ c.name d ds file none in
      All-cons (OnePlace c) d (ds ++ own ∷ []) (λ e. absurd (apart.0 e)) (once-after c ds apart.1)

  once-each : (ds : List Definition) → HaveOwnNames (map (template_in file) ds) → NoneSecond (ds ++ own ∷ [])
  once-each [] h = λ i j d lt within. absurd (omega arith)
  once-each (d ∷ ds) h = AllPairs-cons OnePlace d (ds ++ own ∷ []) (once-after d ds h.0) (once-each ds h.1)

-- ---- the law

templates-alike : (file : List ℕ) (ds : List Definition) → map unlined_template (map (template_in file) ds) ≡ map unlined_definition ds
templates-alike file [] = refl
templates-alike file (d ∷ ds) = ap (λ vs. unlined_definition d ∷ vs) (templates-alike file ds)

-- the templates of a file, and its own after them, added to none
added : (file name : List ℕ) (ds : List Definition) (own : Nodes) → HaveOwnNames (map (template_in file) ds)
    → add_definition (map (template_in file) ds) name (record { file = file; nodes = own })
    ≡ fold (λ (ts : List Template) (d : Definition). add_definition ts d.name (record { file = file; nodes = d.nodes })) [] (ds ++ definition 1 name own ∷ [])
added file name ds own h =
    let last : Definition = definition 1 name own in
    let us : List Template = map (template_in file) ds in
    ap (λ ts. defined_each ts (template_in file last ∷ [])) (sym (each-stays us h))
    ∙ sym (fold-append (λ before (t : Template). add_definition before t.0 t.1) [] us (template_in file last ∷ []))
    ∙ ap (defined_each []) (sym (map-append (template_in file) ds (last ∷ [])))
    ∙ fold-add_definition file (ds ++ last ∷ []) []

same-as : (file : List ℕ) (ts us : List Template) (own : Nodes) → map unlined_template us ≡ map unlined_template ts → unlined own ≡ newline_nodes ts
    → IsSameSet file ts (add_definition us (base_name file) (record { file = file; nodes = own }))
same-as file ts us own alike newlines =
    let name : List ℕ = base_name file in
    let new : Tree = record { file = file; nodes = own } in
    subst (λ k. MatchOption (tree_named name ts) (map unlined_template (add_definition us name new) ≡ map unlined_template ts ++ (name, k) ∷ [])
    (λ t. map unlined_template (add_definition us name new) ≡ map unlined_template ts)) newlines (same-set name new (blank-own ts own newlines) ts us alike)

pub set_accepted : AcceptsPrinted
set_accepted ts file is short =
    let (items, has, say) = has-said (flat_map template_said ts) (set-is-said ts (kept-printable ts is.0)) in
    let (ds, own, spells, alike, newlines) = set-leads ts items say in
    let us : List Template = map (template_in file) ds in
    let same : map unlined_template us ≡ map unlined_template ts = templates-alike file ds ∙ alike in
    let names : HaveOwnNames us = own-alike ts us same is.1 in
    record {
      set = add_definition us (base_name file) (record { file = file; nodes = own });
      accepted = record {
        short = short;
        items = items;
        has = has;
        judged = said-fine (flat_map template_said ts) items say (set-passes ts is.0);
        definitions = ds;
        own = own;
        spells = spells;
        once = once-each file (definition 1 (base_name file) own) (blank-own ts own newlines) ds names;
        set = added file (base_name file) ds own names;
      };
      same = same-as file ts us own same newlines;
    }
