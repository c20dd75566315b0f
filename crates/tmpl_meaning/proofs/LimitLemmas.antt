-- For the law `limits_only_cut`: the other run is that of the same trees by greater limits.
use Rattle.std.proofs.Common.{arith, inl, inr, ◌≡◌, ◌∙◌, ◌-◌, ◌≤◌, ◌∷◌, ℕ, true, List, [], ap, sym, subst, refl, append-nil}
use Rattle.std.specs.Prelude.{map}
use Rattle.tmpl_values.specs.Value.{Value, nothing}
use Rattle.tmpl_syntax.specs.Tree as tree
use Rattle.tmpl_syntax.specs.Tree.{NodeKind, Nodes, Tree, control_node}
use Rattle.tmpl_syntax.specs.Set.{Template}
use Rattle.tmpl_meaning.specs.Laws.{IsCutOf, LimitsOnlyCut}
use Rattle.tmpl_meaning.specs.Meaning.{End, Ran, Rules, Run, calls_within, done, faulted, meanings, setting_of}
use Rattle.tmpl_meaning.specs.Pipeline.{without_null}
use Rattle.std.specs.Option.{option_map_or}
use Rattle.tmpl_meaning.proofs.CutLemmas.{Meets, Sides, far_run, moved, moved_node, moved_nodes, moved_template, near_run, runs-meet}
use Rattle.tmpl_meaning.proofs.PartLemmas.{ran_of, ran_with, started}

mutual
  node-stays : (n : NodeKind) → moved_node (λ l. l) n ≡ n
  node-stays (control_node c h body other) = λ i. control_node c h (nodes-stay body i) (nodes-stay other i)
  node-stays _ = refl

  nodes-stay : (ns : Nodes) → moved_nodes (λ l. l) ns ≡ ns
  nodes-stay tree.none = refl
  nodes-stay (tree.then line n ns) = λ i. tree.then line (node-stays n i) (nodes-stay ns i)

module _ (rules : Rules) (steps depth : ℕ) where
  greater : Sides
  greater = record {
    rules = rules;
    steps = steps;
    depth = depth;
    more = steps - rules.step_limit;
    cuts = true;
    path = λ p. p;
    at = λ l. l;
    exact = λ e. absurd (cc);
  }

  set-stays : (ts : List Template) → map (moved_template greater) ts ≡ ts
  unfolding greater
  set-stays [] = refl
  set-stays (t ∷ ts) = λ i. (t.0, record { file = t.1.file; nodes = nodes-stay t.1.nodes i }) ∷ set-stays ts i

  end-stays : (e : End) → moved greater e ≡ e
  unfolding greater
  end-stays done = refl
  end-stays _ = refl

  cut-of : (e : End) (r : Run) (q : Run × End) → Meets greater (r, e) q → IsCutOf (ran_of (r, e)) (ran_of q)
  unfolding greater
  cut-of e r q (inl is) =
      let same : ran_of (r, e) ≡ ran_of q = sym (ap ran_of is ∙ ap (λ f. ran_of (r, f)) (end-stays e)) in
      record { begins = ([], ap (λ (x : Ran). x.text) (sym same) ∙ sym (append-nil r.text)); same = λ within. same }
  cut-of (faulted f) r q (inr c) = record { begins = c.1; same = λ within. absurd (c.0.1 within) }
  cut-of _ r q (inr c) = absurd c.0

  by-greater : (set : List Template) (name : List ℕ) (t : Tree) (d : Value) → rules.step_limit ≤ steps → rules.depth_limit ≤ depth
      → IsCutOf (ran_with rules set name t d) (ran_with (record rules { step_limit = steps; depth_limit = depth }) set name t d)
  unfolding greater
  by-greater set name t d less deep =
      let far : Rules = record rules { step_limit = steps; depth_limit = depth } in
      let near : Run × End = near_run greater set name t d in
      let met = runs-meet greater set name t d (omega arith) deep in
      let first = cut-of near.1 near.0 (far_run greater set name t d) met in
      subst (λ ns. IsCutOf (ran_of near) (ran_of (meanings (setting_of far (calls_within far set (depth - 1)) name t) ns d (started steps d))))
      (nodes-stay t.nodes)
      (subst (λ ts. IsCutOf (ran_of near) (ran_of (meanings (setting_of far (calls_within far ts (depth - 1)) name t) (moved_nodes (λ l. l) t.nodes) d
      (started steps d)))) (set-stays set) first)

pub limits_only_cut : LimitsOnlyCut
limits_only_cut rules steps depth set name t input less deep =
    by-greater rules steps depth set name t (option_map_or without_null input nothing) less deep
