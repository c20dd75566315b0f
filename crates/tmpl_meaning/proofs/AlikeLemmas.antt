-- For the laws `alike_run_alike` and `printed_runs_alike`: the other run is that of the same trees in no file and at no lines.
use Rattle.std.proofs.Common.{Option, Some, None, Ok, subst, ◌++◌, add-zero, arith, inl, inr, ◌≡◌, ◌∙◌, ◌∷◌, ℕ, false, List, [], ap, sym, refl}
use Rattle.std.proofs.lemmas.Bool.{false≢true}
use Rattle.std.specs.Prelude.{map, option_map}
use Rattle.std.specs.Option.{option_map_or}
use Rattle.tmpl_values.specs.Value.{Value, nothing}
use Rattle.tmpl_syntax.specs.Tree as tree
use Rattle.tmpl_syntax.specs.Tree.{NodeKind, Nodes, Tree, control_node}
use Rattle.tmpl_syntax.specs.Set.{Template}
use Rattle.tmpl_syntax.specs.Print.Printed.{unlined, unlined_node}
use Rattle.tmpl_syntax.specs.Print.Laws.{Unlined, unlined_template}
use Rattle.tmpl_syntax.specs.Print.Laws.{IsSameSet, newline_nodes}
use Rattle.tmpl_syntax.specs.Print.Printed.{printed_set}
use Rattle.tmpl_syntax.specs.Parse.{base_name}
use Rattle.tmpl_syntax.specs.Set.{tree_named}
use Rattle.tmpl_syntax.proofs.PrintedFileLemmas.{set_accepted}
use Rattle.tmpl_syntax.proofs.ReadingLemmas.{has-one-outcome}
use Rattle.tmpl_syntax.proofs.SameSetLemmas.{found-alike}
use Rattle.std.specs.Prelude.{MatchOption}
use Rattle.tmpl_meaning.specs.Laws.{AlikeRunAlike, PrintedRunsAlike, without_place, unplaced_fault}
use Rattle.tmpl_meaning.specs.Meaning.{End, Ran, Rules, Run, fault_of, faulted}
use Rattle.tmpl_meaning.specs.Pipeline.{without_null}
use Rattle.tmpl_meaning.proofs.CutLemmas.{Meets, Sides, far_run, moved, moved_node, moved_nodes, moved_template, near_run, runs-meet}
use Rattle.tmpl_meaning.proofs.PartLemmas.{ran_of, ran_with}

mutual
  node-unlined : (n : NodeKind) → moved_node (λ l. 0) n ≡ unlined_node n
  node-unlined (control_node c h body other) = λ i. control_node c h (nodes-unlined body i) (nodes-unlined other i)
  node-unlined _ = refl

  nodes-unlined : (ns : Nodes) → moved_nodes (λ l. 0) ns ≡ unlined ns
  nodes-unlined tree.none = refl
  nodes-unlined (tree.then line n ns) = λ i. tree.then 0 (node-unlined n i) (nodes-unlined ns i)

abbrev nowhere : Nodes → Tree
nowhere ns = record { file = []; nodes = ns }

module _ (rules : Rules) where
  abbrev alike : Sides
  alike = record {
    rules = rules;
    steps = rules.step_limit;
    depth = rules.depth_limit;
    more = 0;
    cuts = false;
    path = λ p. [];
    at = λ l. 0;
    exact = λ e. (refl, refl, refl);
  }

  set-unlined : (ts : List Template) → map (moved_template alike) ts ≡ map (λ (u : Unlined). (u.0, nowhere u.1)) (map unlined_template ts)
  set-unlined [] = refl
  set-unlined (t ∷ ts) = λ i. (t.0, nowhere (nodes-unlined t.1.nodes i)) ∷ set-unlined ts i

  -- files and lines of faults are left out
  faults-alike : (e : End) → option_map unplaced_fault (fault_of (moved alike e)) ≡ option_map unplaced_fault (fault_of e)
  faults-alike (faulted f) = refl
  faults-alike _ = refl

  meets-alike : (e : End) (r : Run) (q : Run × End) → Meets alike (r, e) q → without_place (ran_of (r, e)) ≡ without_place (ran_of q)
  meets-alike e r q (inl is) = sym (ap (λ (p : Run × End). without_place (ran_of p)) is ∙ (λ i. record (without_place (ran_of (r, e))) { fault = faults-alike e i }))
  meets-alike (faulted f) r q (inr c) = absurd (false≢true c.0.0)
  meets-alike _ r q (inr c) = absurd c.0

  -- a template whose nodes are these, in a set of such
  abbrev ran_nowhere : List Unlined → List ℕ → Nodes → Value → Ran
  ran_nowhere us name ns d = ran_with rules (map (λ (u : Unlined). (u.0, nowhere u.1)) us) name (nowhere ns) d

  by-unlined : (set : List Template) (name : List ℕ) (t : Tree) (d : Value)
      → without_place (ran_with rules set name t d) ≡ without_place (ran_nowhere (map unlined_template set) name (unlined t.nodes) d)
  by-unlined set name t d =
      let near : Run × End = near_run alike set name t d in
      meets-alike near.1 near.0 (far_run alike set name t d) (runs-meet alike set name t d (add-zero rules.step_limit) (omega arith))
      ∙ (λ i. without_place (ran_with rules (set-unlined set i) name (nowhere (nodes-unlined t.nodes i)) d))

pub alike_run_alike : AlikeRunAlike
alike_run_alike rules set other name t u input sets trees =
    let d = option_map_or without_null input nothing in
    by-unlined rules set name t d
    ∙ (λ i. without_place (ran_nowhere rules (sets i) name (trees i) d))
    ∙ sym (by-unlined rules other name u d)

-- ---- what is printed

-- where a template has the name, the set is the same
same-found : (file : List ℕ) (ts set : List Template) (own : Tree) → IsSameSet file ts set → tree_named (base_name file) ts ≡ Some own
    → map unlined_template set ≡ map unlined_template ts
same-found file ts set own = by (tree_named (base_name file) ts)
  where
    by : (o : Option Tree) → MatchOption o (map unlined_template set ≡ map unlined_template ts ++ (base_name file, newline_nodes ts) ∷ [])
        (λ t. map unlined_template set ≡ map unlined_template ts) → o ≡ Some own → map unlined_template set ≡ map unlined_template ts
    by None h e = cc
    by (Some t) h e = h

pub printed_runs_alike : PrintedRunsAlike
printed_runs_alike rules ts new file name own t input is there accepted found =
    let made = set_accepted ts file is accepted.short in
    let one : made.set ≡ new = cc (has-one-outcome [] file (printed_set ts) (Ok made.set) (Ok new) made.accepted accepted) in
    let alike = subst (λ set. map unlined_template set ≡ map unlined_template ts) one (same-found file ts made.set own made.same there) in
    let (u, is_there, same) = found-alike name ts new t alike found in
    (u, is_there, alike_run_alike rules new ts name u t input alike same)
