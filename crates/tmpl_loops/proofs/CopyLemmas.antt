-- For the law `copies`: a copy loop from its start.
use Rattle.std.proofs.Common.{◌≡◌, ◌∙◌, ◌++◌, ◌+◌, ℕ, zero, suc, Bool, true, false, List, [], ◌∷◌, Option, Some, None, Err, refl, sym, subst, ap, pos, append_assoc, append-nil}
use Rattle.std.specs.Prelude.{MatchOption, flat_map, option_and_then, ◌-◌}
use Rattle.std.proofs.lemmas.Bool.{false≢true}
use Rattle.tmpl_meaning.specs.declared.missing_key.MissingKey.TheVariants.{Zero}
use Rattle.tmpl_values.specs.Value.{Value, boolean, nothing, number, string}
use Rattle.tmpl_grammar.specs.Tree.{bool_constant, declare, dot, number_constant}
use Rattle.tmpl_syntax.specs.Set.{Template, tree_named}
use Rattle.tmpl_syntax.specs.Tree as tree
use Rattle.tmpl_syntax.specs.Tree.{Nodes, NodeKind, Tree, action, text}
use Rattle.tmpl_meaning.specs.Fault.{Cause, no_template, steps_spent}
use Rattle.tmpl_meaning.specs.Laws.{within}
use Rattle.tmpl_meaning.specs.Meaning.{End, Next, Rules, Run, Setting, broke, calls_within, continued, done, fault_of, faulted, meanings, show}
use Rattle.tmpl_meaning.specs.Pipeline.{Environment, lookup}
use Rattle.tmpl_meaning.proofs.PartLemmas.{apart, left_by, run_called, started as run_started, uncalled}
use Rattle.tmpl_loops.specs.Form.{AreApart, Before, Loop, Names, Turn, before_nodes, constant, constant_value, constants_after, copy_loop, does, going, has_name, joined, loop_nodes, put_for, refused, says, stopped, text_before, turn_of}
use Rattle.tmpl_loops.specs.Law.{CallsCopy, Each, IsLoop, RunsCopy, copied_by, EndsWith, IsTurn, LoopsCopy, MayFault}
use Rattle.tmpl_loops.proofs.ByteLemmas.{value-same}
use Rattle.tmpl_loops.proofs.EnvLemmas.{found}
use Rattle.tmpl_loops.proofs.RunLemmas as run
use Rattle.tmpl_loops.proofs.RunLemmas.{at}
use Rattle.tmpl_loops.proofs.LoopLemmas as loop

-- a template that is not in the set has no run
absent-call : (rules : Rules) (set : List Template) (depth : ℕ) (name : List ℕ) → tree_named name set ≡ None
    → calls_within rules set depth name ≡ Err (no_template name)
absent-call rules set zero name e = ap (uncalled rules name) e
absent-call rules set (suc n) name e = ap (run_called rules (calls_within rules set n) name) e

module _ (c : Loop) (rules : Rules) (set : List Template) (stops : List (List ℕ)) (depth : ℕ) (name : List ℕ) (t : Tree) (bytes : List ℕ) (given : Value) (constants : Environment) (known : constants_after c.before [] ≡ Some constants) (apart : AreApart c constants) where
  abbrev n : Names
  n = c.names

  abbrev s : Setting
  s = within rules set depth name t

  abbrev May : Cause → Type 0
  May = MayFault c constants bytes

  abbrev spent : (n : ℕ) → May (steps_spent n)
  spent n = tt

  module _ (base : List ℕ) where
    going-of : (b : ℕ) (front rest : List ℕ) → bytes ≡ front ++ b ∷ rest → (t : Turn) → turn_of c constants b ≡ t → IsTurn set stops t → loop.IsGoing May spent s c constants bytes given apart base t
    going-of b front rest is (going None false) e h = tt
    going-of b front rest is (going (Some t) true) e h = tt
    going-of b front rest is (stopped name) e h = (absent-call rules set depth name h.0, (front, b, rest, is, e))
    going-of b front rest is (going None true) e h = absurd h
    going-of b front rest is (going (Some t) false) e h = absurd h
    going-of b front rest is refused e h = absurd h

    all-going : (rest front : List ℕ) → bytes ≡ front ++ rest → Each (λ b. IsTurn set stops (turn_of c constants b)) rest → loop.AllGoing May spent s c constants bytes given apart base rest
    all-going [] front is h = tt
    all-going (b ∷ rest) front is h =
        (going-of b front rest is (turn_of c constants b) refl h.0, all-going rest (front ++ b ∷ []) (is ∙ sym (append_assoc front (b ∷ []) rest)) h.1)

  abbrev started : Environment
  started = ([], given) ∷ []

  abbrev d : Value
  d = string bytes

  abbrev first : NodeKind
  first = does (declare n.text) (dot ∷ [])

  abbrev second : NodeKind
  second = does (declare n.from) (number_constant (pos 0) ∷ [])

  abbrev third : NodeKind
  third = does (declare n.new) (bool_constant false ∷ [])

  abbrev and_texts : Nodes
  and_texts = before_nodes c.before (loop_nodes c)

  abbrev and_third : Nodes
  and_third = tree.then (c.line 2) third and_texts

  abbrev and_second : Nodes
  and_second = tree.then (c.line 1) second and_third

  -- what stands before the loop
  before-has : (G : Run × End → Type 0) → run.HoldsAtFaults May spent G → (bs : List Before) (ns : Nodes) (d : Value) (older first : Environment) (t : List ℕ)
      → constants_after bs first ≡ Some constants → ((left : ℕ) (made : Bool) → G (meanings s ns d (at (constants ++ older) (t ++ text_before bs) left made)))
      → (left : ℕ) (made : Bool) → G (meanings s (before_nodes bs ns) d (at (first ++ older) t left made))
  before-has G fine [] ns d older first t e h left made =
      let same : constants ≡ first = let g : first ≡ constants = cc in sym g in
      subst (λ (env : Environment). G (meanings s ns d (at (env ++ older) t left made))) same
      (subst (λ (l : List ℕ). G (meanings s ns d (at (constants ++ older) l left made))) (append-nil t) (h left made))
  before-has G fine (says line bytes ∷ bs) ns d older first t e h left made =
      run.then-has May spent G fine s line (text bytes) (before_nodes bs ns) d (first ++ older) t (first ++ older) (t ++ bytes) (λ left made. (refl, refl))
      (before-has G fine bs ns d older first (t ++ bytes) e
      (λ left made. subst (λ (l : List ℕ). G (meanings s ns d (at (constants ++ older) l left made))) (sym (append_assoc t bytes (text_before bs))) (h left made))) left made
  before-has G fine (constant line name p ∷ bs) ns d older first t e h left made =
      let x = there (constant_value first p) e in
      run.then-has May spent G fine s line (action (record { binding = declare name; pipeline = p })) (before_nodes bs ns) d (first ++ older) t ((name, x.0) ∷ (first ++ older)) t
      (λ left made. run.value-ends May spent (run.Are May spent ((name, x.0) ∷ (first ++ older)) t) s line _ x.0 (show (declare name)) (at (first ++ older) t left _)
      (value-same (λ name. has_name name first) (λ p. false) (record { missing_key = s.rules.missing_key; dot = d; env = first ++ older })
      (record { missing_key = Zero; dot = nothing; env = first })
      (λ name e. found name first older [] e ∙ ap (lookup name) (append-nil first)) (λ p e. absurd (false≢true e)) p x.0 x.1) (refl, refl))
      (before-has G fine bs ns d older ((name, x.0) ∷ first) t x.2 h) left made
    where
      there : (o : Option Value) → option_and_then (λ v. constants_after bs ((name, v) ∷ first)) o ≡ Some constants
          → (v : Value) × (o ≡ Some v) × (constants_after bs ((name, v) ∷ first) ≡ Some constants)
      there None e = cc
      there (Some v) e = (v, refl, e)

  started-ends : Each (λ b. IsTurn set stops (turn_of c constants b)) bytes → (t0 : List ℕ) (left : ℕ) (made : Bool)
      → run.Ends May spent (loop.Last May spent s c constants bytes given apart (t0 ++ text_before c.before)) (meanings s (copy_loop c) d (at started t0 left made))
  started-ends each t0 =
      let base = t0 ++ text_before c.before in
      let G = run.Ends May spent (loop.Last May spent s c constants bytes given apart base) in
      let fine : run.HoldsAtFaults May spent G = run.faulty May spent (loop.Last May spent s c constants bytes given apart base) in
      let e1 : Environment = (n.text, string bytes) ∷ started in
      let e2 : Environment = (n.from, number (pos 0)) ∷ e1 in
      let e3 : Environment = (n.new, boolean false) ∷ e2 in
      run.then-has May spent G fine s (c.line 0) first and_second d started t0 e1 t0 (λ left made. (refl, refl))
      (run.then-has May spent G fine s (c.line 1) second and_third d e1 t0 e2 t0 (λ left made. (refl, refl))
      (run.then-has May spent G fine s (c.line 2) third and_texts d e2 t0 e3 t0 (λ left made. (refl, refl))
      (before-has G fine c.before (loop_nodes c) d e3 [] t0 known
      (loop.loop-ends May spent s c constants bytes given apart base d (all-going base bytes [] refl each)))))

  joined-up : (t pre h post : List ℕ) → ((t ++ pre) ++ h) ++ post ≡ t ++ (pre ++ (h ++ post))
  joined-up t pre h post = append_assoc (t ++ pre) h post ∙ append_assoc t pre (h ++ post)

  ends-with : (t0 : List ℕ) (r : Run) (end : End) → run.EndsSo May spent (loop.Last May spent s c constants bytes given apart (t0 ++ text_before c.before)) r.env r.text end
      → EndsWith c constants bytes (t0 ++ (text_before c.before ++ (flat_map (put_for c constants) bytes ++ joined c.after))) r end
  ends-with t0 r done h = h ∙ joined-up t0 (text_before c.before) (flat_map (put_for c constants) bytes) (joined c.after)
  ends-with t0 r (faulted f) h = h
  ends-with t0 r broke h = absurd h
  ends-with t0 r continued h = absurd h

  pub copied : (r : Run) → Each (λ b. IsTurn set stops (turn_of c constants b)) bytes → r.env ≡ started
      → EndsWith c constants bytes (r.text ++ (text_before c.before ++ (flat_map (put_for c constants) bytes ++ joined c.after)))
      (meanings s (copy_loop c) d r).0 (meanings s (copy_loop c) d r).1
  copied r each env =
      let x = meanings s (copy_loop c) d r in
      ends-with r.text x.0 x.1
      (run.from-these May spent (run.Ends May spent (loop.Last May spent s c constants bytes given apart (r.text ++ text_before c.before)))
      (run.faulty May spent (loop.Last May spent s c constants bytes given apart (r.text ++ text_before c.before))) started r.text (meanings s (copy_loop c) d) (started-ends each r.text) r (env, refl))

pub loops_copy : LoopsCopy
loops_copy c constants rules set stops depth name t bytes given r known apart each env = copied c rules set stops depth name t bytes given constants known apart r each env

-- ---- calls and whole templates

each-turn : (set : List Template) (stops : List (List ℕ)) (c : Loop) (constants : Environment) → ((b : ℕ) → IsTurn set stops (turn_of c constants b))
    → (bytes : List ℕ) → Each (λ b. IsTurn set stops (turn_of c constants b)) bytes
each-turn set stops c constants h [] = tt
each-turn set stops c constants h (b ∷ bytes) = (h b, each-turn set stops c constants h bytes)

module _ (c : Loop) (constants : Environment) (rules : Rules) (set : List Template) (stops : List (List ℕ)) (bytes : List ℕ) where
  -- the law for a tree that is a loop
  tree-copies : (depth : ℕ) (name : List ℕ) (t : Tree) → IsLoop set stops c constants t → (given : Value) (r : Run) → r.env ≡ ([], given) ∷ []
      → EndsWith c constants bytes (r.text ++ copied_by c constants bytes) (meanings (within rules set depth name t) t.nodes (string bytes) r).0
      (meanings (within rules set depth name t) t.nodes (string bytes) r).1
  tree-copies depth name t is given r env =
      subst (λ (ns : Nodes). EndsWith c constants bytes (r.text ++ copied_by c constants bytes) (meanings (within rules set depth name t) ns (string bytes) r).0
      (meanings (within rules set depth name t) ns (string bytes) r).1) (sym is.tree)
      (loops_copy c constants rules set stops depth name t bytes given r is.known is.apart (each-turn set stops c constants is.turns bytes) env)

  left-so : (t0 : List ℕ) (env : Environment) (r : Run) (end : End) → EndsWith c constants bytes t0 r end
      → EndsWith c constants bytes t0 (record r { env = env }) (left_by end)
  left-so t0 env r done h = h
  left-so t0 env r (faulted f) h = h
  left-so t0 env r broke h = absurd h
  left-so t0 env r continued h = absurd h

  call-copies : (depth : ℕ) (name : List ℕ) (t : Tree) → IsLoop set stops c constants t → (r : Run)
      → EndsWith c constants bytes (r.text ++ copied_by c constants bytes)
      (apart (string bytes) (meanings (within rules set depth name t) t.nodes (string bytes)) r).0
      (apart (string bytes) (meanings (within rules set depth name t) t.nodes (string bytes)) r).1
  call-copies depth name t is r =
      let q : Run = record r { env = ([], string bytes) ∷ [] } in
      let x = meanings (within rules set depth name t) t.nodes (string bytes) q in
      left-so (r.text ++ copied_by c constants bytes) r.env x.0 x.1 (tree-copies depth name t is (string bytes) q refl)

  no-fault : (t0 : List ℕ) (r : Run) (end : End) → EndsWith c constants bytes t0 r end
      → MatchOption (fault_of end) (r.text ≡ t0) (λ f. MayFault c constants bytes f.cause)
  no-fault t0 r done h = h
  no-fault t0 r (faulted f) h = h
  no-fault t0 r broke h = absurd h
  no-fault t0 r continued h = absurd h

pub calls_copy : CallsCopy
calls_copy c constants rules set stops depth name t found is =
    let go : Value → Next = λ v. apart v (meanings (within rules set depth name t) t.nodes v) in
    (go, ap (run_called rules (calls_within rules set depth) name) found, λ bytes r. (refl, call-copies c constants rules set stops bytes depth name t is r))

pub runs_copy : RunsCopy
runs_copy c constants rules set stops name t bytes is =
    let start : Run = run_started rules.step_limit (string bytes) in
    let x = meanings (within rules set (rules.depth_limit - 1) name t) t.nodes (string bytes) start in
    no-fault c constants rules set stops bytes (copied_by c constants bytes) x.0 x.1 (tree-copies c constants rules set stops bytes (rules.depth_limit - 1) name t is (string bytes) start refl)
