-- For the law `copies`: what parts of a template do with the variables and the text, whatever steps are left, where they
-- have no fault but those that may come.
use Rattle.std.proofs.Common.{◌≡◌, ◌∙◌, ◌-◌, ◌||◌, ℕ, nat_eq, Bool, true, false, List, [], length, drop, None, Result, Ok, sym, subst, ap, if◌then◌else◌}
use Rattle.tmpl_values.specs.Value.{Value}
use Rattle.tmpl_values.specs.Truth.{truth}
use Rattle.tmpl_grammar.specs.Tree.{Pipeline, unbound}
use Rattle.tmpl_grammar.specs.declared.tree.Control.TheVariants as control
use Rattle.tmpl_syntax.specs.Tree as tree
use Rattle.tmpl_syntax.specs.Tree.{NodeKind, Nodes, control_node}
use Rattle.tmpl_meaning.specs.Fault.{Cause, Fault, steps_spent}
use Rattle.tmpl_meaning.specs.Pipeline.{Environment, commands_value}
use Rattle.tmpl_meaning.specs.Meaning.{End, Next, Parts, Run, broke, continued, Setting, control_run, done, faulted, meanings, scope, spend, stepped, with_pipeline, with_value}
use Rattle.tmpl_loops.proofs.EnvLemmas.{cut-back}
use Rattle.tmpl_meaning.proofs.PartLemmas.{spend_if, on_end, on_turn}

abbrev pub at : Environment → List ℕ → ℕ → Bool → Run
at env text left made = record { env = env; text = text; left = left; made_text = made }

module _ (May : Cause → Type 0) (spent : (n : ℕ) → May (steps_spent n)) where
  abbrev pub EndsSo : (Environment → List ℕ → Type 0) → Environment → List ℕ → End → Type 0
  EndsSo P env text done = P env text
  EndsSo P env text (faulted f) = May f.cause
  EndsSo P env text end = ⊥

  -- done where this holds of the variables and the text, or at a fault that may come
  abbrev pub Ends : (Environment → List ℕ → Type 0) → Run × End → Type 0
  Ends P x = EndsSo P x.0.env x.0.text x.1

  abbrev pub Are : Environment → List ℕ → Environment → List ℕ → Type 0
  Are e t env text = (env ≡ e) × (text ≡ t)

  -- done with these variables and this text
  abbrev pub Comes : Environment → List ℕ → Run × End → Type 0
  Comes e t x = Ends (Are e t) x

  abbrev pub Does : Next → Environment → List ℕ → (Environment → List ℕ → Type 0) → Type 0
  Does go e t P = (left : ℕ) (made : Bool) → Ends P (go (at e t left made))

  -- at a fault that may come
  abbrev pub Faults : End → Type 0
  Faults (faulted f) = May f.cause
  Faults end = ⊥

  pub faults-end : (P : Environment → List ℕ → Type 0) (env : Environment) (text : List ℕ) (end : End) → Faults end → EndsSo P env text end
  faults-end P env text (faulted f) h = h
  faults-end P env text done h = absurd h
  faults-end P env text broke h = absurd h
  faults-end P env text continued h = absurd h

  pub map-ends : (P Q : Environment → List ℕ → Type 0) (x : Run × End) → ((env : Environment) (text : List ℕ) → P env text → Q env text) → Ends P x → Ends Q x
  map-ends P Q x f h = by x.1 h
    where
      by : (end : End) → EndsSo P x.0.env x.0.text end → EndsSo Q x.0.env x.0.text end
      by done h = f x.0.env x.0.text h
      by (faulted f) h = h
      by broke h = absurd h
      by continued h = absurd h

  pub after-faults : (r : Run) (end : End) (go : Next) → Faults end → Faults (on_end end r go).1
  after-faults r (faulted f) go h = h
  after-faults r done go h = absurd h
  after-faults r broke go h = absurd h
  after-faults r continued go h = absurd h

  -- what holds of each run that is at a fault that may come
  abbrev pub HoldsAtFaults : (Run × End → Type 0) → Type 0
  HoldsAtFaults G = (r : Run) (f : Fault) → May f.cause → G (r, faulted f)

  pub faulty : (P : Environment → List ℕ → Type 0) → HoldsAtFaults (Ends P)
  faulty P r f h = h

  spend-ends : (P : Environment → List ℕ → Type 0) (s : Setting) (line : ℕ) (go : Next) (r : Run)
      → ((left : ℕ) → Ends P (go (record r { left = left }))) → Ends P (spend s line go r)
  spend-ends P s line go r h = by (nat_eq r.left 0)
    where
      by : (b : Bool) → Ends P (spend_if b s line go r)
      by true = spent s.rules.step_limit
      by false = h (r.left - 1)

  module _ (G : Run × End → Type 0) (at_faults : HoldsAtFaults G) where
    pub spend-has : (s : Setting) (line : ℕ) (go : Next) (r : Run) → ((left : ℕ) → G (go (record r { left = left }))) → G (spend s line go r)
    spend-has s line go r h = by (nat_eq r.left 0)
      where
        by : (b : Bool) → G (spend_if b s line go r)
        by true = at_faults r _ (spent s.rules.step_limit)
        by false = h (r.left - 1)

    pub after-has : (P : Environment → List ℕ → Type 0) (r : Run) (end : End) (go : Next) → EndsSo P r.env r.text end
        → ((q : Run) → P q.env q.text → G (go q)) → G (on_end end r go)
    after-has P r done go h g = g r h
    after-has P r (faulted f) go h g = at_faults r f h
    after-has P r broke go h g = absurd h
    after-has P r continued go h g = absurd h

    pub turn-has : (P : Environment → List ℕ → Type 0) (r : Run) (end : End) (go : Next) → EndsSo P r.env r.text end
        → ((q : Run) → P q.env q.text → G (go q)) → G (on_turn end r go)
    turn-has P r done go h g = g r h
    turn-has P r (faulted f) go h g = at_faults r f h
    turn-has P r broke go h g = absurd h
    turn-has P r continued go h g = absurd h

    -- from where the variables and the text are these
    pub from-these : (e : Environment) (t : List ℕ) (go : Next) → ((left : ℕ) (made : Bool) → G (go (at e t left made)))
        → (q : Run) → Are e t q.env q.text → G (go q)
    from-these e t go h q are =
        subst (λ (q : Run). G (go q)) (λ i. at (sym are.0 i) (sym are.1 i) q.left q.made_text) (h q.left q.made_text)

    pub then-has : (s : Setting) (line : ℕ) (n : NodeKind) (ns : Nodes) (d : Value)
        (e : Environment) (t : List ℕ) (e1 : Environment) (t1 : List ℕ) → Does (stepped s line n d) e t (Are e1 t1)
        → ((left : ℕ) (made : Bool) → G (meanings s ns d (at e1 t1 left made))) → (left : ℕ) (made : Bool) → G (meanings s (tree.then line n ns) d (at e t left made))
    then-has s line n ns d e t e1 t1 h g left made =
        let x = spend s line (stepped s line n d) (at e t left made) in
        after-has (Are e1 t1) x.0 x.1 (meanings s ns d)
        (spend-ends (Are e1 t1) s line (stepped s line n d) (at e t left made) (λ left. h left made))
        (from-these e1 t1 (meanings s ns d) g)

  pub scope-does : (P Q : Environment → List ℕ → Type 0) (part : Next) (r : Run) → ((env : Environment) (text : List ℕ) → P env text → Q (drop (length env - length r.env) env) text)
      → Ends P (part r) → Ends Q (scope part r)
  scope-does P Q part r keeps h = by (part r).1 h
    where
      by : (end : End) → EndsSo P (part r).0.env (part r).0.text end
          → EndsSo Q (drop (length (part r).0.env - length r.env) (part r).0.env) (part r).0.text end
      by done h = keeps (part r).0.env (part r).0.text h
      by (faulted f) h = h
      by _ h = absurd h

  pub value-ends : (P : Environment → List ℕ → Type 0) (s : Setting) (line : ℕ) (x : Result Value Cause) (v : Value) (go : Value → Next) (r : Run)
      → x ≡ Ok v → Ends P (go v r) → Ends P (with_value s line x go r)
  value-ends P s line x v go r is h = subst (λ (x : Result Value Cause). Ends P (with_value s line x go r)) (sym is) h

  -- the same variables, the newest of which go: those that were declared
  abbrev pub cut : Environment → Environment → Environment
  cut e e1 = drop (length e1 - length e) e1

  -- an `if` whose pipeline has this value
  pub if-does : (s : Setting) (line : ℕ) (p : Pipeline) (body other : Nodes) (d : Value) (e : Environment) (t : List ℕ) (e1 : Environment) (t1 : List ℕ) (v : Value)
      → (commands_value (record { missing_key = s.rules.missing_key; dot = d; env = e }) p None).result ≡ Ok v
      → length e1 ≡ length e
      → Does (if truth v then meanings s body d else meanings s other d) e t (Are e1 t1)
      → Does (stepped s line (control_node control.If (record { binding = unbound; pipeline = p }) body other) d) e t (Are e1 t1)
  if-does s line p body other d e t e1 t1 v is long h left made =
      let parts : Parts = record { binding = unbound; body = meanings s body; other = meanings s other d } in
      let go = control_run s line control.If parts d in
      let g = commands_value (record { missing_key = s.rules.missing_key; dot = d; env = e }) p None in
      scope-does (Are e1 t1) (Are e1 t1) (with_pipeline s line p d go) (at e t left made)
      (λ env text are. (ap (cut e) are.0 ∙ cut-back [] e1 e long, are.1))
      (value-ends (Are e1 t1) s line g.result v go (at e t left (made || g.made_text)) is (h left (made || g.made_text)))
