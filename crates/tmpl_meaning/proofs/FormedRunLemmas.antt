-- For the law `formed_runs`: what never comes in a run of formed nodes.
use Rattle.std.proofs.Common.{arith, ◌≡◌, ◌∙◌, ◌++◌, ◌+◌, ◌-◌, ◌||◌, ℕ, zero, suc, nat_eq, Bool, true, false, List, [], ◌∷◌}
use Rattle.std.proofs.Common.{Option, Some, None, Result, Ok, Err, IfOk, length, ap, refl, sym, subst, append_assoc, length-append, if◌then◌else◌}
use Rattle.std.proofs.lemmas.Bool.{false≢true, and_parts}
use Rattle.std.proofs.lemmas.List.{length-map, drop-map, drop-append-le}
use Rattle.std.proofs.lemmas.List.Folds.{list_any-append, list_all-append}
use Rattle.std.proofs.Math.Seq.{drop-append_seam}
use Rattle.std.specs.Cmp.Lexicographic.{nat_list_eq_equiv}
use Rattle.std.specs.Cmp.Derive.{both_true}
use Rattle.std.specs.Str.{bytes_eq}
use Rattle.tmpl_values.specs.Value.{Value, nothing}
use Rattle.tmpl_values.specs.Elements.{Element}
use Rattle.tmpl_values.specs.Truth.{truth}
use Rattle.tmpl_grammar.specs.Tree.{Pipeline, Binding, unbound, declare, assign, declare_pair, Header}
use Rattle.tmpl_grammar.specs.declared.tree.Control.{Control}
use Rattle.tmpl_grammar.specs.declared.tree.Control.TheVariants as control
use Rattle.tmpl_syntax.specs.Tree as tree
use Rattle.tmpl_syntax.specs.Tree.{NodeKind, Nodes, Tree, text, action, control_node, break_node, continue_node, template_node}
use Rattle.tmpl_syntax.specs.Set.{Template, tree_named}
use Rattle.tmpl_syntax.specs.Place.Role.{Name, assigned_by, names_of, names_given, used_by}
use Rattle.tmpl_syntax.specs.Formed.{is_among, are_among, declared_to, else_scope, is_looped, scope_after, is_formed, are_formed}
use Rattle.tmpl_syntax.proofs.FormedLemmas.{control-formed, or-left, or-right}
use Rattle.tmpl_meaning.specs.Fault.{Cause, Fault}
use Rattle.tmpl_meaning.specs.Meaning.{Calls, End, Next, Rules, Run, Setting, after, after_turn, assign_variable, bind, broke, continued, calls_within}
use Rattle.tmpl_meaning.specs.Meaning.{done, faulted, meanings, scope, setting_of, show, spend, stepped, turns, elements_visited, with_bound}
use Rattle.tmpl_meaning.specs.Meaning.{with_pipeline, with_value}
use Rattle.tmpl_meaning.specs.Pipeline.{Environment, Given, commands_value}
use Rattle.tmpl_meaning.specs.Laws.{FindsItsOwn, FindsNames, IsOver, EndsInRange, StaysInScope, scope_past, with_older}
use Rattle.tmpl_meaning.proofs.PartLemmas.{choosing, controlling, handing, left_by, oldest, on_end, on_turn, one_of, over, run_called, scoped, spend_if, turn}
use Rattle.tmpl_meaning.proofs.PartLemmas.{over, uncalled, with_given}
use Rattle.tmpl_meaning.proofs.PartLemmas.{over, without_key}
use Rattle.tmpl_meaning.proofs.PlaceLemmas.{names, pipeline-same}

-- ---- lists of names

-- names, and after them `$`
abbrev full : List Name → List Name
full ns = ns ++ [] ∷ []

among-full : (ns : List Name) (x : Name) → is_among ns x ≡ true → is_among (full ns) x ≡ true
among-full ns x e = list_any-append (bytes_eq x) ns ([] ∷ []) ∙ or-left (is_among ns x) (is_among ([] ∷ []) x) e

all-full : (ns uses : List Name) → are_among ns uses ≡ true → are_among (full ns) uses ≡ true
all-full ns [] e = refl
all-full ns (x ∷ xs) e =
    let p = and_parts (is_among ns x) (are_among ns xs) e in both_true (among-full ns x p.0) (all-full ns xs p.1)

start-full : (ns : List Name) → is_among (full ns) [] ≡ true
start-full ns = list_any-append (bytes_eq []) ns ([] ∷ []) ∙ or-right (is_among ns []) true refl

-- a binding before `$` is one before the names
declared-full : (b : Binding) (ns : List Name) → declared_to b (full ns) ≡ full (declared_to b ns)
declared-full unbound ns = refl
declared-full _ ns = refl

-- ---- variables

assign_variable-names : (name : List ℕ) (x : Value) (env : Environment) → names (assign_variable name x env) ≡ names env
assign_variable-names name x [] = refl
assign_variable-names name x (v ∷ env) = go (bytes_eq v.0 name) (assign_variable-names name x env)
  where
    go : (b : Bool) → names (assign_variable name x env) ≡ names env → names (if b then (v.0, x) ∷ env else v ∷ assign_variable name x env) ≡ v.0 ∷ names env
    go true more = refl
    go false more = ap (λ ns. v.0 ∷ ns) more

assign_variable-same : (name : List ℕ) (x : Value) (env older : Environment) → is_among (names env) name ≡ true
    → assign_variable name x (env ++ older) ≡ assign_variable name x env ++ older
assign_variable-same name x [] older e = absurd (false≢true e)
assign_variable-same name x (v ∷ env) older e =
    go (bytes_eq v.0 name) (ap (λ b. b || is_among (names env) name) (nat_list_eq_equiv.symm v.0 name) ∙ e) (assign_variable-same name x env older)
  where
    go : (b : Bool) → (b || is_among (names env) name) ≡ true
        → (is_among (names env) name ≡ true → assign_variable name x (env ++ older) ≡ assign_variable name x env ++ older)
        → (if b then (v.0, x) ∷ env ++ older else v ∷ assign_variable name x (env ++ older)) ≡ (if b then (v.0, x) ∷ env else v ∷ assign_variable name x env) ++ older
    go true h more = refl
    go false h more = ap (λ vs. v ∷ vs) (more h)

bind-names : (b : Binding) (e : Element) (env : Environment) → names (bind b e env) ≡ declared_to b (names env)
bind-names (assign name) e env = assign_variable-names name e.1 env
bind-names _ e env = refl

bind-same : (b : Binding) (e : Element) (env older : Environment) → is_among (names env) [] ≡ true → are_among (names env) (assigned_by b) ≡ true
    → bind b e (env ++ older) ≡ bind b e env ++ older
bind-same (assign []) e env older start k = assign_variable-same [] e.1 env older start
bind-same (assign (c ∷ cs)) e env older start k = assign_variable-same (c ∷ cs) e.1 env older (and_parts (is_among (names env) (c ∷ cs)) true k).0
bind-same _ e env older start k = refl

-- ---- what holds after a part of a run

-- older names stay: those there were are the last
abbrev Longer : Environment → Environment → Type 0
Longer env more = (newer : List Name) × (names more ≡ newer ++ names env)

longer-on : (a b c : Environment) → Longer a b → Longer b c → Longer a c
longer-on a b c x y = (y.0 ++ x.0, y.1 ∙ ap (λ ns. y.0 ++ ns) x.1 ∙ sym (append_assoc y.0 x.0 (names a)))

abbrev IsDone : End → Type 0
IsDone done = Unit {0}
IsDone end = ⊥

-- what may hold of an end and of the names there: they are these where it is done; they are these; nothing
abbrev Done : List Name → End → List Name → Type 0
Done left end ns = IsDone end → ns ≡ left

abbrev These : List Name → End → List Name → Type 0
These left end ns = ns ≡ left

abbrev Any : End → List Name → Type 0
Any end ns = Unit {0}

-- from a run with these names on older names stay, no break or continue comes out of what is in no range, older variables play no part, and this
-- holds after it
abbrev Leaves : Bool → List Name → (End → List Name → Type 0) → Next → Type 0
Leaves loop ns P part = (r : Run) → names r.env ≡ ns
    → Longer r.env (part r).0.env × (loop ≡ false → IsOver (part r).1) × FindsItsOwn part r × P (part r).1 (names (part r).0.env)

weaker : (loop inner : Bool) (ns : List Name) (P Q : End → List Name → Type 0) (part : Next) → (loop ≡ false → inner ≡ false)
    → ((end : End) (left : List Name) → P end left → Q end left) → Leaves inner ns P part → Leaves loop ns Q part
weaker loop inner ns P Q part range so h r is = let p = h r is in (p.0, λ e. p.1 (range e), p.2, so _ _ p.3)

any : (loop : Bool) (ns : List Name) (P : End → List Name → Type 0) (part : Next) → Leaves loop ns P part → Leaves loop ns Any part
any loop ns P part h = weaker loop loop ns P Any part (λ f. f) (λ end left h. tt) h

-- a part that ends where it begins
at_once : (loop : Bool) (ns : List Name) (P : End → List Name → Type 0) (end : End) → (loop ≡ false → IsOver end) → P end ns
    → Leaves loop ns P (λ r. (r, end))
at_once loop ns P end over there r is = (([], refl), over, λ older. refl, subst (P end) (sym is) there)

module _ (loop : Bool) (ns : List Name) (P : End → List Name → Type 0) (faults : (f : Fault) → P (faulted f) ns) where
  spend-leaves : (s : Setting) (line : ℕ) (go : Next) → Leaves loop ns P go → Leaves loop ns P (spend s line go)
  spend-leaves s line go h r = by (nat_eq r.left 0)
    where
      by : (b : Bool) → names r.env ≡ ns → Longer r.env (spend_if b s line go r).0.env × (loop ≡ false → IsOver (spend_if b s line go r).1)
          × FindsItsOwn (spend_if b s line go) r × P (spend_if b s line go r).1 (names (spend_if b s line go r).0.env)
      by true is = at_once loop ns P _ (λ e. tt) (faults _) r is
      by false is = h (record r { left = r.left - 1 }) is

  with_value-leaves : {T : Type 0} (s : Setting) (line : ℕ) (t : Result T Cause) (go : T → Next) → IfOk t (λ x. Leaves loop ns P (go x))
      → Leaves loop ns P (with_value s line t go)
  with_value-leaves s line (Ok x) go h = h
  with_value-leaves s line (Err cause) go h = at_once loop ns P _ (λ e. tt) (faults _)

  -- a pipeline whose names are there
  with_pipeline-leaves : (s : Setting) (line : ℕ) (p : Pipeline) (d : Value) (go : Value → Next) → is_among ns [] ≡ true → are_among ns (used_by p) ≡ true
      → ((v : Value) → Leaves loop ns P (go v)) → Leaves loop ns P (with_pipeline s line p d go)
  with_pipeline-leaves s line p d go start known h r is =
      let g : Given Value = commands_value (record { missing_key = s.rules.missing_key; dot = d; env = r.env }) p None in
      let k = with_value-leaves s line g.result go (every g.result h) (record r { made_text = r.made_text || g.made_text }) is in
      let own : FindsItsOwn (with_pipeline s line p d go) r =
      λ older.
      ap (λ (x : Given Value). with_given s line x go (with_older older r))
      (pipeline-same s.rules.missing_key d r.env older (rw is start) p (rw is known)) ∙ k.2 older in (k.0, k.1, own, k.3)
    where
      every : (t : Result Value Cause) → ((v : Value) → Leaves loop ns P (go v)) → IfOk t (λ v. Leaves loop ns P (go v))
      every (Ok v) h = h v
      every (Err cause) h = tt

-- what goes on after a part that is done
after-leaves : (loop : Bool) (ns middle left : List Name) (part go : Next) → Leaves loop ns (Done middle) part → Leaves loop middle (Done left) go
    → Leaves loop ns (Done left) (λ q. after (part q) go)
after-leaves loop ns middle left part go h g r is =
    let p = h r is in
    let k = by (part r).0 (part r).1 p.0 p.1 p.3 in
    (k.0, k.1, λ older. ap (λ (x : Run × End). after x go) (p.2 older) ∙ k.2 older, k.3)
  where
    by : (q : Run) (end : End) → Longer r.env q.env → (loop ≡ false → IsOver end) → (IsDone end → names q.env ≡ middle)
        → Longer r.env (on_end end q go).0.env × (loop ≡ false → IsOver (on_end end q go).1)
        × ((older : Environment) → on_end end (with_older older q) go ≡ (with_older older (on_end end q go).0, (on_end end q go).1))
        × Done left (on_end end q go).1 (names (on_end end q go).0.env)
    by q done l o n = let k = g q (n tt) in (longer-on r.env q.env (go q).0.env l k.0, k.1, k.2, k.3)
    by q _ l o n = (l, o, λ older. refl, λ d. absurd d)

-- ---- scopes

longer-length : (env more : Environment) (l : Longer env more) → length more ≡ length l.0 + length env
longer-length env more l =
    omega (arith, length-map more (λ v. v.0), length-map env (λ v. v.0), ap length l.1 ∙ length-append l.0 (names env))

oldest-names : (env more : Environment) → Longer env more → names (oldest (length env) more) ≡ names env
oldest-names env more l =
    let skipped : length more - length env ≡ length l.0 = omega (arith, longer-length env more l) in
    rw (skipped, sym (drop-map (λ v. v.0) (length l.0) more), l.1) (drop-append_seam l.0 (names env))

oldest-same : (env more older : Environment) → Longer env more → oldest (length (env ++ older)) (more ++ older) ≡ oldest (length env) more ++ older
oldest-same env more older l =
    let long = longer-length env more l in
    let skipped : length (more ++ older) - length (env ++ older) ≡ length more - length env =
    omega (arith, long, length-append more older, length-append env older) in
    rw skipped (drop-append-le (length more - length env) more older (omega (arith, long)))

-- the names after a scope are those before it, however it ends
scope-leaves : (loop : Bool) (ns : List Name) (P : End → List Name → Type 0) (part : Next) → Leaves loop ns P part → Leaves loop ns (These ns) (scope part)
scope-leaves loop ns P part h r is =
    let p = h r is in
    let q = (part r).0 in
    let same = oldest-names r.env q.env p.0 in (
      ([], same),
      p.1,
      λ older. ap (scoped (length (r.env ++ older))) (p.2 older) ∙ ap (λ env. (record q { env = env }, (part r).1)) (oldest-same r.env q.env older p.0),
      same ∙ is,
    )

-- ---- actions

-- the names that a header assigns and uses are there
record Known (h : Header) (ns : List Name) : Type 0 where
  start : is_among ns [] ≡ true
  assigns : are_among ns (assigned_by h.binding) ≡ true
  uses : are_among ns (used_by h.pipeline) ≡ true

known-in : (h : Header) (ns : List Name) → are_among ns (names_of h).uses ≡ true → Known h (full ns)
known-in h ns e =
    let p = and_parts (are_among (full ns) (assigned_by h.binding)) (are_among (full ns) (used_by h.pipeline))
    (sym (list_all-append (is_among (full ns)) (assigned_by h.binding) (used_by h.pipeline)) ∙ all-full ns (names_of h).uses e) in
    record { start = start-full ns; assigns = p.0; uses = p.1 }

-- a part after a binding
bind-leaves : (loop : Bool) (ns : List Name) (P : End → List Name → Type 0) (b : Binding) (e : Element) (part : Next) → is_among ns [] ≡ true
    → are_among ns (assigned_by b) ≡ true → Leaves loop (declared_to b ns) P part → Leaves loop ns P (λ r. part (with_bound b e r))
bind-leaves loop ns P b e part start assigns h r is =
    let beyond = bind-names b e r.env in
    let k = h (with_bound b e r) (rw beyond (ap (declared_to b) is)) in (
      longer-on r.env (bind b e r.env) (part (with_bound b e r)).0.env (by b beyond) k.0,
      k.1,
      λ older. ap (λ env. part (record r { env = env })) (bind-same b e r.env older (rw is start) (rw is assigns)) ∙ k.2 older,
      k.3,
    )
  where
    by : (c : Binding) → names (bind b e r.env) ≡ declared_to c (names r.env) → Longer r.env (bind b e r.env)
    by (declare name) h = (name ∷ [], h)
    by (declare_pair key name) h = (name ∷ key ∷ [], h)
    by _ h = ([], h)

show-leaves : (loop : Bool) (ns : List Name) (b : Binding) (v : Value) → is_among ns [] ≡ true → are_among ns (assigned_by b) ≡ true
    → Leaves loop ns (Done (declared_to b ns)) (show b v)
show-leaves loop ns unbound v start assigns = λ r is. (([], refl), λ e. tt, λ older. refl, λ d. is)
show-leaves loop ns b v start assigns =
    bind-leaves loop ns (Done (declared_to b ns)) b (without_key v) (λ r. (r, done)) start assigns
    (at_once loop (declared_to b ns) (Done (declared_to b ns)) done (λ e. tt) (λ d. refl))

-- ---- controls

one_of-leaves : (loop : Bool) (ns : List Name) (b : Bool) (body other : Next) → Leaves loop ns Any body → Leaves loop ns Any other
    → Leaves loop ns Any (one_of b body other)
one_of-leaves loop ns true body other p q = p
one_of-leaves loop ns false body other p q = q

choosing-leaves : (s : Setting) (line : ℕ) (h : Header) (d : Value) (loop : Bool) (ns : List Name) (body : Value → Next) (other : Next) → Known h ns
    → ((v : Value) → Leaves loop (declared_to h.binding ns) Any (body v)) → Leaves loop (declared_to h.binding ns) Any other
    → Leaves loop ns Any (choosing s line h d body other)
choosing-leaves s line h d loop ns body other known p q =
    with_pipeline-leaves loop ns Any (λ f. tt) s line h.pipeline d (λ v r. one_of (truth v) (body v) other (with_bound h.binding (without_key v) r))
    known.start known.uses (λ v. bind-leaves loop ns Any h.binding (without_key v) (one_of (truth v) (body v) other) known.start known.assigns
    (one_of-leaves loop (declared_to h.binding ns) (truth v) (body v) other (p v) q))

-- what goes on after one element, whatever it ends in
after_turn-leaves : (ns : List Name) (part go : Next) → Leaves true ns (These ns) part → Leaves false ns (These ns) go
    → Leaves false ns (These ns) (λ q. after_turn (part q) go)
after_turn-leaves ns part go h g r is =
    let p = h r is in
    let k = by (part r).0 (part r).1 p.0 p.3 in (k.0, k.1, λ older. ap (λ (x : Run × End). after_turn x go) (p.2 older) ∙ k.2 older, k.3)
  where
    by : (q : Run) (end : End) → Longer r.env q.env → names q.env ≡ ns
        → Longer r.env (on_turn end q go).0.env × (false ≡ false → IsOver (on_turn end q go).1)
        × ((older : Environment) → on_turn end (with_older older q) go ≡ (with_older older (on_turn end q go).0, (on_turn end q go).1))
        × These ns (on_turn end q go).1 (names (on_turn end q go).0.env)
    by q broke l n = (l, λ e. tt, λ older. refl, n)
    by q (faulted f) l n = (l, λ e. tt, λ older. refl, n)
    by q _ l n = let k = g q n in (longer-on r.env q.env (go q).0.env l k.0, k.1, k.2, k.3)

module _ (s : Setting) (line : ℕ) (h : Header) (d : Value) (ns : List Name) (known : Known h ns) (body : Value → Next) where
  turns-leave : ((v : Value) → Leaves true (declared_to h.binding ns) Any (body v)) → (es : List Element)
      → Leaves false ns (These ns) (turns s line h.binding body es)
  turns-leave p [] = at_once false ns (These ns) done (λ e. tt) refl
  turns-leave p (e ∷ es) =
      let inner = bind-leaves true ns Any h.binding e (body e.1) known.start known.assigns (p e.1) in
      let part : Next = scope (λ r. body e.1 (with_bound h.binding e r)) in
      after_turn-leaves ns (turn s line h.binding body e) (turns s line h.binding body es)
      (spend-leaves true ns (These ns) (λ f. refl) s line part (scope-leaves true ns Any _ inner)) (turns-leave p es)

  over-leaves : (loop : Bool) (other : Next) → ((v : Value) → Leaves true (declared_to h.binding ns) Any (body v)) → Leaves loop ns Any other
      → (es : Option (List Element)) → Leaves loop ns Any (over s line h.binding body other es)
  over-leaves loop other p q None = at_once loop ns Any _ (λ e. tt) tt
  over-leaves loop other p q (Some []) = q
  over-leaves loop other p q (Some (e ∷ es)) = weaker loop false ns (These ns) Any _ (λ f. refl) (λ end left h. tt) (turns-leave p (e ∷ es))

  controlled-leaves : (c : Control) (loop : Bool) (other : Next) → ((v : Value) → Leaves (is_looped c loop) (declared_to h.binding ns) Any (body v))
      → Leaves loop (else_scope c h.binding ns) Any other → Leaves loop ns Any (controlling s line c h d body other)
  controlled-leaves control.If loop other p q = choosing-leaves s line h d loop ns (λ v. body d) other known (λ v. p d) q
  controlled-leaves control.With loop other p q = choosing-leaves s line h d loop ns body other known p q
  controlled-leaves control.Range loop other p q =
      with_pipeline-leaves loop ns Any (λ f. tt) s line h.pipeline d (λ v. over s line h.binding body other (elements_visited h.binding v)) known.start known.uses
      (λ v. over-leaves loop other p q (elements_visited h.binding v))

-- ---- calls

-- what names call ends where it began, whatever names there are
abbrev Ends : (Value → Next) → Type 0
Ends go = (v : Value) (ns : List Name) → Leaves false ns (These ns) (go v)

abbrev CallsEnd : Calls → Type 0
CallsEnd calls = (name : List ℕ) → IfOk (calls name) Ends

module _ (s : Setting) (line : ℕ) (given : Option Pipeline) (d : Value) (loop : Bool) (ns : List Name) (start : is_among ns [] ≡ true)
    (known : are_among ns (names_given given).uses ≡ true) where
  handing-leaves : (go : Value → Next) → Ends go → Leaves loop ns (Done ns) (handing s line given d go)
  handing-leaves go h = by given known
    where
      ends : (v : Value) → Leaves loop ns (Done ns) (go v)
      ends v = weaker loop false ns (These ns) (Done ns) (go v) (λ f. refl) (λ end left h f. h) (h v ns)

      by : (g : Option Pipeline) → are_among ns (names_given g).uses ≡ true → Leaves loop ns (Done ns) (handing s line g d go)
      by None known = ends nothing
      by (Some p) known = with_pipeline-leaves loop ns (Done ns) (λ f e. absurd e) s line p d go start known ends

  handed : (t : Result (Value → Next) Cause) → IfOk t Ends → IfOk t (λ go. Leaves loop ns (Done ns) (handing s line given d go))
  handed (Ok go) h = handing-leaves go h
  handed (Err cause) h = tt

-- ---- nodes

else-full : (c : Control) (b : Binding) (ns : List Name) → else_scope c b (full ns) ≡ full (else_scope c b ns)
else-full control.Range b ns = refl
else-full _ b ns = declared-full b ns

module _ (s : Setting) (calls : CallsEnd s.calls) where
  mutual
    stepped-leaves : (line : ℕ) (n : NodeKind) (d : Value) (ns : List Name) (loop : Bool) (levels : ℕ) → is_formed n ns loop levels ≡ true
        → Leaves loop (full ns) (Done (full (scope_after n ns))) (stepped s line n d)
    stepped-leaves line (text bytes) d ns loop levels e = λ r is. (([], refl), λ f. tt, λ older. refl, λ f. is)
    stepped-leaves line (action h) d ns loop levels e =
        let known = known-in h ns e in
        with_pipeline-leaves loop (full ns) (Done (full (declared_to h.binding ns))) (λ f e. absurd e) s line h.pipeline d (show h.binding)
        known.start known.uses
        (λ v. subst (λ left. Leaves loop (full ns) (Done left) (show h.binding v)) (declared-full h.binding ns)
        (show-leaves loop (full ns) h.binding v known.start known.assigns))
    stepped-leaves line (control_node c h body other) d ns loop levels e =
        let parts = control-formed c h body other ns loop levels e in
        let in_body = declared_to h.binding ns in
        let in_other = else_scope c h.binding ns in
        weaker loop loop (full ns) (These (full ns)) (Done (full ns)) _ (λ f. f) (λ end left h f. h)
        (scope-leaves loop (full ns) Any (controlling s line c h d (λ v. meanings s body v) (meanings s other d))
        (controlled-leaves s line h d (full ns) (known-in h ns parts.uses) (λ v. meanings s body v) c loop (meanings s other d)
        (λ v. rw (declared-full h.binding ns) (any (is_looped c loop) (full in_body) (Done (full (scope_past body in_body))) (meanings s body v)
        (nodes-leave body v in_body (is_looped c loop) (levels + 1) parts.in_body)))
        (rw (else-full c h.binding ns) (any loop (full in_other) (Done (full (scope_past other in_other))) (meanings s other d)
        (nodes-leave other d in_other loop (levels + 1) parts.in_other)))))
    stepped-leaves line break_node d ns loop levels e = at_once loop (full ns) (Done (full ns)) broke (λ f. absurd (false≢true (sym f ∙ e))) (λ f. absurd f)
    stepped-leaves line continue_node d ns loop levels e =
        at_once loop (full ns) (Done (full ns)) continued (λ f. absurd (false≢true (sym f ∙ e))) (λ f. absurd f)
    stepped-leaves line (template_node name given) d ns loop levels e =
        with_value-leaves loop (full ns) (Done (full ns)) (λ f e. absurd e) s line (s.calls name) (handing s line given d)
        (handed s line given d loop (full ns) (start-full ns) (all-full ns (names_given given).uses e) (s.calls name) (calls name))

    nodes-leave : (ms : Nodes) (d : Value) (ns : List Name) (loop : Bool) (levels : ℕ) → are_formed ms ns loop levels ≡ true
        → Leaves loop (full ns) (Done (full (scope_past ms ns))) (meanings s ms d)
    nodes-leave tree.none d ns loop levels e = at_once loop (full ns) (Done (full ns)) done (λ f. tt) (λ f. refl)
    nodes-leave (tree.then line n ms) d ns loop levels e =
        let p = and_parts (is_formed n ns loop levels) (are_formed ms (scope_after n ns) loop levels) e in
        let beyond = scope_after n ns in
        after-leaves loop (full ns) (full beyond) (full (scope_past ms beyond)) (spend s line (stepped s line n d)) (meanings s ms d)
        (spend-leaves loop (full ns) (Done (full beyond)) (λ f e. absurd e) s line (stepped s line n d) (stepped-leaves line n d ns loop levels p.0))
        (nodes-leave ms d beyond loop levels p.1)

-- ---- calls of a set

left-over : (end : End) → IsOver (left_by end)
left-over done = tt
left-over _ = tt

called-end : (rules : Rules) (calls : Calls) (name : List ℕ) (t : Option Tree) → IfOk (run_called rules calls name t) Ends
called-end rules calls name None = tt
called-end rules calls name (Some t) =
    λ v ns r is. (([], refl), λ e. left-over (meanings (setting_of rules calls name t) t.nodes v (record r { env = ([], v) ∷ [] })).1, λ older. refl, is)

uncalled-end : (rules : Rules) (name : List ℕ) (t : Option Tree) → IfOk (uncalled rules name t) Ends
uncalled-end rules name None = tt
uncalled-end rules name (Some t) = tt

calls-end : (rules : Rules) (set : List Template) (depth : ℕ) → CallsEnd (calls_within rules set depth)
calls-end rules set zero name = uncalled-end rules name (tree_named name set)
calls-end rules set (suc depth) name = called-end rules (calls_within rules set depth) name (tree_named name set)

-- ---- the law

pub finds-names : FindsNames
finds-names rules set depth name t ns scope loop levels d r e same =
    (nodes-leave (setting_of rules (calls_within rules set depth) name t) (calls-end rules set depth) ns d scope loop levels e r same).2

pub ends-in-range : EndsInRange
ends-in-range rules set depth name t ns scope levels d r e same =
    (nodes-leave (setting_of rules (calls_within rules set depth) name t) (calls-end rules set depth) ns d scope false levels e r same).1 refl

pub stays-in-scope : StaysInScope
stays-in-scope rules set depth name t ns scope loop levels d r e same ended =
    (nodes-leave (setting_of rules (calls_within rules set depth) name t) (calls-end rules set depth) ns d scope loop levels e r same).3
    (subst IsDone (sym ended) tt)
