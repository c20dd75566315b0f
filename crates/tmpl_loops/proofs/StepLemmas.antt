-- For the law `copies`: what is done by the byte, in the run and as a `Turn`.
use Rattle.std.proofs.Common.{◌≡◌, ◌∙◌, ◌-◌, ◌++◌, ℕ, nat_eq, Bool, true, false, List, [], length, drop, Option, Some, None, Result, Ok, Err}
use Rattle.std.proofs.Common.{refl, sym, subst, ap, pos, append_assoc, append-nil, if◌then◌else◌}
use Rattle.std.proofs.lemmas.Bool.{and_parts}
use Rattle.std.proofs.lemmas.Slice.Eq.{bytes_eq-Decides}
use Rattle.std.specs.Prelude.{◌&&◌, bytes_eq}
use Rattle.std.specs.Result.{result_map_both}
use Rattle.tmpl_values.specs.Value.{Value, number, string}
use Rattle.tmpl_values.specs.Text.{text_of}
use Rattle.tmpl_values.specs.Truth.{truth}
use Rattle.tmpl_funcs.specs.Slice.{slice_between}
use Rattle.tmpl_funcs.specs.declared.func.Func.TheVariants.{Slice}
use Rattle.tmpl_funcs.specs.declared.fault.CallFault.{CallFault}
use Rattle.tmpl_grammar.specs.Tree.{Binding, Header, Pipeline, assign, declare, declare_pair, unbound, no_command}
use Rattle.tmpl_grammar.specs.declared.tree.Control.{Control}
use Rattle.tmpl_grammar.specs.declared.tree.Control.TheVariants as control
use Rattle.tmpl_syntax.specs.Tree as tree
use Rattle.tmpl_syntax.specs.Tree.{NodeKind, Nodes, action, break_node, continue_node, control_node, template_node}
use Rattle.tmpl_meaning.specs.Fault.{Cause, Fault, call_failed, no_template, steps_spent}
use Rattle.tmpl_meaning.specs.Pipeline.{Environment, Place, commands_value, given_then, lookup, without_null}
use Rattle.tmpl_meaning.specs.Meaning.{End, Next, Parts, Run, Setting, broke, continued, control_run, done, faulted, meanings, scope, show, spend, stepped, with_pipeline, with_value}
use Rattle.tmpl_meaning.proofs.PartLemmas.{handing, on_end, spend_if}
use Rattle.tmpl_loops.specs.Form.{Turn, acting, after_node, after_nodes, branching, choosing, going, going_on, is_slicing, is_yes, lone, Loop, Names, AreApart}
use Rattle.tmpl_loops.specs.Form.{keeping, kept_bytes, putting, refused, showing, stopped}
use Rattle.tmpl_loops.proofs.TestLemmas.{slicing-is, yes-is}
use Rattle.tmpl_loops.proofs.StateLemmas as st
use Rattle.tmpl_loops.proofs.RunLemmas.{Are, Ends, Faults, after-faults, at, scope-does, value-ends}

module _ (May : Cause → Type 0) (spent : (n : ℕ) → May (steps_spent n)) (s : Setting) (c : Loop) (constants : Environment) (bytes : List ℕ) (given : Value) (apart : AreApart c constants) where
  abbrev n : Names
  n = c.names

  module _ (b i f : ℕ) (t0 kept : List ℕ) (d : Value) (sliced : slice_between (string bytes) (Some (number (pos f))) (Some (number (pos i))) ≡ Ok (string kept))
      (value : Pipeline → Option Value) (values : (anew : Bool) (p : Pipeline) (v : Value) → value p ≡ Some v
      → (commands_value (record { missing_key = s.rules.missing_key; dot = d; env = st.at_byte c constants bytes given apart b i anew f }) p None).result ≡ Ok v) where
    abbrev at_byte : ℕ → ℕ → Bool → ℕ → Environment
    at_byte = st.at_byte c constants bytes given apart

    abbrev pub way_text : Option (List ℕ) → List ℕ
    way_text None = t0
    way_text (Some t) = (t0 ++ kept) ++ t

    -- a run has come as far as a turn
    abbrev pub Good : Turn → Run × End → Type 0
    Good (going put anew) x = Ends May spent (Are May spent (at_byte b i anew f) (way_text put)) x
    Good (stopped name) x = s.calls name ≡ Err (no_template name) → May (no_template name) → Faults May spent x.1
    Good refused x = Unit {0}

    good-at-faults : (t : Turn) (r : Run) (f : Fault) → May f.cause → Good t (r, faulted f)
    good-at-faults (going put anew) r f h = h
    good-at-faults (stopped name) r f h = λ e m. h
    good-at-faults refused r f h = tt

    spend-good : (t : Turn) (line : ℕ) (go : Next) (r : Run) → ((left : ℕ) → Good t (go (record r { left = left }))) → Good t (spend s line go r)
    spend-good t line go r h = by (nat_eq r.left 0)
      where
        by : (b : Bool) → Good t (spend_if b s line go r)
        by true = good-at-faults t r _ (spent s.rules.step_limit)
        by false = h (r.left - 1)

    on-good : (t : Turn) (next : Option (List ℕ) → Bool → Turn) (r : Run) (end : End) (go : Next) → Good t (r, end)
        → ((put : Option (List ℕ)) (anew : Bool) (left : ℕ) (made : Bool) → Good (next put anew) (go (at (at_byte b i anew f) (way_text put) left made)))
        → Good (going_on t next) (on_end end r go)
    on-good (going put anew) next r done go h g =
        subst (λ (q : Run). Good (next put anew) (go q)) (λ j. at (sym h.0 j) (sym h.1 j) r.left r.made_text) (g put anew r.left r.made_text)
    on-good (going put anew) next r (faulted x) go h g = good-at-faults (next put anew) r x h
    on-good (going put anew) next r broke go h g = absurd h
    on-good (going put anew) next r continued go h g = absurd h
    on-good (stopped name) next r end go h g = λ e m. after-faults May spent r end go (h e m)
    on-good refused next r end go h g = tt

    value-good : (t : Turn) (line : ℕ) (x : Result Value Cause) (v : Value) (go : Value → Next) (r : Run) → x ≡ Ok v → Good t (go v r)
        → Good t (with_value s line x go r)
    value-good t line x v go r is h = subst (λ (x : Result Value Cause). Good t (with_value s line x go r)) (sym is) h

    scope-good : (t : Turn) (part : Next) (anew : Bool) (text : List ℕ) (left : ℕ) (made : Bool) → Good t (part (at (at_byte b i anew f) text left made))
        → Good t (scope part (at (at_byte b i anew f) text left made))
    scope-good (going put new) part anew text left made h =
        scope-does May spent (Are May spent (at_byte b i new f) (way_text put)) (Are May spent (at_byte b i new f) (way_text put)) part
        (at (at_byte b i anew f) text left made) (λ env t is. (ap (λ (e : Environment). drop (length e - length (at_byte b i anew f)) e) is.0 ∙ st.cut-at c constants bytes given apart b i new anew f f, is.1)) h
    scope-good (stopped name) part anew text left made h = h
    scope-good refused part anew text left made h = tt

    -- {{slice $text $from $i}}
    abbrev gives : Place → Result Value CallFault → Result Value Cause
    gives p r = (given_then (record { result = result_map_both (λ v. v) (call_failed Slice) r; made_text = false }) (λ v. commands_value p no_command (Some (without_null v)))).result

    slice-value : (p : Place) → lookup n.text p.env ≡ string bytes → lookup n.from p.env ≡ number (pos f) → lookup n.index p.env ≡ number (pos i)
        → gives p (slice_between (lookup n.text p.env) (Some (lookup n.from p.env)) (Some (lookup n.index p.env))) ≡ Ok (string kept)
    slice-value p text from index = (λ j. gives p (slice_between (text j) (Some (from j)) (Some (index j)))) ∙ ap (gives p) sliced

    keeps-good : (put : Option (List ℕ)) (anew : Bool) (line left : ℕ) (made : Bool)
        → Good (keeping put anew) (stepped s line (kept_bytes n) d (at (at_byte b i anew f) (way_text put) left made))
    keeps-good (Some t) anew line left made = tt
    keeps-good None anew line left made =
        value-ends May spent (Are May spent (at_byte b i anew f) ((t0 ++ kept) ++ [])) s line _ (string kept) (show unbound) _
        (slice-value (record { missing_key = s.rules.missing_key; dot = d; env = at_byte b i anew f }) (st.text-at c constants bytes given apart b i anew f)
        (st.from-at c constants bytes given apart b i anew f) (st.index-at c constants bytes given apart b i anew f)) (refl, sym (append-nil (t0 ++ kept)))

    put-good : (bs : List ℕ) (put : Option (List ℕ)) (anew : Bool) (left : ℕ) (made : Bool)
        → Good (putting bs put anew) (at (at_byte b i anew f) (way_text put ++ bs) left made, done)
    put-good bs None anew left made = tt
    put-good bs (Some t) anew left made = (refl, append_assoc (t0 ++ kept) t bs)

    choose-good : (p : Pipeline) (line : ℕ) (body other : Nodes) (t u : Turn) (put : Option (List ℕ)) (anew : Bool) (left : ℕ) (made : Bool)
        → ((left : ℕ) (made : Bool) → Good t (meanings s body d (at (at_byte b i anew f) (way_text put) left made)))
        → ((left : ℕ) (made : Bool) → Good u (meanings s other d (at (at_byte b i anew f) (way_text put) left made)))
        → Good (choosing (value p) t u)
        (stepped s line (control_node control.If (record { binding = unbound; pipeline = p }) body other) d (at (at_byte b i anew f) (way_text put) left made))
    choose-good p line body other t u put anew left made h g = by (value p) refl
      where
        either : (c : Bool) (made : Bool) → Good (if c then t else u)
            ((if c then meanings s body d else meanings s other d) (at (at_byte b i anew f) (way_text put) left made))
        either true made = h left made
        either false made = g left made

        by : (o : Option Value) → value p ≡ o → Good (choosing o t u)
            (stepped s line (control_node control.If (record { binding = unbound; pipeline = p }) body other) d (at (at_byte b i anew f) (way_text put) left made))
        by None is = tt
        by (Some v) is =
            let turn : Turn = (if truth v then t else u) in
            let parts : Parts = record { binding = unbound; body = meanings s body; other = meanings s other d } in
            let go = control_run s line control.If parts d in
            scope-good turn (with_pipeline s line p d go) anew (way_text put) left made
            (value-good turn line _ v go _ (values anew p v is) (either (truth v) _))

    -- an action, by what it is tested for
    slicing-good : (p : Pipeline) (x : Bool) → is_slicing n p ≡ x → (put : Option (List ℕ)) (anew : Bool) (line left : ℕ) (made : Bool)
        → Good (if x then keeping put anew else showing (value p) put anew)
        (stepped s line (action (record { binding = unbound; pipeline = p })) d (at (at_byte b i anew f) (way_text put) left made))
    slicing-good p true is put anew line left made =
        subst (λ (p : Pipeline). Good (keeping put anew) (stepped s line (action (record { binding = unbound; pipeline = p })) d (at (at_byte b i anew f) (way_text put) left made)))
        (sym (slicing-is n p is)) (keeps-good put anew line left made)
    slicing-good p false is put anew line left made = by (value p) refl
      where
        by : (o : Option Value) → value p ≡ o
            → Good (showing o put anew) (stepped s line (action (record { binding = unbound; pipeline = p })) d (at (at_byte b i anew f) (way_text put) left made))
        by None is = tt
        by (Some v) is = value-good (putting (text_of v) put anew) line _ v (show unbound) _
            (values anew p v is) (put-good (text_of v) put anew left _)

    -- {{$is_new = true}}
    begins-good : (name : List ℕ) (p : Pipeline) (x : Bool) → (bytes_eq n.new name && is_yes (lone p)) ≡ x → (put : Option (List ℕ)) (anew : Bool) (line left : ℕ) (made : Bool)
        → Good (if x then going put true else refused)
        (stepped s line (action (record { binding = assign name; pipeline = p })) d (at (at_byte b i anew f) (way_text put) left made))
    begins-good name p false is put anew line left made = tt
    begins-good name p true is put anew line left made =
        let q = and_parts (bytes_eq n.new name) (is_yes (lone p)) is in
        let same : name ≡ n.new = sym ((bytes_eq-Decides n.new name).0 q.0) in
        subst (λ (h : Header). Good (going put true) (stepped s line (action h) d (at (at_byte b i anew f) (way_text put) left made)))
        (λ j. record { binding = assign (sym same j); pipeline = sym (yes-is p q.1) j })
        (st.assign-new c constants bytes given apart b i anew true f, refl)

    acting-good : (bound : Binding) (p : Pipeline) (put : Option (List ℕ)) (anew : Bool) (line left : ℕ) (made : Bool)
        → Good (acting n value bound p put anew) (stepped s line (action (record { binding = bound; pipeline = p })) d (at (at_byte b i anew f) (way_text put) left made))
    acting-good unbound p put anew line left made = slicing-good p (is_slicing n p) refl put anew line left made
    acting-good (assign name) p put anew line left made = begins-good name p (bytes_eq n.new name && is_yes (lone p)) refl put anew line left made
    acting-good (declare name) p put anew line left made = tt
    acting-good (declare_pair key name) p put anew line left made = tt

    branch-good : (k : Control) (bound : Binding) (p : Pipeline) (line : ℕ) (body other : Nodes) (t u : Turn) (put : Option (List ℕ)) (anew : Bool) (left : ℕ) (made : Bool)
        → ((left : ℕ) (made : Bool) → Good t (meanings s body d (at (at_byte b i anew f) (way_text put) left made)))
        → ((left : ℕ) (made : Bool) → Good u (meanings s other d (at (at_byte b i anew f) (way_text put) left made)))
        → Good (branching k bound (choosing (value p) t u))
        (stepped s line (control_node k (record { binding = bound; pipeline = p }) body other) d (at (at_byte b i anew f) (way_text put) left made))
    branch-good control.If unbound p line body other t u put anew left made h g = choose-good p line body other t u put anew left made h g
    branch-good control.If (assign name) p line body other t u put anew left made h g = tt
    branch-good control.If (declare name) p line body other t u put anew left made h g = tt
    branch-good control.If (declare_pair key name) p line body other t u put anew left made h g = tt
    branch-good control.With bound p line body other t u put anew left made h g = tt
    branch-good control.Range bound p line body other t u put anew left made h g = tt

    mutual
      kind-good : (x : NodeKind) (put : Option (List ℕ)) (anew : Bool) (line left : ℕ) (made : Bool)
          → Good (after_node n value x put anew) (stepped s line x d (at (at_byte b i anew f) (way_text put) left made))
      kind-good (tree.text bs) put anew line left made = put-good bs put anew left made
      kind-good (action h) put anew line left made = acting-good h.binding h.pipeline put anew line left made
      kind-good (control_node k h body other) put anew line left made =
          branch-good k h.binding h.pipeline line body other (after_nodes n value body put anew) (after_nodes n value other put anew) put anew left made
          (λ left made. nodes-good body put anew left made) (λ left made. nodes-good other put anew left made)
      kind-good (template_node name given) put anew line left made = λ absent may.
          subst (λ (x : Result (Value → Next) Cause). Faults May spent (with_value s line x (handing s line given d) (at (at_byte b i anew f) (way_text put) left made)).1) (sym absent) may
      kind-good break_node put anew line left made = tt
      kind-good continue_node put anew line left made = tt

      pub nodes-good : (xs : Nodes) (put : Option (List ℕ)) (anew : Bool) (left : ℕ) (made : Bool)
          → Good (after_nodes n value xs put anew) (meanings s xs d (at (at_byte b i anew f) (way_text put) left made))
      nodes-good tree.none put anew left made = (refl, refl)
      nodes-good (tree.then line x xs) put anew left made =
          let r = at (at_byte b i anew f) (way_text put) left made in
          let q = spend s line (stepped s line x d) r in
          on-good (after_node n value x put anew) (after_nodes n value xs) q.0 q.1 (meanings s xs d)
          (spend-good (after_node n value x put anew) line (stepped s line x d) r (λ left. kind-good x put anew line left made))
          (λ put anew left made. nodes-good xs put anew left made)
