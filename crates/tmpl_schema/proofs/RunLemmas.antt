-- For the law `runs_safely`: where nodes are accepted, a run of them has no fault but those of steps and depth, and leaves the variables with the
-- shapes that are computed.
use Rattle.std.specs.Prelude.{◌++◌, ℤ, pos, not, Contains}
use Rattle.std.specs.Ordering.{int_eq}
use Rattle.std.proofs.Common.{◌⊎◌, inl, inr, rules, ◌≡◌, ◌-◌, ◌≤◌, ◌||◌, ℕ, zero, suc, nat_eq, Bool, true, false, List, [], ◌∷◌, Option, Some, None, Result, Ok, Err, IfSome, IsSome, arith, ◌+◌, length, map, ap, refl, sym, subst, ◌∙◌, if◌then◌else◌}
use Rattle.std.proofs.lemmas.Bool.{false≢true}
use Rattle.std.proofs.lemmas.Bool.Decides.{Decides-int_eq}
use Rattle.std.proofs.lemmas.Slice.Eq.{bytes_eq-Decides}
use Rattle.std.proofs.lemmas.Option.{cond_some, option_and_then_some}
use Rattle.std.specs.Option.{option_and_then, option_map, option_map_or}
use Rattle.tmpl_values.specs.Value.{Value, nothing, null, number, string, sequence, mapping, Items, no_item, item, Entries, no_entry, entry}
use Rattle.tmpl_values.specs.Elements.{Element, elements, elements_of_entries, values_of_items}
use Rattle.tmpl_values.specs.Truth.{truth}
use Rattle.tmpl_values.specs.Compare.{is_nothing}
use Rattle.tmpl_values.specs.Field.{entry_at}
use Rattle.std.specs.List.{enumerate_from}
use Rattle.std.specs.Str.{bytes_eq}
use Rattle.tmpl_grammar.specs.Tree.{Pipeline, Binding, unbound, declare_pair, Header}
use Rattle.tmpl_grammar.specs.declared.tree.Control.{Control}
use Rattle.tmpl_grammar.specs.declared.tree.Control.TheVariants as control
use Rattle.tmpl_syntax.specs.Tree as tree
use Rattle.tmpl_syntax.specs.Tree.{NodeKind, Nodes, Tree, text, action, control_node, template_node}
use Rattle.tmpl_syntax.specs.Set.{Template, tree_named}
use Rattle.tmpl_meaning.specs.Fault.{Cause, no_template, steps_spent}
use Rattle.tmpl_meaning.specs.Meaning.{Calls, End, Next, Rules, Run, Setting, broke, continued, calls_within, done, fault_of, faulted}
use Rattle.tmpl_meaning.specs.Meaning.{meanings, scope, setting_of, show, spend, stepped, turns, elements_visited, with_bound, with_pipeline, with_value}
use Rattle.tmpl_meaning.specs.Pipeline.{Environment, commands_value}
use Rattle.tmpl_meaning.specs.declared.missing_key.MissingKey.{MissingKey}
use Rattle.tmpl_meaning.proofs.PartLemmas.{controlled, handing, left_by, on_end, on_turn, one_of, over, run_called, scoped, spend_if, turn, uncalled, without_key}
use Rattle.tmpl_shape.specs.Shape.{Shape, nothings, texts, HasShape, Names}
use Rattle.tmpl_schema.specs.Safe.{MayEnd}
use Rattle.tmpl_shape.specs.computed.Means.{Means}
use Rattle.tmpl_shape.specs.computed.Shapes.{Base, within, fill, Visit, visit_of}
use Rattle.tmpl_schema.specs.computed.Check.{After, Known, State, Callee, handed, absent, past, Table, Checked, last_of, all_within, join_all, join_left, settle_known, settle_soon, leave_with, with_left}
use Rattle.tmpl_schema.specs.computed.Check.{holds_loop, dot_in, in_body, in_part, after_choice, at_head, in_turn, turn_known, after_range, after_call, after_control, after_node, after_nodes}
use Rattle.tmpl_schema.specs.declared.flow.FallThrough.{FallThrough}
use Rattle.tmpl_schema.specs.declared.flow.FallThrough.TheVariants.{Both, Body, Other}
use Rattle.tmpl_schema.specs.computed.Check.{after_parts, end_parts, dot_after, dot_by, is_absent, diverges, any_diverges, fall_through, past_parts}
use Rattle.tmpl_schema.specs.computed.Check.{Origin, key_tie, pipeline_origin, pipeline_shape, narrow, bind_value, bound_shapes, at_start, is_safe}
use Rattle.tmpl_schema.specs.computed.Safe.{IsAccepted, IsCallee, IsChecked}
use Rattle.tmpl_loops.specs.Form.{Loop, Turn, stopped, turn_of}
use Rattle.tmpl_loops.specs.Law.{EndsWith, IsLoop, IsTurn, MayFault, copied_by}
use Rattle.tmpl_loops.proofs.CopyLemmas.{calls_copy}
use Rattle.tmpl_schema.proofs.LoopLemmas.{found-loop}
use Rattle.tmpl_shape.proofs.ShapeLemmas.{within-has}
use Rattle.tmpl_schema.proofs.FieldLemmas.{Gives, Each, IsVisit, Visits, fill-has, visit-gives}
use Rattle.tmpl_schema.proofs.VariableLemmas.{above-zero, HasKnown, Fits, place, known-length, last-known, last-last, within-known, joined-has, both-known, bound-known, value-known}
use Rattle.tmpl_schema.proofs.VariableLemmas.{pipeline-gives, pipeline-has, narrow-fits}
use Rattle.tmpl_schema.proofs.OriginLemmas.{HasOrigin, HasTie, IsKeyOf, at-root, key-tied}

mapped_some : {A B : Type 0} → (o : Option A) (t : A → B) (y : B) → option_map t o ≡ Some y → (x : A) × (o ≡ Some x) × (t x ≡ y)
mapped_some None t y e = cc
mapped_some (Some x) t y e = (x, refl, cc)

-- what has an element is not empty
elements-true : (v : Value) (e : Element) (es : List Element) → elements v ≡ Some (e ∷ es) → truth v ≡ true
elements-true (number z) e es is = by (int_eq z (pos 0)) refl
  where
    by : (b : Bool) → int_eq z (pos 0) ≡ b → not b ≡ true
    by true q =
        let none : elements (number (pos 0)) ≡ Some (e ∷ es) =
        subst (λ (i : ℤ). elements (number i) ≡ Some (e ∷ es)) ((Decides-int_eq z (pos 0)).0 q) is in cc
    by false q = refl
elements-true (sequence (item v vs)) e es is = above-zero (length (values_of_items vs))
elements-true (mapping (entry x v xs)) e es is = above-zero (length (elements_of_entries xs))
elements-true _ e es is = cc

visited-true : (b : Binding) (v : Value) (e : Element) (es : List Element) → elements_visited b v ≡ Some (e ∷ es) → truth v ≡ true
visited-true (declare_pair key name) (number n) e es is = cc
visited-true _ v e es is = elements-true v e es is

-- ---- indexes and keys

abbrev AllKeys : Value → List Element → Type 0
AllKeys v [] = Unit {0}
AllKeys v (e ∷ es) = IsKeyOf v e.0 × AllKeys v es

abbrev AreKeys : Value → Option (List Element) → Type 0
AreKeys v None = Unit {0}
AreKeys v (Some es) = AllKeys v es

key-there : (v x : Value) → IsKeyOf v x → is_nothing v ≡ false
key-there nothing x h = absurd h
key-there null x h = absurd h
key-there _ x h = refl

count-keys : (n : ℤ) (is : List ℕ) → AllKeys (number n) (map (λ i. (number (pos i), number (pos i))) is)
count-keys n [] = tt
count-keys n (i ∷ is) = (tt, count-keys n is)

item-keys : (all vs : Items) (j : ℕ) → j + length (values_of_items vs) ≤ length (values_of_items all)
    → AllKeys (sequence all) (map (λ p. (number (pos p.0), p.1)) (enumerate_from j (values_of_items vs)))
item-keys all no_item j h = tt
item-keys all (item v vs) j h = (omega (arith, h), item-keys all vs (j + 1) (omega (arith, h)))

entry-keys : (all es : Entries) → ((k : List ℕ) → IsSome (entry_at k es) → IsSome (entry_at k all)) → AllKeys (mapping all) (elements_of_entries es)
entry-keys all no_entry f = tt
entry-keys all (entry k v es) f = (f k (first (bytes_eq k k) ((bytes_eq-Decides k k).1 refl)), entry-keys all es (λ n h. f n (more (bytes_eq k n) n h)))
  where
    first : (b : Bool) → b ≡ true → IsSome (if b then Some v else entry_at k es)
    first true e = refl
    first false e = absurd (false≢true e)

    more : (b : Bool) (n : List ℕ) → IsSome (entry_at n es) → IsSome (if b then Some v else entry_at n es)
    more true n h = refl
    more false n h = h

visited-keys : (b : Binding) (v : Value) → AreKeys v (elements_visited b v)
visited-keys (declare_pair key name) (number n) = tt
visited-keys _ (number n) = count-keys n _
visited-keys _ (sequence vs) = item-keys vs vs 0 (omega arith)
visited-keys _ (mapping es) = entry-keys es es (λ k h. h)
visited-keys _ _ = tt

module _ (base : Base) (N : Names) (means : Means base.defs N) (stops : List (List ℕ)) where
  -- ---- calls

  abbrev IsQuiet : End → Type 0
  IsQuiet done = Unit {0}
  IsQuiet (faulted f) = MayEnd stops f.cause
  IsQuiet end = ⊥

  -- a call with a value of the shape leaves the variables, and has no other fault
  abbrev CallHas : Shape → Result (Value → Next) Cause → Type 0
  CallHas sh (Ok go) = (v : Value) → HasShape N sh v → (r : Run) → ((go v r).0.env ≡ r.env) × IsQuiet (go v r).1
  CallHas sh (Err cause) = MayEnd stops cause

  -- .. and so has that of a callee
  abbrev CalleeHas : Callee → Result (Value → Next) Cause → Type 0
  CalleeHas (handed sh) x = CallHas sh x
  CalleeHas absent (Ok go) = ⊥
  CalleeHas absent (Err cause) = MayEnd stops cause

  abbrev CallsHave : Table → Calls → Type 0
  CallsHave table calls = (name : List ℕ) (c : Callee) → table name ≡ Some c → CalleeHas c (calls name)

module _ (base : Base) (N : Names) (means : Means base.defs N) (stops : List (List ℕ)) (top : Value) where
  -- ---- ends

  -- at a break or continue the variables that were there at the head of the range are those with which it is left
  abbrev InLoop : Option Known → Option Known → Environment → Type 0
  InLoop (Some head) (Some ls) env = (HasKnown base N means top) ls (last_of (length head) env)
  InLoop loop left env = ⊥

  abbrev EndsSo : Option Known → After → End → Environment → Type 0
  EndsSo loop a done env = (HasKnown base N means top) a.env env
  EndsSo loop a (faulted f) env = MayEnd stops f.cause
  EndsSo loop a _ env = InLoop loop a.left env

  abbrev Ends : Option Known → After → Run × End → Type 0
  Ends loop a q = EndsSo loop a q.1 q.0.env

  -- where a range is left is among what is joined with it
  left-joined : (loop left more all : Option Known) → join_left base left more ≡ Some all → (env : Environment) → InLoop loop left env ⊎ InLoop loop more env → InLoop loop all env
  left-joined None left more all e env h = elim h [ inl x ↦ absurd x | inr x ↦ absurd x ]
  left-joined (Some head) None more all e env (inl x) = absurd x
  left-joined (Some head) None more all e env (inr x) = let same : more ≡ all = cc in subst (λ (y : Option Known). InLoop (Some head) y env) same x
  left-joined (Some head) (Some ks) None all e env (inl x) = let same : Some ks ≡ all = cc in subst (λ (y : Option Known). InLoop (Some head) y env) same x
  left-joined (Some head) (Some ks) None all e env (inr x) = absurd x
  left-joined (Some head) (Some ks) (Some ls) all e env h =
      let p = mapped_some (join_all base ks ls) (λ js. Some js) all e in
      subst (λ (y : Option Known). InLoop (Some head) y env) p.2 ((joined-has base N means top) ks ls p.0 (last_of (length head) env) p.1 h)

  -- what two parts come to
  ends-of : (w : FallThrough) (rs : Known) (a b out : After) → end_parts base w rs a b ≡ Some out
      → (after_parts base w rs a.env b.env ≡ Some out.env) × (join_left base a.left b.left ≡ Some out.left)
  ends-of w rs a b out e =
      option_and_then_some _ (after_parts base w rs a.env b.env) out e (λ ks isk rest.
      let p = mapped_some (join_left base a.left b.left) (λ ls. record { env = ks; left = ls }) out rest in
      (isk ∙ ap (λ (x : After). Some x.env) p.2, p.1 ∙ ap (λ (x : After). Some x.left) p.2))

  spend-ends : (loop : Option Known) (a : After) (s : Setting) (line : ℕ) (go : Next) (r : Run) → ((left : ℕ) → Ends loop a (go (record r { left = left })))
      → Ends loop a (spend s line go r)
  spend-ends loop a s line go r h = by (nat_eq r.left 0)
    where
      by : (b : Bool) → Ends loop a (spend_if b s line go r)
      by true = tt
      by false = h (r.left - 1)

  after-ends : (loop : Option Known) (middle out : After) (go : Next) (q : Run) (end : End) → (InLoop loop middle.left q.env → InLoop loop out.left q.env)
      → (end ≡ done → (HasKnown base N means top) middle.env q.env → Ends loop out (go q)) → EndsSo loop middle end q.env → Ends loop out (on_end end q go)
  after-ends loop middle out go q done kept h e = h refl e
  after-ends loop middle out go q (faulted f) kept h e = e
  after-ends loop middle out go q _ kept h e = kept e

  loop-length : (head : Known) (ks : Known) → holds_loop (Some head) ks ≡ true → length head ≤ length ks
  loop-length head ks h = search rules

  -- .. also in a scope that is ended
  in-scope : (head : Known) (left : Option Known) (env0 env : Environment) → length head ≤ length env0 → InLoop (Some head) left env
      → InLoop (Some head) left (last_of (length env0) env)
  in-scope head None env0 env few h = absurd h
  in-scope head (Some ls) env0 env few h = rw ((last-last base N means top) (length head) (length env0) env few) h

  -- after a part whose variables last to its end
  scope-ends : (loop : Option Known) (ks : Known) (inner out : After) (env0 : Environment) → (HasKnown base N means top) ks env0 → holds_loop loop ks ≡ true
      → (end : End) (env : Environment) → ((e : Environment) → InLoop loop inner.left e → InLoop loop out.left e)
      → (end ≡ done → (e : Environment) → (HasKnown base N means top) (last_of (length ks) inner.env) e → (HasKnown base N means top) out.env e)
      → EndsSo loop inner end env → EndsSo loop out end (last_of (length env0) env)
  scope-ends loop ks inner out env0 k holds done env kept f e =
      f refl _ (subst (λ (n : ℕ). (HasKnown base N means top) (last_of (length ks) inner.env) (last_of n env)) ((known-length base N means top) ks env0 k)
      ((last-known base N means top) (length ks) inner.env env e))
  scope-ends loop ks inner out env0 k holds (faulted c) env kept f e = e
  scope-ends None ks inner out env0 k holds _ env kept f e = absurd e
  scope-ends (Some head) ks inner out env0 k holds _ env kept f e =
      in-scope head out.left env0 env (subst (λ (n : ℕ). length head ≤ n) ((known-length base N means top) ks env0 k) (loop-length head ks holds)) (kept env e)

  -- ---- pipelines

  -- what holds of going on with the pipeline's value holds of the pipeline
  pipeline-all : (P : Run × End → Type 0) (s : Setting) (line : ℕ) (p : Pipeline) (d : Value) (go : Value → Next) (k : State) (sh : Shape) (r : Run)
      → (Fits base N means top) k d r.env → pipeline_shape base s.rules.missing_key k p ≡ Some sh
      → ((v : Value) (made : Bool) → (commands_value ((place base N means top) s.rules.missing_key d r.env) p None).result ≡ Ok v → HasShape N sh v
      → P (go v (record r { made_text = made }))) → P (with_pipeline s line p d go r)
  pipeline-all P s line p d go k sh r fits is h =
      let g = commands_value ((place base N means top) s.rules.missing_key d r.env) p None in
      by g.result refl (subst (λ (o : Option Shape). (Gives base N means) o g.result) is ((pipeline-gives base N means top) s.rules.missing_key k d r.env fits p))
    where
      by : (x : Result Value Cause) → (commands_value ((place base N means top) s.rules.missing_key d r.env) p None).result ≡ x → (Gives base N means) (Some sh) x
          → P (with_value s line x go (record r { made_text = r.made_text || (commands_value ((place base N means top) s.rules.missing_key d r.env) p None).made_text }))
      by (Ok v) e g = h v _ e g
      by (Err cause) e g = absurd g

  -- ---- controls

  -- what is computed of a part holds of it
  abbrev PartHas : Option Known → Checked → (Value → Next) → Type 0
  PartHas loop f go = (k : State) (out : After) → f k ≡ Some out → (d : Value) (r : Run) → (Fits base N means top) k d r.env → Ends loop out (go d r)

  abbrev dot_value : Control → Value → Value → Value
  dot_value control.With v d = v
  dot_value c v d = d

  dot-has : (c : Control) (s t : Shape) (v d : Value) → HasShape N s v → HasShape N t d → HasShape N (dot_in c s t) (dot_value c v d)
  dot-has control.With s t v d h g = h
  dot-has _ s t v d h g = g

  dot-from : (c : Control) (o p : Origin) (v d : Value) → HasOrigin top o v → HasOrigin top p d → HasOrigin top (dot_in c o p) (dot_value c v d)
  dot-from control.With o p v d h g = h
  dot-from _ o p v d h g = g

  -- a part that a run never comes past, of those of which it may come past some
  abbrev NeverPast : FallThrough → (Value → Next) → (Value → Next) → Type 0
  NeverPast Both body other = Unit {0}
  NeverPast Body body other = (d : Value) (r : Run) → (other d r).1 ≡ done → ⊥
  NeverPast Other body other = (d : Value) (r : Run) → (body d r).1 ≡ done → ⊥

  -- .. by the control: a range goes on past its body, however that ends
  abbrev NeverPastIn : Control → FallThrough → (Value → Next) → (Value → Next) → Type 0
  NeverPastIn control.Range Other body other = ⊥
  NeverPastIn c w body other = NeverPast w body other

  -- .. so the variables after both are those after either that a run may have come past
  parts-known : (w : FallThrough) (rs a b out : Known) → after_parts base w rs a b ≡ Some out → (env : Environment)
      → ((w ≡ Other → ⊥) × (HasKnown base N means top) (last_of (length rs) a) env) ⊎ ((w ≡ Body → ⊥) × (HasKnown base N means top) (last_of (length rs) b) env)
      → (HasKnown base N means top) out env
  parts-known Both rs a b out joint env h = (both-known base N means top) rs a b out joint env (elim h [ inl x ↦ inl x.1 | inr x ↦ inr x.1 ])
  parts-known Body rs a b out joint env (inl x) = let same : last_of (length rs) a ≡ out = cc in subst (λ (y : Known). (HasKnown base N means top) y env) same x.1
  parts-known Body rs a b out joint env (inr x) = absurd (x.0 refl)
  parts-known Other rs a b out joint env (inl x) = absurd (x.0 refl)
  parts-known Other rs a b out joint env (inr x) = let same : last_of (length rs) b ≡ out = cc in subst (λ (y : Known). (HasKnown base N means top) y env) same x.1

  choice-ends : (w : FallThrough) (c : Control) (h : Header) (k : State) (loop : Option Known) (f g : Checked) (body other : Value → Next) (sh : Shape) (out : After)
      → after_choice base w c h k f g sh ≡ Some out → holds_loop loop k.env ≡ true → PartHas loop f body → PartHas loop g other → NeverPast w body other
      → (m : MissingKey) (d : Value) (r : Run) → (Fits base N means top) k d r.env → (v : Value) (made : Bool) → (commands_value ((place base N means top) m d r.env) h.pipeline None).result ≡ Ok v
      → HasShape N sh v
      → Ends loop out (scoped (length r.env) (one_of (truth v) (body (dot_value c v d)) (other d) (with_bound h.binding (without_key v) (record r { made_text = made }))))
  choice-ends w c h k loop f g body other sh out is holds in_f in_g never m d r fits v made value has =
      option_and_then_some _ (f (in_body base c h k sh)) out is (λ a isa rest.
      option_and_then_some (end_parts base w k.env a) (g (in_part base false h k sh)) out rest (λ b isb joint.
      let p = ends-of w k.env a b out joint in by (truth v) refl a isa b isb p.0 p.1))
    where
      by : (t : Bool) → truth v ≡ t → (a : After) → f (in_body base c h k sh) ≡ Some a → (b : After) → g (in_part base false h k sh) ≡ Some b
          → after_parts base w k.env a.env b.env ≡ Some out.env → join_left base a.left b.left ≡ Some out.left
          → Ends loop out (scoped (length r.env) (one_of t (body (dot_value c v d)) (other d) (with_bound h.binding (without_key v) (record r { made_text = made }))))
      by true t a isa b isb joint left =
          let q : Run = with_bound h.binding (without_key v) (record r { made_text = made }) in
          let n = (narrow-fits base N means top) true m h.pipeline k d r.env v fits value t in
          let full = (fill-has base N means) sh v has t in
          let o = pipeline_origin k h.pipeline in
          let from = (pipeline-has base N means top) m h.pipeline k d r.env v fits value in
          let x = body (dot_value c v d) q in
          scope-ends loop k.env a out r.env fits.1 holds x.1 x.0.env (λ e y. left-joined loop a.left b.left out.left left e (inl y))
          (λ is e y. parts-known w k.env a.env b.env out.env joint e (inl (λ same. subst (λ (u : FallThrough). NeverPast u body other) same never (dot_value c v d) q is, y)))
          (in_f (in_body base c h k sh) a isa (dot_value c v d) q (
            dot-has c (fill base sh) (narrow base true h.pipeline k).dot v d full n.0,
            (value-known base N means top) h.binding (fill base sh) o v full from (narrow base true h.pipeline k).env r.env n.1,
            dot-from c o (narrow base true h.pipeline k).from v d from n.2,
          ))
      by false t a isa b isb joint left =
          let q : Run = with_bound h.binding (without_key v) (record r { made_text = made }) in
          let n = (narrow-fits base N means top) false m h.pipeline k d r.env v fits value t in
          let o = pipeline_origin k h.pipeline in
          let from = (pipeline-has base N means top) m h.pipeline k d r.env v fits value in
          let x = other d q in
          scope-ends loop k.env b out r.env fits.1 holds x.1 x.0.env (λ e y. left-joined loop a.left b.left out.left left e (inr y))
          (λ is e y. parts-known w k.env a.env b.env out.env joint e (inr (λ same. subst (λ (u : FallThrough). NeverPast u body other) same never d q is, y)))
          (in_g (in_part base false h k sh) b isb d q (n.0, (value-known base N means top) h.binding sh o v has from (narrow base false h.pipeline k).env r.env n.1, n.2))

  -- ---- ranges

  -- the variables before a range are those at its head, and a turn leaves them so
  abbrev IsHead : (Known → Option Known) → Known → Known → Type 0
  IsHead turn ks head = ((env : Environment) → (HasKnown base N means top) ks env → (HasKnown base N means top) head env)
      × (end : Known) × (turn head ≡ Some end) × (all_within base end head ≡ true)

  settled-so : (n : ℕ) (turn : Known → Option Known) (ks head : Known) → settle_known base n turn ks ≡ Some head → IsHead turn ks head
  settled-so zero turn ks head e = cc
  settled-so (suc n) turn ks head e =
      option_and_then_some _ (turn ks) head e (λ end is rest. by end is (all_within base end ks) refl rest (settled-so n turn))
    where
      by : (end : Known) → turn ks ≡ Some end → (b : Bool) → all_within base end ks ≡ b
          → (if b then Some ks else option_and_then (settle_known base n turn) (join_all base ks end)) ≡ Some head
          → ((more head : Known) → settle_known base n turn more ≡ Some head → IsHead turn more head) → IsHead turn ks head
      by end is true w rest found = let same : ks ≡ head = cc in subst (λ (i : Known). IsHead turn ks i) same (λ env h. h, end, is, w)
      by end is false w rest found =
          option_and_then_some (settle_known base n turn) (join_all base ks end) head rest (λ more joint is_found.
          let p = found more head is_found in
          (λ env h. p.0 env ((joined-has base N means top) ks end more env joint (inl h)), p.1, p.2, p.3))

  soon-so : (turn : Known → Option Known) (ks head : Known) → settle_soon base turn ks ≡ Some head → IsHead turn ks head
  unfolding settle_soon
  soon-so turn ks head e = settled-so 12 turn ks head e

  -- how a turn ends: all but a fault leaves the variables of the range's head
  abbrev TurnEnds : Known → End → Environment → Type 0
  TurnEnds head (faulted f) env = MayEnd stops f.cause
  TurnEnds head _ env = (HasKnown base N means top) head env

  -- the variables after a turn are those where it ends, and where it is left
  ended : (head ks : Known) (left : Option Known) (all : Known) → with_left base ks left ≡ Some all → (env : Environment)
      → (HasKnown base N means top) ks (last_of (length head) env) ⊎ InLoop (Some head) left env → (HasKnown base N means top) all (last_of (length head) env)
  ended head ks None all e env (inl x) = let same : ks ≡ all = cc in subst (λ (y : Known). (HasKnown base N means top) y (last_of (length head) env)) same x
  ended head ks None all e env (inr x) = absurd x
  ended head ks (Some ls) all e env h = (joined-has base N means top) ks ls all (last_of (length head) env) e h

  turn-end : (head : Known) (inner : After) (all : Known) (env0 : Environment) → (HasKnown base N means top) head env0
      → with_left base (last_of (length head) inner.env) inner.left ≡ Some all → all_within base all head ≡ true → (end : End) (env : Environment)
      → EndsSo (Some head) inner end env → TurnEnds head end (last_of (length env0) env)
  turn-end head inner all env0 k is w end env = by end
    where
      here : (HasKnown base N means top) all (last_of (length head) env) → (HasKnown base N means top) head (last_of (length env0) env)
      here h =
          subst (λ (n : ℕ). (HasKnown base N means top) head (last_of n env)) ((known-length base N means top) head env0 k)
          ((within-known base N means top) all head (last_of (length head) env) w h)

      by : (end : End) → EndsSo (Some head) inner end env → TurnEnds head end (last_of (length env0) env)
      by done e =
          here (ended head (last_of (length head) inner.env) inner.left all is env (inl ((last-known base N means top) (length head) inner.env env e)))
      by (faulted f) e = e
      by _ e = here (ended head (last_of (length head) inner.env) inner.left all is env (inr e))

  -- what a turn visits: an element of these shapes, and an index or a key of what is at this chain
  abbrev IsTurned : Visit → Origin → Element → Type 0
  IsTurned v over e = (IsVisit base N means) v e × HasTie top (key_tie over) e.0

  turned : (v : Visit) (over : Origin) (es : List Element) → (Each base N means) ((IsVisit base N means) v) es
      → (Each base N means) (λ e. HasTie top (key_tie over) e.0) es → (Each base N means) (IsTurned v over) es
  turned v over [] h g = tt
  turned v over (e ∷ es) h g = ((h.0, g.0), turned v over es h.1 g.1)

  module _ (s : Setting) (line : ℕ) (h : Header) (loop : Option Known) (v : Visit) (over : Origin) (head : Known) (inner : After) (all : Known) (body : Value → Next)
      (is : with_left base (last_of (length head) inner.env) inner.left ≡ Some all) (w : all_within base all head ≡ true)
      (in_body_so : (e : Element) (r : Run) → IsTurned v over e → (HasKnown base N means top) head r.env → Ends (Some head) inner (body e.1 (with_bound h.binding e r))) where
    turn-ends : (e : Element) (r : Run) → IsTurned v over e → (HasKnown base N means top) head r.env → TurnEnds head (turn s line h.binding body e r).1 (turn s line h.binding body e r).0.env
    turn-ends e r i k = by (nat_eq r.left 0)
      where
        by : (b : Bool) → TurnEnds head (spend_if b s line (scope (λ q. body e.1 (with_bound h.binding e q))) r).1
            (spend_if b s line (scope (λ q. body e.1 (with_bound h.binding e q))) r).0.env
        by true = tt
        by false =
            let q : Run = record r { left = r.left - 1 } in
            let x = body e.1 (with_bound h.binding e q) in turn-end head inner all r.env k is w x.1 x.0.env (in_body_so e q i k)

    turns-end : (es : List Element) (r : Run) → (Each base N means) (IsTurned v over) es → (HasKnown base N means top) head r.env → Ends loop (past head) (turns s line h.binding body es r)
    turns-end [] r i k = k
    turns-end (e ∷ es) r i k =
        let x = turn s line h.binding body e r in by x.1 x.0 (turn-ends e r i.0 k) (λ q. turns-end es q i.1)
      where
        by : (end : End) (q : Run) → TurnEnds head end q.env → ((q : Run) → (HasKnown base N means top) head q.env → Ends loop (past head) (turns s line h.binding body es q))
            → Ends loop (past head) (on_turn end q (turns s line h.binding body es))
        by done q t more = more q t
        by (faulted f) q t more = t
        by broke q t more = t
        by continued q t more = more q t

  -- where there is an element, what is known at the head of a range is so
  abbrev Begins : Header → State → Environment → Option (List Element) → Type 0
  Begins h k env (Some (e ∷ es)) = (HasKnown base N means top) (at_head base h k) env
  Begins h k env o = Unit {0}

  begins-so : (h : Header) (k : State) (env : Environment) (v : Value) → (truth v ≡ true → (HasKnown base N means top) (at_head base h k) env)
      → Begins h k env (elements_visited h.binding v)
  begins-so h k env v f = by (elements_visited h.binding v) refl
    where
      by : (o : Option (List Element)) → elements_visited h.binding v ≡ o → Begins h k env o
      by None is = tt
      by (Some []) is = tt
      by (Some (e ∷ es)) is = f (visited-true h.binding v e es is)

  -- the index or the key of each element is one of what is at this chain
  abbrev AreTied : Origin → Option (List Element) → Type 0
  AreTied over None = Unit {0}
  AreTied over (Some es) = (Each base N means) (λ e. HasTie top (key_tie over) e.0) es

  keys-tied : (b : Binding) (v : Value) (over : Origin) → HasOrigin top over v → AreTied over (elements_visited b v)
  keys-tied b v over from = by (elements_visited b v) (visited-keys b v)
    where
      by : (o : Option (List Element)) → AreKeys v o → AreTied over o
      by None h = tt
      by (Some es) h = each es h
        where
          each : (es : List Element) → AllKeys v es → (Each base N means) (λ e. HasTie top (key_tie over) e.0) es
          each [] h = tt
          each (e ∷ es) h = (key-tied top over v e.0 from (key-there v e.0 h.0) h.0, each es h.1)

  -- a range over elements, in its scope
  over-ends : (w : FallThrough) (s : Setting) (line : ℕ) (h : Header) (k : State) (loop : Option Known) (f : Option Known → Checked) (g : Checked) (body other : Value → Next) (v : Visit)
      (out : After) → after_range base w h k f g v ≡ Some out → holds_loop loop k.env ≡ true → ((l : Option Known) → PartHas l (f l) body) → PartHas loop g other
      → NeverPastIn control.Range w body other → (d : Value) (r : Run) → (Fits base N means top) k d r.env → (made : Bool) (o : Option (List Element)) → (Visits base N means) (Some v) o → AreTied (pipeline_origin k h.pipeline) o → Begins h k r.env o
      → Ends loop out (scoped (length r.env) (over s line h.binding body (other d) o (record r { made_text = made })))
  over-ends w s line h k loop f g body other v out is holds in_f in_g never d r fits made o visits ties begins =
      option_and_then_some _ (settle_soon base (turn_known base h v (pipeline_origin k h.pipeline) f) (at_head base h k)) out is (λ head ish rest.
      option_and_then_some (end_parts base w k.env (past head)) (g k) out rest (λ b isb joint.
      let p = ends-of w k.env (past head) b out joint in
      by o visits ties begins head b isb
      (λ e y. parts-known w k.env head b.env out.env p.0 e (inl (λ same. subst (λ (u : FallThrough). NeverPastIn control.Range u body other) same never, y)))
      (λ d r is e y. parts-known w k.env head b.env out.env p.0 e (inr (λ same. subst (λ (u : FallThrough). NeverPastIn control.Range u body other) same never d r is, y))) p.1
      (soon-so (turn_known base h v (pipeline_origin k h.pipeline) f) (at_head base h k) head ish)))
    where
      r1 : Run
      r1 = record r { made_text = made }

      from : Origin
      from = pipeline_origin k h.pipeline

      turning : (head : Known) (inner : After) (all : Known) → f (Some head) (in_turn h v from head) ≡ Some inner
          → with_left base (last_of (length head) inner.env) inner.left ≡ Some all → all_within base all head ≡ true
          → (es : List Element) → (Each base N means) (IsTurned v from) es → (HasKnown base N means top) head r.env → Ends loop (past head) (turns s line h.binding body es r1)
      turning head inner all isi is_all w es each k1 =
          turns-end s line h loop v from head inner all body is_all w
          (λ e q i kq. in_f (Some head) (in_turn h v from head) inner isi e.1 (with_bound h.binding e q)
          (i.0.1, (bound-known base N means top) h.binding v.key v.element from None e i.0.0 i.0.1 i.1 tt head q.env kq, tt))
          es r1 each k1

      by : (o : Option (List Element)) → (Visits base N means) (Some v) o → AreTied from o → Begins h k r.env o → (head : Known) (b : After) → g k ≡ Some b
          → ((env : Environment) → (HasKnown base N means top) (last_of (length k.env) head) env → (HasKnown base N means top) out.env env)
          → ((d : Value) (r : Run) → (other d r).1 ≡ done → (env : Environment) → (HasKnown base N means top) (last_of (length k.env) b.env) env
          → (HasKnown base N means top) out.env env)
          → join_left base None b.left ≡ Some out.left → IsHead (turn_known base h v from f) (at_head base h k) head
          → Ends loop out (scoped (length r.env) (over s line h.binding body (other d) o r1))
      by None visits ties begins head b isb gone passed left set = absurd visits
      by (Some []) visits ties begins head b isb gone passed left set =
          let x = other d r1 in
          scope-ends loop k.env b out r.env fits.1 holds x.1 x.0.env (λ e y. left-joined loop None b.left out.left left e (inr y)) (passed d r1) (in_g k b isb d r1 fits)
      by (Some (e ∷ es)) visits ties begins head b isb gone passed left set =
          let x = turns s line h.binding body (e ∷ es) r1 in
          option_and_then_some (λ (a : After). with_left base (last_of (length head) a.env) a.left) (f (Some head) (in_turn h v from head)) set.1 set.2 (λ inner isi is_all.
          scope-ends loop k.env (past head) out r.env fits.1 holds x.1 x.0.env (λ e y. left-joined loop None b.left out.left left e (inl y)) (λ e. gone)
          (turning head inner set.1 isi is_all set.3 (e ∷ es) (turned v from (e ∷ es) visits ties) (set.0 r.env begins)))

  -- a control in its scope
  control-ends : (w : FallThrough) (s : Setting) (line : ℕ) (c : Control) (h : Header) (k : State) (loop : Option Known) (f : Option Known → Checked) (g : Checked) (body other : Value → Next)
      (sh : Shape) (out : After) → after_control base w c loop h k f g sh ≡ Some out → holds_loop loop k.env ≡ true → ((l : Option Known) → PartHas l (f l) body)
      → PartHas loop g other → NeverPastIn c w body other → (d : Value) (r : Run) → (Fits base N means top) k d r.env → (v : Value) (made : Bool)
      → (commands_value ((place base N means top) s.rules.missing_key d r.env) h.pipeline None).result ≡ Ok v → HasShape N sh v
      → Ends loop out (scoped (length r.env) (controlled s line c h.binding d body (other d) v (record r { made_text = made })))
  control-ends w s line control.If h k loop f g body other sh out is holds in_f in_g never d r fits v made value has =
      choice-ends w control.If h k loop (f loop) g body other sh out is holds (in_f loop) in_g never s.rules.missing_key d r fits v made value has
  control-ends w s line control.With h k loop f g body other sh out is holds in_f in_g never d r fits v made value has =
      choice-ends w control.With h k loop (f loop) g body other sh out is holds (in_f loop) in_g never s.rules.missing_key d r fits v made value has
  control-ends w s line control.Range h k loop f g body other sh out is holds in_f in_g never d r fits v made value has =
      option_and_then_some (after_range base w h k f g) (visit_of base h.binding sh) out is (λ visit isv rest.
      over-ends w s line h k loop f g body other visit out rest holds in_f in_g never d r fits made (elements_visited h.binding v)
      (subst (λ (o : Option Visit). (Visits base N means) o (elements_visited h.binding v)) isv ((visit-gives base N means) h.binding sh v has))
      (keys-tied h.binding v (pipeline_origin k h.pipeline) ((pipeline-has base N means top) s.rules.missing_key h.pipeline k d r.env v fits value))
      (begins-so h k r.env v (λ full. ((narrow-fits base N means top) true s.rules.missing_key h.pipeline k d r.env v fits value full).1)))

  was_open : (b : Bool) (o : Option After) (y : After) → (if b then o else None) ≡ Some y → (b ≡ true) × (o ≡ Some y)
  was_open true o y e = (refl, e)
  was_open false o y e = cc

  -- ---- calls

  quiet-ends : (loop : Option Known) (ks : Known) (env0 : Environment) → (HasKnown base N means top) ks env0 → (end : End) (env : Environment) → env ≡ env0 → (IsQuiet base N means stops) end → EndsSo loop (past ks) end env
  quiet-ends loop ks env0 k done env same q = subst (λ (e : Environment). (HasKnown base N means top) ks e) (sym same) k
  quiet-ends loop ks env0 k (faulted f) env same q = q
  quiet-ends loop ks env0 k _ env same q = absurd q

  -- ---- nodes

  module _ (s : Setting) (table : Table) (calls : (CallsHave base N means stops) table s.calls) where
    shown-ends : (h : Header) (k : State) (loop : Option Known) (sh : Shape) (v : Value) (r : Run) → (HasKnown base N means top) k.env r.env → HasShape N sh v
        → HasOrigin top (pipeline_origin k h.pipeline) v → Ends loop (past (bind_value h k sh k.env)) (show h.binding v r)
    shown-ends h k loop sh v r known has from = by h.binding
      where
        by : (b : Binding) → Ends loop (past (bound_shapes b nothings sh None (pipeline_origin k h.pipeline) k.env)) (show b v r)
        by unbound = known
        by b = (value-known base N means top) b sh (pipeline_origin k h.pipeline) v has from k.env r.env known

    left-ends : (loop : Option Known) (ks : Known) (out : After) (env : Environment) → leave_with ks loop ≡ Some out → (HasKnown base N means top) ks env → InLoop loop out.left env
    left-ends None ks out env e k = cc
    left-ends (Some head) ks out env e k =
        let same : record { env = ks; left = Some (last_of (length head) ks) } ≡ out = cc in
        subst (λ (x : After). InLoop (Some head) x.left env) same ((last-known base N means top) (length head) ks env k)

    handing-ends : (line : ℕ) (given : Option Pipeline) (k : State) (loop : Option Known) (t sh : Shape) (d : Value) (go : Value → Next) (r : Run) → (Fits base N means top) k d r.env
        → option_map_or (pipeline_shape base s.rules.missing_key k) given (Some nothings) ≡ Some sh → within base sh t ≡ true
        → ((v : Value) → HasShape N t v → (r : Run) → ((go v r).0.env ≡ r.env) × (IsQuiet base N means stops) (go v r).1) → Ends loop (past k.env) (handing s line given d go r)
    handing-ends line None k loop t sh d go r fits e w h =
        let same : nothings ≡ sh = cc in
        let x = h nothing ((within-has base N means) sh t nothing w (subst (λ (i : Shape). HasShape N i nothing) same tt)) r in
        quiet-ends loop k.env r.env fits.1 (go nothing r).1 (go nothing r).0.env x.0 x.1
    handing-ends line (Some p) k loop t sh d go r fits e w h =
        pipeline-all (Ends loop (past k.env)) s line p d go k sh r fits e (λ v made value has.
        let q : Run = record r { made_text = made } in
        let x = h v ((within-has base N means) sh t v w has) q in quiet-ends loop k.env r.env fits.1 (go v q).1 (go v q).0.env x.0 x.1)

    handed-ends : (line : ℕ) (given : Option Pipeline) (k : State) (loop : Option Known) (t sh : Shape) (d : Value) (r : Run) → (Fits base N means top) k d r.env
        → option_map_or (pipeline_shape base s.rules.missing_key k) given (Some nothings) ≡ Some sh → within base sh t ≡ true
        → (x : Result (Value → Next) Cause) → (CallHas base N means stops) t x → Ends loop (past k.env) (with_value s line x (handing s line given d) r)
    handed-ends line given k loop t sh d r fits issh w (Ok go) h = handing-ends line given k loop t sh d go r fits issh w h
    handed-ends line given k loop t sh d r fits issh w (Err cause) h = h

    absent-ends : (line : ℕ) (given : Option Pipeline) (k : State) (loop : Option Known) (d : Value) (r : Run)
        → (x : Result (Value → Next) Cause) → (CalleeHas base N means stops) absent x → Ends loop (past k.env) (with_value s line x (handing s line given d) r)
    absent-ends line given k loop d r (Ok go) h = absurd h
    absent-ends line given k loop d r (Err cause) h = h

    callee-ends : (line : ℕ) (name : List ℕ) (given : Option Pipeline) (k : State) (loop : Option Known) (out : After) (d : Value) (r : Run)
        → (Fits base N means top) k d r.env → (c : Callee) → (CalleeHas base N means stops) c (s.calls name)
        → after_call base c k.env (option_map_or (pipeline_shape base s.rules.missing_key k) given (Some nothings)) ≡ Some out
        → Ends loop out (with_value s line (s.calls name) (handing s line given d) r)
    callee-ends line name given k loop out d r fits absent h e =
        let same : past k.env ≡ out = cc in
        subst (λ (x : After). Ends loop x (with_value s line (s.calls name) (handing s line given d) r)) same (absent-ends line given k loop d r (s.calls name) h)
    callee-ends line name given k loop out d r fits (handed t) h e =
        option_and_then_some _ (option_map_or (pipeline_shape base s.rules.missing_key k) given (Some nothings)) out e (λ sh issh last.
        let w = cond_some (within base sh t) (past k.env) out last in
        subst (λ (x : After). Ends loop x (with_value s line (s.calls name) (handing s line given d) r)) w.1
        (handed-ends line given k loop t sh d r fits issh w.0 (s.calls name) h))

    template-ends : (line : ℕ) (name : List ℕ) (given : Option Pipeline) (loop : Option Known)
        → PartHas loop (λ k. after_node base s.rules.missing_key table loop k (template_node name given)) (stepped s line (template_node name given))
    template-ends line name given loop k out is d r fits =
        option_and_then_some _ (table name) out is (λ c isc rest. callee-ends line name given k loop out d r fits c (calls name c isc) rest)

    -- ---- nodes that a run never comes past

    fault-past : (x : Result (Value → Next) Cause) (c : Callee) → (CalleeHas base N means stops) c x → is_absent (Some c) ≡ true
        → (line : ℕ) (go : (Value → Next) → Next) (r : Run) → (with_value s line x go r).1 ≡ done → ⊥
    fault-past (Ok go) absent h e line next r is = h
    fault-past (Err cause) absent h e line next r is = cc
    fault-past x (handed t) h e line next r is = cc

    absent-past : (name : List ℕ) → is_absent (table name) ≡ true → (line : ℕ) (go : (Value → Next) → Next) (r : Run) → (with_value s line (s.calls name) go r).1 ≡ done → ⊥
    absent-past name e line go r is = by (table name) refl e
      where
        by : (o : Option Callee) → table name ≡ o → is_absent o ≡ true → ⊥
        by None t e = cc
        by (Some c) t e = fault-past (s.calls name) c (calls name c t) e line go r is

    node-past : (n : NodeKind) → diverges table n ≡ true → (line : ℕ) (d : Value) (r : Run) → (stepped s line n d r).1 ≡ done → ⊥
    node-past (template_node name given) e line d r is = absent-past name e line (handing s line given d) r is
    node-past _ e line d r is = cc

    -- what follows from the end of a node follows from that of its step
    spend-past : (T : Type 0) (line : ℕ) (go : Next) (r : Run) → ((left : ℕ) → (go (record r { left = left })).1 ≡ done → T) → (spend s line go r).1 ≡ done → T
    spend-past T line go r h = by (nat_eq r.left 0)
      where
        by : (b : Bool) → (spend_if b s line go r).1 ≡ done → T
        by true e = cc
        by false e = h (r.left - 1) e

    end-past : (end : End) (q : Run) (go : Next) → (on_end end q go).1 ≡ done → (end ≡ done) × ((go q).1 ≡ done)
    end-past done q go e = (refl, e)
    end-past _ q go e = cc

    some-past : (ns : Nodes) → any_diverges table ns ≡ true → (d : Value) (r : Run) → (meanings s ns d r).1 ≡ done → ⊥
    some-past tree.none e d r is = cc
    some-past (tree.then line n ns) e d r is =
        let x = spend s line (stepped s line n d) r in
        let p = end-past x.1 x.0 (meanings s ns d) is in
        by (diverges table n) refl e p.0 (λ more. some-past ns more d x.0 p.1)
      where
        by : (b : Bool) → diverges table n ≡ b → (b || any_diverges table ns) ≡ true → (spend s line (stepped s line n d) r).1 ≡ done
            → (any_diverges table ns ≡ true → ⊥) → ⊥
        by true l e is rest = spend-past ⊥ line (stepped s line n d) r (λ left. node-past n l line d (record r { left = left })) is
        by false l e is rest = rest e

    never-past : (body other : Nodes) → NeverPast (fall_through table body other) (meanings s body) (meanings s other)
    never-past body other = by (any_diverges table body) refl (any_diverges table other) refl
      where
        by : (a : Bool) → any_diverges table body ≡ a → (b : Bool) → any_diverges table other ≡ b
            → NeverPast (if a then Other else if b then Body else Both) (meanings s body) (meanings s other)
        by true e b f = λ d r. some-past body e d r
        by false e true f = λ d r. some-past other f d r
        by false e false f = tt

    never-past-in : (c : Control) (body other : Nodes) → NeverPastIn c (past_parts c table body other) (meanings s body) (meanings s other)
    never-past-in control.Range body other = by (any_diverges table other) refl
      where
        by : (b : Bool) → any_diverges table other ≡ b → NeverPastIn control.Range (if b then Body else Both) (meanings s body) (meanings s other)
        by true e = λ d r. some-past other e d r
        by false e = tt
    never-past-in _ body other = never-past body other

    -- where a range is done past which a run comes only by its body, dot is what its pipeline shows
    range-dot : (w : FallThrough) (h : Header) (line : ℕ) (k : State) (body other : Value → Next) → NeverPastIn control.Range w body other
        → (d : Value) (r : Run) → (Fits base N means top) k d r.env → (v : Value) (made : Bool)
        → (commands_value ((place base N means top) s.rules.missing_key d r.env) h.pipeline None).result ≡ Ok v
        → (over s line h.binding body (other d) (elements_visited h.binding v) (record r { made_text = made })).1 ≡ done
        → HasShape N (dot_by base w h.pipeline k) d
    range-dot Both h line k body other never d r fits v made value is = fits.0
    range-dot Other h line k body other never d r fits v made value is = absurd never
    range-dot Body h line k body other never d r fits v made value is = by (elements_visited h.binding v) refl is
      where
        by : (o : Option (List Element)) → elements_visited h.binding v ≡ o
            → (over s line h.binding body (other d) o (record r { made_text = made })).1 ≡ done → HasShape N (dot_by base Body h.pipeline k) d
        by None e is = cc
        by (Some []) e is = absurd (never d (record r { made_text = made }) is)
        by (Some (x ∷ xs)) e is =
            ((narrow-fits base N means top) true s.rules.missing_key h.pipeline k d r.env v fits value (visited-true h.binding v x xs e)).0

    -- where a choice is done, dot is what its pipeline shows by the part that was run
    choice-dot : (w : FallThrough) (c : Control) (h : Header) (k : State) (body other : Value → Next) → NeverPast w body other
        → (d : Value) (r : Run) → (Fits base N means top) k d r.env → (v : Value) (made : Bool)
        → (commands_value ((place base N means top) s.rules.missing_key d r.env) h.pipeline None).result ≡ Ok v
        → (one_of (truth v) (body (dot_value c v d)) (other d) (with_bound h.binding (without_key v) (record r { made_text = made }))).1 ≡ done
        → HasShape N (dot_by base w h.pipeline k) d
    choice-dot w c h k body other never d r fits v made value = by w (truth v) refl never
      where
        q : Run
        q = with_bound h.binding (without_key v) (record r { made_text = made })

        by : (w : FallThrough) (t : Bool) → truth v ≡ t → NeverPast w body other → (one_of t (body (dot_value c v d)) (other d) q).1 ≡ done → HasShape N (dot_by base w h.pipeline k) d
        by Both t e never is = fits.0
        by Body true e never is = ((narrow-fits base N means top) true s.rules.missing_key h.pipeline k d r.env v fits value e).0
        by Body false e never is = absurd (never d q is)
        by Other true e never is = absurd (never (dot_value c v d) q is)
        by Other false e never is = ((narrow-fits base N means top) false s.rules.missing_key h.pipeline k d r.env v fits value e).0

    -- .. and after each node
    step-dot : (n : NodeKind) (line : ℕ) (loop : Option Known) (k : State) (out : After) → after_node base s.rules.missing_key table loop k n ≡ Some out
        → (d : Value) (r : Run) → (Fits base N means top) k d r.env → (stepped s line n d r).1 ≡ done → HasShape N (dot_after base table k n) d
    step-dot (control_node c h body other) line loop k out e d r fits is =
        let p = was_open (holds_loop loop k.env) _ out e in
        option_and_then_some _ (pipeline_shape base s.rules.missing_key k h.pipeline) out p.1 (λ sh issh rest.
        pipeline-all (λ x. x.1 ≡ done → HasShape N (dot_after base table k (control_node c h body other)) d) s line h.pipeline d
        (controlled s line c h.binding d (meanings s body) (meanings s other d)) k sh r fits issh
        (λ v made value has. by c v made value) is)
      where
        by : (c : Control) (v : Value) (made : Bool) → (commands_value ((place base N means top) s.rules.missing_key d r.env) h.pipeline None).result ≡ Ok v
            → (controlled s line c h.binding d (meanings s body) (meanings s other d) v (record r { made_text = made })).1 ≡ done
            → HasShape N (dot_after base table k (control_node c h body other)) d
        by control.Range v made value is =
            range-dot (past_parts control.Range table body other) h line k (meanings s body) (meanings s other) (never-past-in control.Range body other)
            d r fits v made value is
        by control.If v made value is =
            choice-dot (fall_through table body other) control.If h k (meanings s body) (meanings s other) (never-past body other) d r fits v made value is
        by control.With v made value is =
            choice-dot (fall_through table body other) control.With h k (meanings s body) (meanings s other) (never-past body other) d r fits v made value is
    step-dot _ line loop k out e d r fits is = fits.0

    left-kept : (ns : Nodes) (loop left : Option Known) (k : State) (out : After) → after_nodes base s.rules.missing_key table loop left k ns ≡ Some out
        → (env : Environment) → InLoop loop left env → InLoop loop out.left env
    left-kept tree.none loop left k out is env h =
        let same : record { env = k.env; left = left } ≡ out = cc in subst (λ (x : After). InLoop loop x.left env) same h
    left-kept (tree.then line n ns) loop left k out is env h =
        option_and_then_some _ (after_node base s.rules.missing_key table loop k n) out is (λ middle ism rest.
        option_and_then_some _ (join_left base left middle.left) out rest (λ all isa more.
        left-kept ns loop all (record k { dot = dot_after base table k n; env = middle.env }) out more env (left-joined loop left middle.left all isa env (inl h))))

    mutual
      stepped-ends : (n : NodeKind) (line : ℕ) (loop : Option Known) → PartHas loop (λ k. after_node base s.rules.missing_key table loop k n) (stepped s line n)
      stepped-ends (text bytes) line loop k out is d r fits =
          let same : past k.env ≡ out = cc in subst (λ (x : After). (HasKnown base N means top) x.env r.env) same fits.1
      stepped-ends (action h) line loop k out is d r fits =
          let p = mapped_some (pipeline_shape base s.rules.missing_key k h.pipeline) (λ sh. past (bind_value h k sh k.env)) out is in
          subst (λ (x : After). Ends loop x (with_pipeline s line h.pipeline d (show h.binding) r)) p.2
          (pipeline-all (Ends loop (past (bind_value h k p.0 k.env))) s line h.pipeline d (show h.binding) k p.0 r fits p.1
          (λ v made value has. shown-ends h k loop p.0 v (record r { made_text = made }) fits.1 has
          ((pipeline-has base N means top) s.rules.missing_key h.pipeline k d r.env v fits value)))
      stepped-ends (control_node c h body other) line loop k out is d r fits =
          let m = s.rules.missing_key in
          let f : Option Known → Checked = λ l u. after_nodes base m table l None u body in
          let g : Checked = λ u. after_nodes base m table loop None u other in
          let p = was_open (holds_loop loop k.env) _ out is in
          let w = past_parts c table body other in
          option_and_then_some (after_control base w c loop h k f g) (pipeline_shape base m k h.pipeline) out p.1 (λ sh issh rest.
          pipeline-all (λ x. Ends loop out (scoped (length r.env) x)) s line h.pipeline d
          (controlled s line c h.binding d (meanings s body) (meanings s other d)) k sh r fits issh
          (control-ends w s line c h k loop f g (meanings s body) (meanings s other) sh out rest p.0 (λ l. nodes-end body l None) (nodes-end other loop None)
          (never-past-in c body other) d r fits))
      stepped-ends (template_node name given) line loop k out is d r fits = template-ends line name given loop k out is d r fits
      stepped-ends _ line loop k out is d r fits = left-ends loop k.env out r.env is fits.1

      pub nodes-end : (ns : Nodes) (loop left : Option Known) → PartHas loop (λ k. after_nodes base s.rules.missing_key table loop left k ns) (meanings s ns)
      nodes-end tree.none loop left k out is d r fits =
          let same : record { env = k.env; left = left } ≡ out = cc in subst (λ (x : After). (HasKnown base N means top) x.env r.env) same fits.1
      nodes-end (tree.then line n ns) loop left k out is d r fits =
          option_and_then_some _ (after_node base s.rules.missing_key table loop k n) out is (λ middle ism rest.
          option_and_then_some _ (join_left base left middle.left) out rest (λ all isa more.
          let x = spend s line (stepped s line n d) r in
          let u : State = record k { dot = dot_after base table k n; env = middle.env } in
          let dot : x.1 ≡ done → HasShape N (dot_after base table k n) d =
          spend-past (HasShape N (dot_after base table k n) d) line (stepped s line n d) r (λ left. step-dot n line loop k middle ism d (record r { left = left }) fits) in
          after-ends loop middle out (meanings s ns d) x.0 x.1
          (λ h. left-kept ns loop all u out more x.0.env (left-joined loop left middle.left all isa x.0.env (inr h)))
          (λ is known. nodes-end ns loop all u out more d x.0 (dot is, known, fits.2))
          (spend-ends loop middle s line (stepped s line n d) r (λ left. stepped-ends n line loop k middle ism d (record r { left = left }) fits))))

  left-quiet : (a : After) (end : End) (env : Environment) → EndsSo None a end env → (IsQuiet base N means stops) (left_by end)
  left-quiet a done env e = tt
  left-quiet a (faulted f) env e = e
  left-quiet a _ env e = absurd e

  pub quiet-fault : (a : After) (end : End) (env : Environment) → EndsSo None a end env → IfSome (fault_of end) (λ f. MayEnd stops f.cause)
  quiet-fault a (faulted f) env e = e
  quiet-fault a _ env e = tt

module _ (base : Base) (N : Names) (means : Means base.defs N) (stops : List (List ℕ)) where
  -- ---- calls of a set

  pub safe-some : (m : MissingKey) (table : Table) (sh : Shape) (ns : Nodes) → is_safe base m table sh ns ≡ true
      → (out : After) × (after_nodes base m table None None (at_start sh) ns ≡ Some out)
  safe-some m table sh ns e = by (after_nodes base m table None None (at_start sh) ns) refl e
    where
      by : (o : Option After) → after_nodes base m table None None (at_start sh) ns ≡ o → option_map_or (λ a. true) o false ≡ true
          → (out : After) × (after_nodes base m table None None (at_start sh) ns ≡ Some out)
      by None is e = absurd (false≢true e)
      by (Some out) is e = (out, is)

  module _ (rules : Rules) (set : List Template) (table : Table) (checked : IsChecked base rules.missing_key stops set table) where
    pub calls-have : (depth : ℕ) → (CallsHave base N means stops) table (calls_within rules set depth)
    calls-have zero name c is = by c (checked name c is)
      where
        by : (c : Callee) → IsCallee base rules.missing_key stops set table name c → (CalleeHas base N means stops) c (calls_within rules set zero name)
        by (handed sh) x = subst (λ (o : Option Tree). (CallHas base N means stops) sh (uncalled rules name o)) (sym x.1) tt
        by absent x = subst (λ (o : Option Tree). (CalleeHas base N means stops) absent (uncalled rules name o)) (sym x.0) x.1
    calls-have (suc depth) name c is = by c (checked name c is) (calls-have depth)
      where
        by : (c : Callee) → IsCallee base rules.missing_key stops set table name c → (CallsHave base N means stops) table (calls_within rules set depth)
            → (CalleeHas base N means stops) c (calls_within rules set (suc depth) name)
        by (handed sh) x inner = accepted x.2
          where
            accepted : IsAccepted base rules.missing_key stops set table sh x.0
                → (CallHas base N means stops) sh (run_called rules (calls_within rules set depth) name (tree_named name set))
            accepted (inl safe) =
                let s : Setting = setting_of rules (calls_within rules set depth) name x.0 in
                let p = safe-some rules.missing_key table sh x.0.nodes safe in
                subst (λ (o : Option Tree). (CallHas base N means stops) sh (run_called rules (calls_within rules set depth) name o)) (sym x.1)
                (λ v has r.
                let q : Run = record r { env = ([], v) ∷ [] } in
                let y = meanings s x.0.nodes v q in
                (refl, left-quiet base N means stops v p.0 y.1 y.0.env (nodes-end base N means stops v s table inner x.0.nodes None None (at_start sh) p.0 p.1 v q (has, (refl, has, tt, at-root v), at-root v))))
            accepted (inr (texts_alone, loop)) =
                let found = found-loop base N means set stops x.0 loop in
                let call = calls_copy found.0 found.1 rules set stops depth name x.0 x.1 found.2 in
                subst (λ (c : Result (Value → Next) Cause). (CallHas base N means stops) sh c) (sym call.1)
                (λ v has r. over-text call.0 (λ bytes r. (call.2 bytes r).0) (λ bytes r. ends-quiet found.0 found.1 bytes found.2 (r.text ++ copied_by found.0 found.1 bytes)
                (call.0 (string bytes) r).0 (call.0 (string bytes) r).1 (call.2 bytes r).1) v
                ((within-has base N means) sh texts v texts_alone has) r)
              where
                over-text : (go : Value → Next) → ((bytes : List ℕ) (r : Run) → (go (string bytes) r).0.env ≡ r.env)
                    → ((bytes : List ℕ) (r : Run) → (IsQuiet base N means stops) (go (string bytes) r).1) → (v : Value) → HasShape N texts v → (r : Run)
                    → ((go v r).0.env ≡ r.env) × (IsQuiet base N means stops) (go v r).1
                over-text go same quiet (string bytes) has r = (same bytes r, quiet bytes r)
                over-text go same quiet _ has r = absurd has

                stop-is : (c : Loop) (constants : Environment) → IsLoop set stops c constants x.0 → (b : ℕ) (name : List ℕ) → turn_of c constants b ≡ stopped name
                    → Contains stops name
                stop-is c constants is b name e = (subst (λ (t : Turn). IsTurn set stops t) e (is.turns b)).1

                ends-quiet : (c : Loop) (constants : Environment) (bytes : List ℕ) → IsLoop set stops c constants x.0 → (t : List ℕ) (q : Run) (end : End)
                    → EndsWith c constants bytes t q end → (IsQuiet base N means stops) end
                ends-quiet c constants bytes is t q done e = tt
                ends-quiet c constants bytes is t q (faulted f) e = may f.cause e
                  where
                    may : (cause : Cause) → MayFault c constants bytes cause → MayEnd stops cause
                    may (steps_spent n) e = tt
                    may (no_template name) e = stop-is c constants is e.1 name e.4
                    may _ e = absurd e
                ends-quiet c constants bytes is t q _ e = absurd e
        by absent x inner =
            subst (λ (o : Option Tree). (CalleeHas base N means stops) absent (run_called rules (calls_within rules set depth) name o)) (sym x.0) x.1
