-- For `turns` and the laws `each_turn_lessens`, `only_adds`, `mark_stays`, `stays_within` and `one_end`: what a turn does, whichever instruction it
-- carries out, and what holds of a run to its end.
use Rattle.std.proofs.lemmas.Grind.{common_steps}
use Rattle.std.proofs.Common.{arith, inl, inr, ◌≡◌, ◌∙◌, ◌+◌, ◌-◌, ◌*◌, ◌<◌, ◌≤◌, ◌||◌, ◌++◌, ℕ, zero, suc, Bool, true, false, List, []}
use Rattle.std.proofs.Common.{length, refl, ap, sym, subst, Option, Some, None, append-nil, append_assoc}
use Rattle.std.proofs.Math.Bool.{or-false}
use Rattle.std.proofs.lemmas.List.{length-drop, length-set}
use Rattle.std.specs.Prelude.{option_map, slice_get}
use Rattle.std.proofs.lemmas.Option.{slice_get_within}
use Rattle.std.proofs.Math.Nat.{mul-le-mul_right, suc-mul}
use Rattle.tmpl_syntax.specs.Set.{Template}
use Rattle.tmpl_meaning.specs.Fault.{Fault}
use Rattle.tmpl_meaning.specs.Meaning.{Ran}
use Rattle.tmpl_meaning.specs.declared.missing_key.MissingKey.{MissingKey}
use Rattle.tmpl_code.specs.Instruction.{Instruction, act}
use Rattle.tmpl_engine.specs.Cell.{Cell}
use Rattle.tmpl_engine.specs.State.{Plan, State}
use Rattle.tmpl_engine.specs.Step.{step}
use Rattle.tmpl_engine.specs.Machine.{Turn, carry_out, done_in, ended, goes, next_of}
use Rattle.tmpl_engine.specs.Machine.{stuck}
use Rattle.tmpl_engine.specs.Ready.{Has}
use Rattle.tmpl_engine.specs.Ends.{Comes, Ends, IsReady, RunsTo}
use Rattle.tmpl_engine.specs.Laws.{Begins, Lessens}
use Rattle.tmpl_engine.specs.computed.Machines.{no_template, with_told}
use Rattle.tmpl_engine.specs.computed.Turned.{added_text, mark_after}

-- what a fault is told of as in a template
abbrev pub retold : Template → Option Fault → Option Fault
retold t = option_map (λ (f : Fault). record f { file = t.1.file; template = t.0 })

-- a turn that tells this text and this mark, and this template where it ends at a fault
abbrev pub tell : Template → List ℕ → Bool → Turn → Turn
tell t x m (goes u) = goes (record u { text = x; made_text = m })
tell t x m (ended r) = ended (record { text = x; fault = retold t r.fault; made_text = m })
tell t x m stuck = stuck

-- what an instruction does hangs neither on the template that is told nor on what was put out before it
pub carry_out-told : (plan : Plan) (t : Template) (x : List ℕ) (m : Bool) (i : Instruction) (s : State)
    → carry_out plan t i (with_told x m s) ≡ tell t (x ++ added_text plan.rules.missing_key i s) (m || mark_after i false) (carry_out plan no_template i (with_told [] false s))
carry_out-told plan t x m i s = grind (arith, common_steps, append-nil, or-false)

-- what the instruction at a place puts out, and the mark after it
abbrev added_at : MissingKey → Option Instruction → State → List ℕ
added_at mode None s = []
added_at mode (Some i) s = added_text mode i s

abbrev pub mark_at : Option Instruction → Bool → Bool
mark_at None made = made
mark_at (Some i) made = made || mark_after i false

abbrev mark_next : Plan → State → Bool
mark_next plan s = mark_at (slice_get plan.code s.place) s.made_text

-- a turn, whichever instruction it carries out
module _ (plan : Plan) (s : State) where
  pub each-lessens : (t : State) → next_of plan s ≡ goes t → Lessens s t
  each-lessens t e = grind (arith, common_steps)

  pub next-depth : (t : State) → next_of plan s ≡ goes t → t.depth ≤ suc s.depth
  next-depth t e = grind (arith, common_steps)

  next-cells : (size : ℕ) (t : State) → next_of plan s ≡ goes t → length s.cells ≤ size → IsReady size (slice_get plan.code s.place) s → length t.cells ≤ size
  next-cells size t e within ready = grind (arith, common_steps, length-drop {A = Cell}, length-set {A = Cell})

  next-told : (me : Option Template) (i : Option Instruction) (t : State) → done_in plan me i s ≡ goes t
      → (t.text ≡ s.text ++ added_at plan.rules.missing_key i s) × (t.made_text ≡ mark_at i s.made_text)
  next-told me (Some (act o)) t e = grind (arith, common_steps, append-nil, or-false)
  next-told me _ t e = grind (arith, common_steps, append-nil, or-false)

  last-told : (me : Option Template) (i : Option Instruction) (r : Ran) → done_in plan me i s ≡ ended r
      → (r.text ≡ s.text ++ added_at plan.rules.missing_key i s) × (r.made_text ≡ mark_at i s.made_text)
  last-told me i r e = grind (arith, common_steps, append-nil, or-false)

-- ---- to the end of a run

-- what is left of a run at most: steps and open templates, and places within one of these
abbrev pub work : ℕ → State → ℕ
work size s = (2 * s.left + s.depth) * suc size + (size - s.place)

module _ (plan : Plan) (room : ℕ) (f : Ran) where
  -- induction on how many turns there are to the end
  ends-by : (P : State → Type 0)
      → ((s : State) → IsReady room (slice_get plan.code s.place) s → Comes (λ t. Ends plan room t f) (next_of plan s) f
      → ((t : State) → next_of plan s ≡ goes t → P t) → P s)
      → (s : State) → Ends plan room s f → P s
  ends-by P step s h = leads h.0 s h.1
    where
      ends : (n : ℕ) (u : Turn) → Comes (λ t. RunsTo plan room n t f) u f → Comes (λ t. Ends plan room t f) u f
      ends n (goes t) l = (n, l)
      ends n _ l = l

      leads : (n : ℕ) (s : State) → RunsTo plan room n s f → P s
      leads zero s l = absurd l
      leads (suc n) s l = step s l.0 (ends n (next_of plan s) l.1) (λ t e. leads n t (subst (λ u. Comes (λ t. RunsTo plan room n t f) u f) e l.1))

  abbrev Now : State → Type 0
  Now s = IsReady room (slice_get plan.code s.place) s × Comes (λ t. Ends plan room t f) (next_of plan s) f

  now : (s : State) → Ends plan room s f → Now s
  now = ends-by Now (λ s ready comes later. (ready, comes))

  -- where the cells of a state that comes to an end lie within the stack, so do those of the next
  pub next-within : (s t : State) → Ends plan room s f → length s.cells ≤ room → next_of plan s ≡ goes t → length t.cells ≤ room
  next-within s t h within e = next-cells plan s room t e within (now s h).0

  -- what was put out so far begins the text of the end, and a mark stays
  abbrev TellsMore : List ℕ → Bool → Type 0
  TellsMore text made = Begins text f.text × (made ≡ true → f.made_text ≡ true)

  marked : (o : Option Instruction) (m : Bool) → m ≡ true → mark_at o m ≡ true
  marked o m e = grind arith

  pub tells-more : (s : State) → Ends plan room s f → TellsMore s.text (mark_next plan s)
  tells-more = ends-by (λ s. TellsMore s.text (mark_next plan s)) (λ s ready comes later. by s (next_of plan s) refl comes later)
    where
      by : (s : State) (u : Turn) → next_of plan s ≡ u → Comes (λ t. Ends plan room t f) u f
          → ((t : State) → u ≡ goes t → TellsMore t.text (mark_next plan t)) → TellsMore s.text (mark_next plan s)
      by s (goes t) e h later =
          let told = next-told plan s (slice_get plan.templates s.template) (slice_get plan.code s.place) t e in
          let more = later t refl in
          let put = added_at plan.rules.missing_key (slice_get plan.code s.place) s in (
            (put ++ more.0.0, more.0.1 ∙ ap (λ l. l ++ more.0.0) told.0 ∙ append_assoc s.text put more.0.0),
            λ e. more.1 (marked (slice_get plan.code t.place) t.made_text (told.1 ∙ e)),
          )
      by s (ended r) e h later =
          let told = last-told plan s (slice_get plan.templates s.template) (slice_get plan.code s.place) r e in
          ((added_at plan.rules.missing_key (slice_get plan.code s.place) s, sym (ap (λ (x : Ran). x.text) h) ∙ told.0), λ e. sym (ap (λ (x : Ran). x.made_text) h) ∙ told.1 ∙ e)
      by s stuck e h later = absurd h

  pub text-begins : (s : State) → Ends plan room s f → Begins s.text f.text
  text-begins s h = (tells-more s h).0

  pub mark-stays : (s : State) → Ends plan room s f → s.made_text ≡ true → f.made_text ≡ true
  mark-stays s h e = (tells-more s h).1 (marked (slice_get plan.code s.place) s.made_text e)

  -- there are a template that runs and an instruction
  pub in-code : (s : State) → Ends plan room s f → (t : Template) × (slice_get plan.templates s.template ≡ Some t) × (s.place < length plan.code)
  in-code s h = by (slice_get plan.templates s.template) (slice_get plan.code s.place) refl refl (now s h).1
    where
      by : (t : Option Template) (i : Option Instruction) → slice_get plan.templates s.template ≡ t → slice_get plan.code s.place ≡ i
          → Comes (λ t. Ends plan room t f) (done_in plan t i s) f
          → (t : Template) × (slice_get plan.templates s.template ≡ Some t) × (s.place < length plan.code)
      by (Some t) (Some i) is at c = (t, is, slice_get_within plan.code s.place i at)
      by None _ is at c = absurd c
      by (Some t) None is at c = absurd c

  module _ (i : Instruction) (t : Template) (s : State) (here : slice_get plan.code s.place ≡ Some i) (runs : slice_get plan.templates s.template ≡ Some t)
      (h : Ends plan room s f) where
    pub is-next : next_of plan s ≡ carry_out plan t i s
    is-next = ap (λ o. done_in plan o (slice_get plan.code s.place) s) runs ∙ ap (λ o. done_in plan (Some t) o s) here

    pub ready : Has i (length s.cells) room
    ready = subst (λ o. IsReady room o s) here (now s h).0

    comes : (u : Turn) → carry_out plan t i s ≡ u → Comes (λ t. Ends plan room t f) u f
    comes u e = subst (λ x. Comes (λ t. Ends plan room t f) x f) (is-next ∙ e) (now s h).1

    pub goes-on : (u : State) → carry_out plan t i s ≡ goes u → Ends plan room u f
    goes-on u e = comes (goes u) e

    pub ends-so : (r : Ran) → carry_out plan t i s ≡ ended r → r ≡ f
    ends-so r e = comes (ended r) e

    pub finds : carry_out plan t i s ≡ stuck → ⊥
    finds e = comes stuck e

    pub falls : (u : State) → carry_out plan t i s ≡ goes u → work (length plan.code) u < work (length plan.code) s
    falls u e = by (each-lessens plan s u (is-next ∙ e))
      where
        size : ℕ
        size = length plan.code

        here-within : s.place < size
        here-within = (in-code s h).2

        there-within : u.place < size
        there-within = (in-code u (goes-on u e)).2

        fewer : 2 * u.left + u.depth < 2 * s.left + s.depth → work size u < work size s
        fewer less = let m : suc (2 * u.left + u.depth) * suc size ≤ (2 * s.left + s.depth) * suc size = mul-le-mul_right (suc size) less in
            let d : suc (2 * u.left + u.depth) * suc size ≡ (2 * u.left + u.depth) * suc size + suc size = suc-mul (2 * u.left + u.depth) (suc size) in
            omega arith

        by : Lessens s u → work size u < work size s
        by (inl less) = let deep = next-depth plan s u (is-next ∙ e) in fewer (omega arith)
        by (inr (left, inl less)) = fewer (omega arith)
        by (inr (left, inr (depth, place))) = let x = here-within in let y = there-within in
            let m : (2 * u.left + u.depth) * suc size ≡ (2 * s.left + s.depth) * suc size = ap (λ n. n * suc size) (omega arith) in omega arith

-- a machine has one end
pub one-end : (plan : Plan) (room size : ℕ) (s : State) (f g : Ran) → Ends plan room s f → Ends plan size s g → f ≡ g
one-end plan room size s f g a b =
    ends-by plan room f (λ s. Ends plan size s g → f ≡ g) (λ s ready comes later b. by (next_of plan s) comes later (now plan size g s b).1) s a b
  where
    by : (u : Turn) → Comes (λ t. Ends plan room t f) u f → ((t : State) → u ≡ goes t → Ends plan size t g → f ≡ g)
        → Comes (λ t. Ends plan size t g) u g → f ≡ g
    by (goes t) a later b = later t refl b
    by (ended r) a later b = sym a ∙ b
    by stuck a later b = absurd a
