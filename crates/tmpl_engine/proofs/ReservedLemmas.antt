-- For runs over reserved cells: what is left of a machine stands where it stood, and cells that are filled after the live ones change nothing.
use Rattle.std.proofs.Common.{◌≡◌, ◌∙◌, ◌≤◌, List, [], Result, Ok, Err, Global, length, take, ap, sym, subst}
use Rattle.std.proofs.lemmas.List.{take-take}
use Rattle.tmpl_values.specs.Put.{Puts}
use Rattle.tmpl_values.specs.declared.value.Cell as held
use Rattle.tmpl_funcs.specs.Answer.{AreBorrowed}
use Rattle.tmpl_engine.specs.State.{Plan, State}
use Rattle.tmpl_engine.specs.computed.Came.{Aim, IsLeft, Stands}
use Rattle.tmpl_engine.specs.computed.Held.{cells_in}
use Rattle.tmpl_engine.specs.computed.Machines.{state_of}
use Rattle.tmpl_engine.specs.computed.Paused.{IsPausedPlain, paused_state}
use Rattle.tmpl_engine.specs.computed.Plain.{IsPlain, IsPlainStack}
use Rattle.tmpl_engine.specs.computed.View.{cells_of}
use Rattle.tmpl_engine.specs.declared.fault.RunError.{RunError}
use Rattle.tmpl_engine.specs.declared.flow.Flow.{Flow}
use Rattle.tmpl_engine.specs.declared.flow.Flow.TheVariants as flow
use Rattle.tmpl_engine.specs.declared.machine.Machine.{Machine}
use Rattle.tmpl_engine.specs.declared.reserved.Paused.{Paused}
use Rattle.tmpl_engine.specs.declared.stack.Stack.{Stack}
use Rattle.tmpl_engine.proofs.StackLemmas.{live-same}

module _ (plan : Plan) (aim : Aim) (now : Puts) where
  pub stands-as : (s t : State) (P Q : Type 0) → t ≡ s → (P → Q) → Stands plan aim s P now → Stands plan aim t Q now
  stands-as s t P Q same more h =
      subst (λ (u : State). Stands plan aim u Q now) (sym same)
      (record { depth = h.depth; text = h.text; made = h.made; given = h.given; ends = h.ends; plain = λ e. more (h.plain e) })

  pub left-as : (s t : State) (P Q : Type 0) (r : Result Flow RunError) → t ≡ s → (P → Q) → IsLeft plan aim s P now r → IsLeft plan aim t Q now r
  left-as s t P Q (Ok flow.On) same more h = stands-as s t P Q same more h
  left-as s t P Q (Ok flow.Over) same more h = h
  left-as s t P Q (Err e) same more h = h

-- a machine that takes a stack and goes on
abbrev pub machine_over : Global → Stack → Paused → Machine
machine_over alloc stack p = record {
  alloc = alloc;
  stack = stack;
  dot = p.dot;
  left = p.left;
  line = p.line;
  template = p.template;
  depth = p.depth;
  place = p.place;
}

state-over : (alloc : Global) (stack : Stack) (p : Paused) → stack.top ≡ p.top → state_of (machine_over alloc stack p) ≡ paused_state p stack.cells.now
unfolding cells_of
state-over alloc stack p top = ap (λ n. record (paused_state p stack.cells.now) { cells = cells_in n stack.cells.now }) top

plain-over : (alloc : Global) (stack : Stack) (p : Paused) → stack.top ≡ p.top → IsPausedPlain p stack.cells.now → IsPlain (machine_over alloc stack p)
unfolding IsPlainStack
plain-over alloc stack p top h = (subst (λ n. AreBorrowed (take n stack.cells.now)) (sym top) h.0, h.1)

pub resumes : (plan : Plan) (aim : Aim) (now : Puts) (alloc : Global) (p : Paused) (old stack : Stack) → stack ≡ old → old.top ≡ p.top
    → Stands plan aim (paused_state p old.cells.now) (IsPausedPlain p old.cells.now) now
    → Stands plan aim (state_of (machine_over alloc stack p)) (IsPlain (machine_over alloc stack p)) now
resumes plan aim now alloc p old stack same top h =
    subst (λ (s : Stack). Stands plan aim (state_of (machine_over alloc s p)) (IsPlain (machine_over alloc s p)) now) (sym same)
    (stands-as plan aim now _ _ _ _ (state-over alloc old p top) (plain-over alloc old p top) h)

-- a stack of which no cell is live
pub none-live : (s : Stack) → s.top ≡ 0 → cells_of s ≡ []
unfolding cells_of
none-live s none = ap (λ n. cells_in n s.cells.now) none

pub none-made : (s : Stack) → s.top ≡ 0 → IsPlainStack s
unfolding IsPlainStack
none-made s none = subst (λ n. AreBorrowed (take n s.cells.now)) (sym none) tt

pub ruleset empties = (none-live, none-made)

-- more cells after those that were there
module _ (p : Paused) (old new : List held.Cell) (within : p.top ≤ length old) (kept : take (length old) new ≡ old) where
  same-live : take p.top new ≡ take p.top old
  same-live = sym (take-take p.top (length old) new within) ∙ ap (take p.top) kept

  pub state-grown : paused_state p new ≡ paused_state p old
  state-grown = ap (λ cells. record (paused_state p old) { cells = cells }) (live-same p.top new old same-live)

  pub plain-grown : IsPausedPlain p old → IsPausedPlain p new
  plain-grown h = (subst AreBorrowed (sym same-live) h.0, h.1)
