-- For `run` and `Machine::start`: the state at the start comes to the meaning of its template.
use Rattle.std.proofs.Common.{arith, ◌≡◌, ◌+◌, ◌-◌, ◌^◌, ◌<◌, ◌≤◌, ℕ, false, [], length, get_or, ap, sym, subst, Option, Some}
use Rattle.std.specs.Prelude.{IfSome, slice_get}
use Rattle.std.proofs.lemmas.Option.{slice_get-get_or, slice_get_within}
use Rattle.tmpl_values.specs.Put.{Puts}
use Rattle.tmpl_values.specs.Value.{Value}
use Rattle.tmpl_syntax.specs.Set.{Template}
use Rattle.tmpl_syntax.specs.View.{set_view}
use Rattle.tmpl_meaning.specs.Meaning.{Ran, ran}
use Rattle.tmpl_meaning.specs.declared.options.Options.{Options}
use Rattle.tmpl_meaning.proofs.PartLemmas.{ran_with}
use Rattle.tmpl_code.specs.Code.{Starts}
use Rattle.tmpl_code.specs.Room.{Suffices}
use Rattle.tmpl_code.specs.View.{instructions_of}
use Rattle.tmpl_code.specs.declared.program.Parts.{Parts}
use Rattle.tmpl_engine.specs.computed.Came.{Stands}
use Rattle.tmpl_engine.specs.computed.Machines.{no_template, with_told}
use Rattle.tmpl_engine.specs.computed.Plan.{plan_of}
use Rattle.tmpl_engine.specs.Ends.{Ends}
use Rattle.tmpl_engine.specs.State.{Plan, State, starting, starting_dot}
use Rattle.tmpl_engine.proofs.GoingLemmas.{starts}
use Rattle.tmpl_engine.proofs.TreeLemmas.{need-is, run-leads, starts-at}

-- the run of the template that a state runs, over its dot
abbrev pub ran_from : Plan → State → Ran
ran_from plan s =
    ran_with plan.rules plan.templates (get_or plan.templates s.template no_template).0 (get_or plan.templates s.template no_template).1 s.dot

-- what a caller of a run has to know of its plan, over a stack of this many cells, from the template of a number on
pub record Can (plan : Plan) (size number : ℕ) : Type 0 where
  pub linked : Starts plan.templates plan.templates plan.starts plan.code
  pub inside : number < length plan.templates
  pub some : 1 ≤ plan.rules.depth_limit
  pub fits : Suffices plan.rules.depth_limit plan.templates number size

pub can-run : (options : Options) (size number : ℕ) (parts told : Parts) → parts ≡ told → Starts (set_view parts.set.value) (set_view parts.set.value)
    parts.starts.items (instructions_of parts.tables parts.instructions.items) → number < length (set_view told.set.value) → 1 ≤ options.depth
    → Suffices options.depth (set_view told.set.value) number size → Can (plan_of options parts) size number
can-run options size number parts told same linked inside some fits = record {
  linked = linked;
  inside = subst (λ (p : Parts). number < length (set_view p.set.value)) (sym same) inside;
  some = some;
  fits = subst (λ (p : Parts). Suffices options.depth (set_view p.set.value) number size) (sym same) fits;
}

module _ {plan : Plan} {size number : ℕ} (can : Can plan size number) where
  -- the template of the number
  abbrev me : Template
  me = get_or plan.templates number no_template

  is-me : slice_get plan.templates number ≡ Some me
  is-me = slice_get-get_or plan.templates number no_template can.inside

  pub has-start : number < length plan.starts
  has-start = let started = starts-at plan.templates plan.templates plan.starts plan.code number me can.linked is-me in
      slice_get_within plan.starts number started.place started.at

  -- `$` and the two cells below it
  pub three : 3 ≤ size
  three = let mine = need-is plan.templates number me is-me in let own = can.fits [] tt (let some = can.some in omega arith) in omega arith

  -- a state at the start comes to the meaning
  pub comes-so : (s : State) (v : Value) → s ≡ starting plan number (get_or plan.starts number 0) v → Ends plan size s (ran_from plan s)
  comes-so s v state =
      subst (λ (t : State). Ends plan size t (ran_from plan t)) (sym state) (run-leads plan size can.linked can.some number me can.fits is-me
      (get_or plan.starts number 0) (slice_get-get_or plan.starts number 0 has-start) v)

  -- .. from where nothing was put out yet
  pub stands-so : (s : State) (Plain : Type 0) (now : Puts) (v : Value) → s ≡ starting plan number (get_or plan.starts number 0) v
      → Ends plan size (with_told [] false s) (ran_from plan s) → Plain → 1 + plan.rules.step_limit < 2 ^ 64 - 1
      → (room : ℕ) → room ≡ size → Stands plan (record { end = ran_from plan s; room = room; before = now }) s Plain now
  stands-so s Plain now v state ends plain few room same =
      let deep = ap (λ (t : State). t.depth) state in
      let left = ap (λ (t : State). t.left) state in
      starts plan (ran_from plan s) room s Plain now (subst (λ n. Ends plan n (with_told [] false s) (ran_from plan s)) (sym same) ends) plain
      (omega (arith, deep, left, few))

  -- what holds of that run holds of the meaning of the template
  pub meant-so : (Holds : Ran → Type 0) (input : Option Value) (s : State) → s ≡ starting plan number (get_or plan.starts number 0) (starting_dot input)
      → Holds (ran_from plan s)
      → IfSome (slice_get plan.templates number) (λ t. Holds (ran plan.rules plan.templates t.0 t.1 input))
  meant-so Holds input s state h =
      subst (λ o. IfSome o (λ t. Holds (ran plan.rules plan.templates t.0 t.1 input))) (sym is-me) (subst Holds (ap (ran_from plan) state) h)
