-- For `turns`: what the loop of a run keeps from turn to turn, said of a machine and of what was put out, and what it comes to where it ends.
use Rattle.std.proofs.Common.{arith, ◌≡◌, ◌∙◌, ◌+◌, ◌||◌, ◌++◌, ◌-◌, ◌^◌, ◌<◌, ◌≤◌, ℕ, Bool, true, false, List, [], length, get_or, refl}
use Rattle.std.proofs.Common.{ap, sym, subst, append-nil, Option, Some, None, Result, Ok, Err}
use Rattle.std.specs.Prelude.{option_map, slice_get}
use Rattle.std.proofs.lemmas.Bool.{or_parts}
use Rattle.std.proofs.lemmas.List.{length-map}
use Rattle.std.proofs.lemmas.Option.{slice_get-get_or, slice_get-map}
use Rattle.tmpl_values.specs.Put.{Puts, IsPut}
use Rattle.tmpl_values.proofs.PutLemmas.{IsPut-along, IsPut-append, IsPut-nil, IsPut-stop}
use Rattle.tmpl_syntax.specs.Set.{Template}
use Rattle.tmpl_meaning.specs.Fault.{Fault}
use Rattle.tmpl_meaning.specs.Meaning.{Ran}
use Rattle.tmpl_meaning.specs.View.{cause_of}
use Rattle.tmpl_meaning.specs.declared.fault.RunFaultKind.{RunFaultKind}
use Rattle.tmpl_meaning.specs.declared.sink.SinkFault.{SinkFault}
use Rattle.tmpl_code.specs.Instruction.{Instruction}
use Rattle.tmpl_code.specs.View.{instruction_of, instructions_of}
use Rattle.tmpl_code.specs.declared.tables.Tables.{Tables}
use Rattle.tmpl_code.specs.declared.instruction.Instruction as held
use Rattle.tmpl_engine.specs.Ends.{Ends}
use Rattle.tmpl_engine.specs.Laws.{Begins}
use Rattle.tmpl_engine.specs.Machine.{Turn, carry_out, ended, fault_in, goes, next_of, ran_so, stuck}
use Rattle.tmpl_engine.specs.Ready.{Has}
use Rattle.tmpl_engine.specs.State.{Plan, State}
use Rattle.tmpl_engine.specs.computed.Came.{Aim, Came, IsStopped, Stands}
use Rattle.tmpl_engine.specs.computed.Machines.{no_template, state_of, with_told}
use Rattle.tmpl_engine.specs.computed.Near.{HasNear, IsNear}
use Rattle.tmpl_engine.specs.computed.Plain.{IsPlain, SparedOr}
use Rattle.tmpl_engine.specs.computed.Turned.{Executed, Lands, added_text, mark_after, put_by, put_out}
use Rattle.tmpl_engine.specs.computed.Turned as turning
use Rattle.tmpl_engine.specs.declared.fault.RunError.{RunError}
use Rattle.tmpl_engine.specs.declared.fault.RunError.TheVariants as error
use Rattle.tmpl_engine.specs.declared.flow.Flow.{Flow}
use Rattle.tmpl_engine.specs.declared.flow.Flow.TheVariants as flow
use Rattle.tmpl_engine.specs.declared.halt.Halt.{Halt}
use Rattle.tmpl_engine.specs.declared.halt.Halt.TheVariants as stop
use Rattle.tmpl_engine.specs.declared.machine.Machine.{Machine}
use Rattle.tmpl_engine.proofs.DoneLemmas.{carry_out-told, each-lessens, ends-so, falls, finds, goes-on, in-code, is-next, mark_at, next-depth, ready, retold, tell}
use Rattle.tmpl_engine.proofs.DoneLemmas.{tells-more, text-begins, work}

-- what is to come to an end has put nothing out yet
pub starts : (plan : Plan) (end : Ran) (room : ℕ) (s : State) (Plain : Type 0) (now : Puts) → Ends plan room (with_told [] false s) end → Plain
    → s.depth + s.left < 2 ^ 64 - 1 → Stands plan (record { end = end; room = room; before = now }) s Plain now
starts plan end room s Plain now ends plain depth =
    record { depth = depth; text = []; made = false; given = IsPut-nil now; ends = ends; plain = λ e. plain }

-- an instruction finds its room near by, where its stack is whole or has three cells more
module _ (room high n size : ℕ) (near : IsNear room high size) (low : n ≤ high) where
  pub near-by : (i : Instruction) → Has i n room → HasNear i n size
  near-by i h = grind arith

module _ {plan : Plan} {aim : Aim} (m : Machine) {now : Puts} (inv : Stands plan aim (state_of m) (IsPlain m) now) where
  abbrev s : State
  s = state_of m

  abbrev end : Ran
  end = aim.end

  abbrev before : Puts
  before = aim.before

  abbrev past : State
  past = with_told inv.text inv.made s

  abbrev room : ℕ
  room = aim.room

  -- there are the template that runs and an instruction
  pub runs : (t : Template) × (slice_get plan.templates m.template ≡ Some t) × (m.place < length plan.code)
  runs = in-code plan room end past inv.ends

  module _ (tables : Tables) (items : List held.Instruction) (same-code : plan.code ≡ instructions_of tables items) where
    same-length : length plan.code ≡ length items
    same-length = ap (λ (is : List Instruction). length is) same-code ∙ length-map items (instruction_of tables)

    pub inside : m.place < length items
    inside = let within = runs.2 in let same = same-length in omega arith

    -- the one at the place
    module _ (other : held.Instruction) where
      abbrev i : Instruction
      i = instruction_of tables (get_or items m.place other)

      here : slice_get plan.code m.place ≡ Some i
      here = ap (λ is. slice_get is m.place) same-code ∙ slice_get-map (instruction_of tables) items m.place
          ∙ ap (option_map (instruction_of tables)) (slice_get-get_or items m.place other inside)

      -- what the turn puts out
      abbrev out : List ℕ
      out = added_text plan.rules.missing_key i s

      -- the text and the mark after a turn that puts this out
      abbrev told : List ℕ → State → State
      told bytes u = with_told (inv.text ++ bytes) (inv.made || mark_after i false) u

      shifted : (u : Turn) → carry_out plan no_template i s ≡ u → carry_out plan runs.0 i past ≡ tell runs.0 (inv.text ++ out) (inv.made || mark_after i false) u
      shifted u e = carry_out-told plan runs.0 inv.text inv.made i s ∙ ap (tell runs.0 (inv.text ++ out) (inv.made || mark_after i false)) e

      next-ends : (u : State) → carry_out plan no_template i s ≡ goes u → Ends plan room (told out u) end
      next-ends u e = goes-on plan room end i runs.0 past here runs.1 inv.ends (told out u) (shifted (goes u) e)

      pub has : Has i (length s.cells) room
      has = ready plan room end i runs.0 past here runs.1 inv.ends

      pub lands : length items < 2 ^ 64 → Lands (carry_out plan no_template i s)
      lands fits = by (carry_out plan no_template i s) refl
        where
          by : (u : Turn) → carry_out plan no_template i s ≡ u → Lands u
          by (goes v) e = let next = in-code plan room end (told out v) (next-ends v e) in let same = same-length in omega arith
          by (ended r) e = tt
          by stuck e = finds plan room end i runs.0 past here runs.1 inv.ends (shifted stuck e)

      -- after a turn that goes on, also where a put failed in it: the run has its end after what it puts out
      record TurnsOn (n : Machine) : Type 0 where
        pub ends : Ends plan room (told out (state_of n)) end
        pub depth : n.depth + n.left ≤ m.depth + m.left
        pub less : work (length plan.code) (state_of n) < work (length plan.code) s

      beyond : (n : Machine) → Executed plan i m n (Ok flow.On) → TurnsOn n
      beyond n step = record {
        ends = next-ends u step;
        depth = (let less = each-lessens plan past (told out u) next in let deep = next-depth plan past (told out u) next in grind arith);
        less = falls plan room end i runs.0 past here runs.1 inv.ends (told out u) (shifted (goes u) step);
      }
        where
          u : State
          u = turning.beyond plan.rules.missing_key i s (state_of n)

          next : next_of plan past ≡ goes (told out u)
          next = is-next plan room end i runs.0 past here runs.1 inv.ends ∙ shifted (goes u) step

      -- memory is refused only where the end bears the mark
      marked : (mark_after i false ≡ false → IsPlain m → ⊥) → end.made_text ≡ true
      marked never = by (inv.made || mark_after i false) refl
        where
          by : (b : Bool) → (inv.made || mark_after i false) ≡ b → end.made_text ≡ true
          by true e = (tells-more plan room end past inv.ends).1 (ap (λ o. mark_at o inv.made) here ∙ e)
          by false e = let both = or_parts inv.made (mark_after i false) e in absurd (never both.1 (inv.plain both.0))

      -- ---- by what it answers

      module _ (n : Machine) (after : Puts) where
        abbrev Gave : Result Flow Halt → Type 0
        Gave r = IsPut (put_by r) now after (put_out plan.rules.missing_key i m r)

        -- what a turn comes to: the loop goes on with fewer steps left, or it ended as the run does
        abbrev pub Outcome : Result Flow Halt → Type 0
        Outcome (Ok flow.On) = Stands plan aim (state_of n) (IsPlain n) after × (work (length plan.code) (state_of n) < work (length plan.code) s)
        Outcome (Ok flow.Over) = Came end before after (Ok tt)
        Outcome (Err halt) = (e : RunError) → IsStopped (slice_get plan.templates m.template) n.line halt e → Came end before after (Err e)

        -- the run is over, or stops at a fault
        over : (fault : Option Fault) → carry_out plan no_template i s ≡ ended (ran_so (turning.beyond plan.rules.missing_key i s s) fault)
            → IsPut {F = SinkFault} (Ok tt) now after out
            → IsPut {F = SinkFault} (Ok tt) before after end.text × (end.fault ≡ retold runs.0 fault)
        over fault e more =
            let so = ends-so plan room end i runs.0 past here runs.1 inv.ends _ (shifted _ e) in
            (IsPut-along (IsPut-append inv.given more) (ap (λ (q : Ran). q.text) so), sym (ap (λ (q : Ran). q.fault) so))

        faulted : (kind : RunFaultKind) → Executed plan i m n (Err (stop.Fault kind)) → IsPut {F = SinkFault} (Ok tt) now after out
            → Outcome (Err (stop.Fault kind))
        faulted kind step more (error.Fault fault) is =
            let came = over (Some (fault_in no_template n.line (cause_of kind))) step more in
            (came.0, came.1 ∙ sym (is ∙ ap (option_map (λ t. fault_in t n.line (cause_of kind))) runs.1))
        faulted kind step more _ is = absurd is

        cut : TurnsOn n → IsPut {F = SinkFault} (Err (record {})) now after out → Outcome (Err stop.WriteFailed)
        cut b put e is =
            let begins = text-begins plan room end (told out (state_of n)) b.ends in
            subst (λ f. Came end before after (Err f)) (sym is)
            (IsPut-along (IsPut-stop {r = Err (record {})} begins.0 refl (IsPut-append inv.given put)) (sym begins.1))

        refused : IsPut {F = SinkFault} (Ok tt) now after [] → (mark_after i false ≡ false → IsPlain m → ⊥) → Outcome (Err stop.OutOfMemory)
        refused more never e is = subst (λ f. Came end before after (Err f)) (sym is) (
          inv.text ++ [],
          subst (λ l. Begins l end.text) (sym (append-nil inv.text)) (text-begins plan room end past inv.ends),
          IsPut-append inv.given more,
          marked never,
        )

        on : Executed plan i m n (Ok flow.On) → Gave (Ok flow.On) → (mark_after i false ≡ false → IsPlain m → IsPlain n) → Outcome (Ok flow.On)
        on step more plain =
            let later = beyond n step in (
              record {
                depth = let deep = inv.depth in let deeper = later.depth in omega arith;
                text = inv.text ++ out;
                made = inv.made || mark_after i false;
                given = IsPut-append inv.given more;
                ends = later.ends;
                plain = λ e. let both = or_parts inv.made (mark_after i false) e in plain both.1 (inv.plain both.0);
              },
              later.less,
            )

        by : (r : Result Flow Halt) → Executed plan i m n r → Gave r → (mark_after i false ≡ false → IsPlain m → SparedOr r (IsPlain n)) → Outcome r
        by (Ok flow.On) step more plain = on step more plain
        by (Ok flow.Over) step more plain = over None step more
        by (Err (stop.Fault kind)) step more plain = faulted kind step more
        by (Err stop.WriteFailed) step more plain = cut (beyond n step) more
        by (Err stop.OutOfMemory) step more never = refused more never

        pub turned : (r q : Result Flow Halt) → r ≡ q → Executed plan i m n r → Gave r
            → (mark_after i false ≡ false → IsPlain m → SparedOr r (IsPlain n)) → Outcome q
        turned r q same did more spared = subst Outcome same (by r did more spared)
