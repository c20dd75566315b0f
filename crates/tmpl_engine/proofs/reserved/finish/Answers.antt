use Rattle.std.proofs.Common.{◌≡◌, ◌∙◌, ◌++◌, ap, arith, drop, length, subst, sym, take, Ok}
use Rattle.std.proofs.Math.Seq.{take-append_seam}
use Rattle.std.proofs.lemmas.List.{length-take}
use Rattle.tmpl_engine.specs.computed.Came.{IsLeft}
use Rattle.tmpl_engine.specs.computed.Output.{given_of}
use Rattle.tmpl_engine.specs.computed.Paused.{IsPausedPlain, paused_state}
use Rattle.tmpl_engine.specs.computed.Plan.{plan_of}
use Rattle.tmpl_engine.specs.declared.flow.Flow.TheVariants as flow
use Rattle.tmpl_engine.proofs.OutputLemmas.{grows-on}
use Rattle.tmpl_engine.proofs.ReservedLemmas.{plain-grown, stands-as, state-grown}
use Rattle.tmpl_engine.proofs.reserved.finish.Goals as goal

pub loop-cells-preserved : goal.loop-cells-preserved
loop-cells-preserved g c =
    let inv = c.loop-cells.invariant in
    let did = c.go_on-next.ensures in
    let p = c.go_on-next.result.0 in
    let old = c.go_on-next.new.cells in
    let new = c.fill.new.cells.items in
    let plan = plan_of c.args.options.now c.args.program.now in
    let now = given_of (g.S.Sink.so_far c.go_on-next.new.sink) c.go_on-next.new.piece in
    let rest = drop (length old) c.loop-cells.cells.items in
    let long : length old ≡ c.loop-cells.cells.len = did.size ∙ c.as_mut_slice.ensures.len in
    let back : take c.loop-cells.cells.len (old ++ rest) ≡ old = ap (λ n. take n (old ++ rest)) (sym long) ∙ take-append_seam old rest in
    let kept : take (length old) new ≡ old = subst (λ l. take (length l) new ≡ l) back c.fill.ensures.kept in
    let a = c.in-Ok-On.is in
    let b = c.in-Ok-On.field-0-is in
    let on : c.in-Ok-On.field-0 ≡ flow.On = rw a at b in
    let went : c.go_on-next.result.1 ≡ Ok flow.On = a ∙ ap Ok on in
    let left : IsLeft plan g.aim (paused_state p old) (IsPausedPlain p old) now (Ok flow.On) =
    subst (λ r. IsLeft plan g.aim (paused_state p old) (IsPausedPlain p old) now r) went did.left in
    let some = inv.some in
    let within = did.top in
    let count = ap length kept in
    let taken = length-take (length old) new in
    let whole = c.loop-cells.cells.ok in
    let filled = c.fill.new.cells.ok in
    let more = c.fill.ensures.some in
    record {
      top = omega (arith, within, count, taken);
      some = let enough = more (omega (arith, some, whole)) in omega (arith, enough, filled);
      stands = stands-as plan g.aim now _ _ _ _ (state-grown p old new within kept) (plain-grown p old new within kept) left;
      room = inv.room ∙ sym c.fill.ensures.capacity;
      taken = grows-on _ _ _ inv.taken did.taken;
    }

pub returns-in-Ok-Over-clause-taken : goal.returns-in-Ok-Over-clause-taken
returns-in-Ok-Over-clause-taken g c = grows-on _ _ _ c.loop-cells.invariant.taken c.go_on-next.ensures.taken

pub returns-in-Err-clause-taken : goal.returns-in-Err-clause-taken
returns-in-Err-clause-taken g c = grows-on _ _ _ c.loop-cells.invariant.taken c.go_on-next.ensures.taken
