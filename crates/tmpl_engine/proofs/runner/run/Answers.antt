use Rattle.std.proofs.Common.{arith, inl, refl, subst, sym, length, []}
use Rattle.std.specs.Prelude.{IfSome, option_map, slice_get}
use Rattle.tmpl_values.specs.Put.{Puts}
use Rattle.tmpl_values.specs.View.{value_of}
use Rattle.tmpl_meaning.specs.Meaning.{Ran, ran}
use Rattle.tmpl_syntax.specs.View.{set_view}
use Rattle.tmpl_meaning.specs.Sink.{sunk}
use Rattle.tmpl_meaning.specs.View.{rules_of}
use Rattle.tmpl_code.specs.declared.program.Parts.{Parts}
use Rattle.tmpl_engine.specs.computed.Came.{Came, ended_by}
use Rattle.tmpl_engine.specs.computed.Machines.{state_of}
use Rattle.tmpl_engine.specs.computed.Output.{Grows, given_of, waiting}
use Rattle.tmpl_engine.specs.Run.{IsRun}
use Rattle.tmpl_engine.specs.computed.Plain.{IsPlain}
use Rattle.tmpl_engine.specs.computed.Plan.{plan_of}
use Rattle.tmpl_engine.specs.computed.View.{size_of}
use Rattle.tmpl_engine.specs.State.{Plan, State}
use Rattle.tmpl_engine.proofs.OutputLemmas.{beyond, grows-on}
use Rattle.tmpl_engine.proofs.QuietLemmas.{spared}
use Rattle.tmpl_engine.proofs.RunLemmas.{comes-to, counts-so, left-came}
use Rattle.tmpl_engine.proofs.StartLemmas.{can-run, comes-so, has-start, meant-so, ran_from, stands-so, three}
use Rattle.tmpl_engine.proofs.runner.run.Goals as goal

pub start-machine-requires : goal.start-machine-requires
start-machine-requires g c =
    let p = c.parts-parts in
    let can = can-run c.args.options.now (length c.args.cells.now) c.args.entry.number p.result.now c.args.program.now p.ensures.value p.ensures.linked
    c.requires.entry c.args.options.now.depth_in_range.0 c.requires.room in
    record { entry = has-start can; room = three can }

pub turns-end-requires : goal.turns-end-requires
turns-end-requires g c =
    let p = c.parts-parts in
    let begun = c.start-machine.ensures in
    let m = c.start-machine.result in
    let can = can-run c.args.options.now (length c.args.cells.now) c.args.entry.number p.result.now c.args.program.now p.ensures.value p.ensures.linked
    c.requires.entry c.args.options.now.depth_in_range.0 c.requires.room in
    let steps = c.args.options.now.steps_in_range.1 in
    let now = given_of (g.S.Sink.so_far c.args.out.now) c.new-piece.result in
    λ κs h. (
      h,
      (
        stands-so can (state_of m) (IsPlain m) now _ begun.state (comes-so can (state_of m) _ begun.state) begun.plain (omega (arith, steps))
            (size_of m.stack) begun.size,
        (inl refl, (c.requires.countable, p.ensures.outline)),
      ),
    )

pub close-requires : goal.close-requires
close-requires g c =
    let end = c.turns-end.ensures in
    let came = left-came _ _ _ _ _ c.turns-end.result end.left (λ on. let short = end.short on in omega (arith, short)) in
    λ kept. omega (arith, counts-so _ _ _ _ came (rw (sym c.ended.ensures) kept), c.requires.countable)

pub returns-clause-runs : goal.returns-clause-runs
returns-clause-runs g c =
    let p = c.parts-parts in
    let plan : Plan = plan_of c.args.options.now p.result.now in
    let can = can-run c.args.options.now (length c.args.cells.now) c.args.entry.number p.result.now c.args.program.now p.ensures.value p.ensures.linked
    c.requires.entry c.args.options.now.depth_in_range.0 c.requires.room in
    let s : State = state_of c.start-machine.result in
    let end : Ran = ran_from plan s in
    let before = g.S.Sink.so_far c.args.out.now in
    let middle = g.S.Sink.so_far c.turns-end.new.sink in
    let after = g.S.Sink.so_far c.close.new.sink in
    let input = option_map (λ d. value_of d.now) c.args.data in
    let mid : Puts = given_of middle c.turns-end.new.piece in
    let left = left-came _ _ _ _ _ c.turns-end.result c.turns-end.ensures.left (λ on. let short = c.turns-end.ensures.short on in omega (arith, short)) in
    let came : Came end (beyond before [] 0) mid c.ended.result =
    subst (λ e. Came end (beyond before [] 0) mid e) (sym c.ended.ensures)
    (subst (λ l. Came end (beyond before l 0) mid (ended_by c.turns-end.result)) c.new-piece.ensures left) in
    let grows : Grows before after = grows-on _ _ _ c.turns-end.ensures.taken c.close.ensures.taken in
    subst (λ (q : Parts). IfSome (slice_get (set_view q.set.value) c.args.entry.number)
    (λ t. IsRun (ran (rules_of c.args.options.now) (set_view q.set.value) t.0 t.1 input) (sunk before after) c.close.result))
    p.ensures.value
    (meant-so can (λ (r : Ran). IsRun r (sunk before after) c.close.result) input s c.start-machine.ensures.state
    (comes-to end before after (waiting c.close.new.piece) 0 grows 0 c.ended.result c.close.result mid came c.close.ensures.closed))

pub returns-clause-no_spurious_oom : goal.returns-clause-no_spurious_oom
returns-clause-no_spurious_oom g c =
    spared (rules_of c.args.options.now) (set_view c.args.program.now.set.value) c.args.entry.number (option_map (λ d. value_of d.now) c.args.data)
    (sunk (g.S.Sink.so_far c.args.out.now) (g.S.Sink.so_far c.close.new.sink)) c.close.result c.requires.entry (returns-clause-runs g c)
