use Rattle.std.proofs.Common.{◌≡◌, ◌∙◌, ◌++◌, ◌≤◌, ap, arith, drop, length, refl, subst, sym, take, []}
use Rattle.std.proofs.Math.Seq.{take-append_seam}
use Rattle.std.specs.Prelude.{IfSome, option_map, slice_get, vec_capacity}
use Rattle.tmpl_values.specs.Put.{Puts}
use Rattle.tmpl_values.specs.View.{value_of}
use Rattle.tmpl_meaning.specs.Meaning.{Ran, ran}
use Rattle.tmpl_syntax.specs.View.{set_view}
use Rattle.tmpl_meaning.specs.Sink.{sunk}
use Rattle.tmpl_meaning.specs.View.{rules_of}
use Rattle.tmpl_code.specs.declared.program.Parts.{Parts}
use Rattle.tmpl_engine.specs.Run.{IsRun}
use Rattle.tmpl_engine.specs.State.{Plan, State}
use Rattle.tmpl_engine.specs.computed.Came.{Came, Stands}
use Rattle.tmpl_engine.specs.computed.Output.{Grows, given_of, waiting}
use Rattle.tmpl_engine.specs.computed.Paused.{IsPausedPlain, paused_state}
use Rattle.tmpl_engine.specs.computed.Plan.{plan_of}
use Rattle.tmpl_engine.proofs.OutputLemmas.{beyond, grows-on}
use Rattle.tmpl_engine.proofs.RunLemmas.{comes-to, counts-so}
use Rattle.tmpl_engine.proofs.StartLemmas.{can-run, comes-so, has-start, meant-so, ran_from, stands-so, three}
use Rattle.tmpl_engine.proofs.reserved.run_reserved.Goals as goal

pub begin-paused-requires-clause-entry : goal.begin-paused-requires-clause-entry
begin-paused-requires-clause-entry g c =
    let p = c.parts-parts in
    let can = can-run c.args.options.now (vec_capacity c.args.cells.now) c.args.entry.number p.result.now c.args.program.now p.ensures.value p.ensures.linked
    c.requires.entry c.args.options.now.depth_in_range.0 c.requires.room in
    has-start can

pub begin-paused-requires-clause-room : goal.begin-paused-requires-clause-room
begin-paused-requires-clause-room g c =
    let p = c.parts-parts in
    let can = can-run c.args.options.now (vec_capacity c.args.cells.now) c.args.entry.number p.result.now c.args.program.now p.ensures.value p.ensures.linked
    c.requires.entry c.args.options.now.depth_in_range.0 c.requires.room in
    let some = c.fill.ensures.some (three can) in
    let lent = c.as_mut_slice.ensures.len in
    omega (arith, some, lent)

pub finish-end-requires : goal.finish-end-requires
finish-end-requires g c =
    let p = c.parts-parts in
    let plan = plan_of c.args.options.now p.result.now in
    let size = vec_capacity c.args.cells.now in
    let can = can-run c.args.options.now size c.args.entry.number p.result.now c.args.program.now p.ensures.value p.ensures.linked
    c.requires.entry c.args.options.now.depth_in_range.0 c.requires.room in
    let begun = c.begin-paused.ensures in
    let paused = c.begin-paused.result in
    let cells = c.begin-paused.new.cells in
    let rest = drop (length cells) c.fill.new.cells.items in
    let long : length cells ≡ c.fill.new.cells.len = begun.size ∙ c.as_mut_slice.ensures.len in
    let back : cells ≡ take c.fill.new.cells.len (cells ++ rest) = sym (ap (λ n. take n (cells ++ rest)) (sym long) ∙ take-append_seam cells rest) in
    let steps = c.args.options.now.steps_in_range.1 in
    let now = given_of (g.S.Sink.so_far c.args.out.now) c.new-piece.result in
    let s = paused_state paused cells in
    let stands = stands-so can s (IsPausedPlain paused cells) now _ begun.state (comes-so can s _ begun.state) begun.plain (omega (arith, steps))
    (vec_capacity c.fill.new.cells) c.fill.ensures.capacity in
    let some = c.fill.ensures.some (three can) in
    λ κs h. (
      h,
      (
        subst (λ l. paused.top ≤ length l) back begun.top,
        (
          subst (λ l. 3 ≤ length l) back (omega (arith, some, long)),
          (
            subst
                (λ l. Stands plan (record { end = ran_from plan (paused_state paused l); room = vec_capacity c.fill.new.cells; before = now })
                (paused_state paused l) (IsPausedPlain paused l) now) back stands,
            (refl, (c.requires.countable, p.ensures.outline)),
          ),
        ),
      ),
    )

pub close-requires : goal.close-requires
close-requires g c = λ kept. omega (arith, counts-so _ _ _ c.finish-end.result c.finish-end.ensures.came kept, c.requires.countable)

pub returns : goal.returns
returns g c =
    let p = c.parts-parts in
    let plan : Plan = plan_of c.args.options.now p.result.now in
    let size = vec_capacity c.args.cells.now in
    let can = can-run c.args.options.now size c.args.entry.number p.result.now c.args.program.now p.ensures.value p.ensures.linked
    c.requires.entry c.args.options.now.depth_in_range.0 c.requires.room in
    let cells = c.begin-paused.new.cells in
    let rest = drop (length cells) c.fill.new.cells.items in
    let long : length cells ≡ c.fill.new.cells.len = c.begin-paused.ensures.size ∙ c.as_mut_slice.ensures.len in
    let back : take c.fill.new.cells.len (cells ++ rest) ≡ cells = ap (λ n. take n (cells ++ rest)) (sym long) ∙ take-append_seam cells rest in
    let s : State = paused_state c.begin-paused.result cells in
    let end : Ran = ran_from plan s in
    let before = g.S.Sink.so_far c.args.out.now in
    let middle = g.S.Sink.so_far c.finish-end.new.sink in
    let after = g.S.Sink.so_far c.close.new.sink in
    let input = option_map (λ d. value_of d.now) c.args.data in
    let mid : Puts = given_of middle c.finish-end.new.piece in
    let came : Came end (beyond before [] 0) mid c.finish-end.result =
    subst (λ l. Came end (beyond before l 0) mid c.finish-end.result) c.new-piece.ensures
    (subst (λ cs. Came (ran_from plan (paused_state c.begin-paused.result cs)) (given_of before c.new-piece.result) mid c.finish-end.result) back
    c.finish-end.ensures.came) in
    let grows : Grows before after = grows-on _ _ _ c.finish-end.ensures.taken c.close.ensures.taken in
    subst (λ (q : Parts). IfSome (slice_get (set_view q.set.value) c.args.entry.number)
    (λ t. IsRun (ran (rules_of c.args.options.now) (set_view q.set.value) t.0 t.1 input) (sunk before after) c.close.result))
    p.ensures.value
    (meant-so can (λ (r : Ran). IsRun r (sunk before after) c.close.result) input s c.begin-paused.ensures.state
    (comes-to end before after (waiting c.close.new.piece) 0 grows 0 c.finish-end.result c.close.result mid came c.close.ensures.closed))
