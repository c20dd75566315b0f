use Rattle.std.proofs.Common.{arith, Ok, Err, option_map, slice_get}
use Rattle.tmpl_values.specs.View.{value_of}
use Rattle.tmpl_syntax.specs.View.{set_view}
use Rattle.tmpl_meaning.specs.Sink.{sunk}
use Rattle.tmpl_meaning.specs.View.{rules_of}
use Rattle.tmpl_engine.proofs.RenderLemmas.{run_of}
use Rattle.tmpl_engine.proofs.rendering.run_numbered.Goals as goal

pub run_reserved-end-requires-clause-room : goal.run_reserved-end-requires-clause-room
run_reserved-end-requires-clause-room g c = λ rest chain short.
    let enough = c.cells_for-count.ensures.enough rest chain short in
    let held = c.in-Ok.ensures.exact in
    omega (arith, enough, held)

pub returns-in-Ok-end : goal.returns-in-Ok-end
returns-in-Ok-end g c =
    let set = set_view c.args.program.now.set.value in
    run_of (rules_of c.args.options.now) set (option_map (λ d. value_of d.now) c.args.data)
    (sunk (g.S.Sink.so_far c.args.out.now) (g.S.Sink.so_far c.run_reserved-end.new.out)) (Ok c.in-Ok-end.field-0) (slice_get set c.args.number)
    c.in-Ok-end.ensures

pub returns : goal.returns
returns g c =
    let set = set_view c.args.program.now.set.value in
    rw c.from.ensures
    (run_of (rules_of c.args.options.now) set (option_map (λ d. value_of d.now) c.args.data)
    (sunk (g.S.Sink.so_far c.args.out.now) (g.S.Sink.so_far c.run_reserved-end.new.out)) (Err c.in-Err.error) (slice_get set c.args.number) c.in-Err.ensures)
