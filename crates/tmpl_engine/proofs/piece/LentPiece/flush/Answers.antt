use Rattle.std.proofs.Common.{[], take}
use Rattle.tmpl_values.proofs.PutLemmas.{IsPut-append}
use Rattle.tmpl_engine.specs.computed.Output.{waiting}
use Rattle.tmpl_engine.proofs.OutputLemmas.{given-on, grows-on}
use Rattle.tmpl_engine.proofs.piece.LentPiece.flush.Goals as goal

pub loop-sink-preserved : goal.loop-sink-preserved
loop-sink-preserved g c =
    let s = c.loop-sink.self in
    let here = g.S.Sink.so_far c.loop-sink.sink in
    let next = g.S.Sink.so_far c.put.new.self in
    let count = c.in_ok-count.count in
    let shown = c.waiting.result.now in
    let took = c.in_ok-count.ensures.taken in
    record {
      given = IsPut-append {a = []} c.loop-sink.invariant.given (given-on here next (waiting s) shown (waiting c.pass.new.self) count 0 took c.waiting.ensures
          c.pass.ensures);
      taken = grows-on _ _ _ c.loop-sink.invariant.taken (take count shown, λ i. (took i).bytes);
    }
