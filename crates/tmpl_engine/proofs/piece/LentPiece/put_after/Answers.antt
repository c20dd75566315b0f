use Rattle.tmpl_values.proofs.PutLemmas.{IsPut-stop}
use Rattle.tmpl_engine.proofs.OutputLemmas.{grows-on, grows-put}
use Rattle.tmpl_engine.proofs.piece.LentPiece.put_after.Goals as goal

pub returns-in_err-flush-clause-given : goal.returns-in_err-flush-clause-given
returns-in_err-flush-clause-given g c = IsPut-stop c.args.bytes.now c.from_residual.ensures.0 c.in_err-flush.ensures.given

pub returns-then-bytes-room-clause-taken : goal.returns-then-bytes-room-clause-taken
returns-then-bytes-room-clause-taken g c = grows-on _ _ _ c.in_ok-flush.ensures.taken
    (grows-put c.put_all.result (g.S.Sink.so_far c.flush.new.sink) (g.S.Sink.so_far c.put_all.new.sink) _ c.put_all.ensures)
