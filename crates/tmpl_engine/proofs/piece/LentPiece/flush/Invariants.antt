use Rattle.std.proofs.Common.{length, Ok, []}
use Rattle.tmpl_meaning.specs.Sink.{IsPut}
use Rattle.tmpl_meaning.specs.declared.sink.SinkFault.{SinkFault}
use Rattle.tmpl_engine.specs.computed.Output.{Grows, given_of, waiting}
use Rattle.tmpl_engine.proofs.piece.LentPiece.flush.Given as goal

abbrev pub invariant-loop-sink : goal.invariant-loop-sink
invariant-loop-sink g l = record {
  given : IsPut {F = SinkFault} (Ok tt) (given_of (g.S.Sink.so_far l.initial.sink) l.initial.self) (given_of (g.S.Sink.so_far l.sink) l.self) [];
  taken : Grows (g.S.Sink.so_far l.initial.sink) (g.S.Sink.so_far l.sink);
}

abbrev pub decreases-loop-sink : goal.decreases-loop-sink
decreases-loop-sink g l = length (waiting l.self)
