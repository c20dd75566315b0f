use Rattle.std.proofs.Common.{vec_capacity}
use Rattle.tmpl_engine.specs.computed.Output.{given_of}
use Rattle.tmpl_engine.specs.computed.Paused.{paused_state}
use Rattle.tmpl_engine.specs.computed.Plan.{plan_of}
use Rattle.tmpl_engine.proofs.StartLemmas.{ran_from}
use Rattle.tmpl_engine.proofs.reserved.run_reserved.Given as goal

abbrev pub ghost-finish : goal.ghost-finish
ghost-finish g a = record {
  end = ran_from (plan_of a.options.now a.program.now) (paused_state a.paused a.cells.now.items);
  room = vec_capacity a.cells.now;
  before = given_of (g.S.Sink.so_far a.sink.now) a.piece.now;
}
