use Rattle.tmpl_engine.specs.computed.Machines.{state_of}
use Rattle.tmpl_engine.specs.computed.Output.{given_of}
use Rattle.tmpl_engine.specs.computed.Plan.{plan_of}
use Rattle.tmpl_engine.specs.computed.View.{size_of}
use Rattle.tmpl_engine.proofs.StartLemmas.{ran_from}
use Rattle.tmpl_engine.proofs.runner.run.Given as goal

abbrev pub ghost-turns : goal.ghost-turns
ghost-turns g a = record {
  end = ran_from (plan_of a.options.now a.program.now) (state_of a.self.now);
  room = size_of a.self.now.stack;
  before = given_of (g.S.Sink.so_far a.sink.now) a.piece.now;
}
