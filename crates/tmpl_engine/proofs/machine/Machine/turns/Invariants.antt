use Rattle.std.proofs.Common.{length}
use Rattle.tmpl_engine.specs.computed.Machines.{state_of}
use Rattle.tmpl_engine.specs.computed.Output.{Grows, given_of}
use Rattle.tmpl_engine.specs.computed.Plan.{plan_of}
use Rattle.tmpl_engine.specs.computed.Came.{Stands}
use Rattle.tmpl_engine.specs.computed.Plain.{IsPlain}
use Rattle.tmpl_engine.specs.computed.View.{IsSameRoom}
use Rattle.tmpl_engine.proofs.DoneLemmas.{work}
use Rattle.tmpl_engine.proofs.machine.Machine.turns.Given as goal

abbrev pub invariant-loop-instructions : goal.invariant-loop-instructions
invariant-loop-instructions g l = record {
  taken : Grows (g.S.Sink.so_far l.initial.sink) (g.S.Sink.so_far l.sink);
  stands : Stands (plan_of l.options l.program) g.aim (state_of l.self) (IsPlain l.self) (given_of (g.S.Sink.so_far l.sink) l.piece);
  size : IsSameRoom l.initial.self.stack l.self.stack;
}

abbrev pub decreases-loop-instructions : goal.decreases-loop-instructions
decreases-loop-instructions g l = let plan = plan_of l.options l.program in work (length plan.code) (state_of l.self)
