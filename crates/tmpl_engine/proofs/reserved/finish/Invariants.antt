use Rattle.std.proofs.Common.{◌≡◌, ◌-◌, ◌≤◌, length, vec_capacity}
use Rattle.tmpl_engine.specs.computed.Came.{Stands}
use Rattle.tmpl_engine.specs.computed.Output.{Grows, given_of}
use Rattle.tmpl_engine.specs.computed.Paused.{IsPausedPlain, paused_state}
use Rattle.tmpl_engine.specs.computed.Plan.{plan_of}
use Rattle.tmpl_engine.proofs.reserved.finish.Given as goal

abbrev pub ghost-go_on : goal.ghost-go_on
ghost-go_on g a = g.aim

abbrev pub invariant-loop-cells : goal.invariant-loop-cells
invariant-loop-cells g l = record {
  top : l.paused.top ≤ length l.cells.items;
  some : 3 ≤ length l.cells.items;
  stands : Stands (plan_of l.options l.program) g.aim (paused_state l.paused l.cells.items) (IsPausedPlain l.paused l.cells.items)
      (given_of (g.S.Sink.so_far l.sink) l.piece);
  room : g.aim.room ≡ vec_capacity l.cells;
  taken : Grows (g.S.Sink.so_far l.initial.sink) (g.S.Sink.so_far l.sink);
}

abbrev pub decreases-loop-cells : goal.decreases-loop-cells
decreases-loop-cells g l = vec_capacity l.cells - length l.cells.items
