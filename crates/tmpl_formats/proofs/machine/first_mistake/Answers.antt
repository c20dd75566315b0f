use Rattle.std.proofs.Common.{arith, sym}
use Rattle.tmpl_formats.proofs.MachineLemmas.{stepped, stopped, ended, cut_short}
use Rattle.tmpl_formats.proofs.machine.first_mistake.Goals as goal

pub returns-in-None : goal.returns-in-None
returns-in-None g c = stopped _ _ _ _ _ _ (omega arith) c.loop-offset.invariant (sym c.in-None.ensures)

pub loop-offset-preserved : goal.loop-offset-preserved
loop-offset-preserved g c = stepped _ _ _ _ _ _ _ (omega arith) c.loop-offset.invariant (sym c.in-Some.ensures)

pub returns-then-ends : goal.returns-then-ends
returns-then-ends g c = ended _ _ _ _ _ _ (omega arith) c.loop-offset.invariant (sym c.if-ends.ensures)

pub returns-else-ends : goal.returns-else-ends
returns-else-ends g c = cut_short _ _ _ _ _ _ (omega arith) c.loop-offset.invariant (sym c.if-ends.ensures)
