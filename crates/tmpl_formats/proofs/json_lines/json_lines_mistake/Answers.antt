use Rattle.std.proofs.Common.{arith, sym}
use Rattle.tmpl_formats.proofs.MachineLemmas.{stepped, stopped, ended, cut_short}
use Rattle.tmpl_formats.proofs.json_lines.json_lines_mistake.Goals as goal

pub returns-then-not-branch : goal.returns-then-not-branch
returns-then-not-branch c = stopped _ _ _ _ _ _ (omega arith) c.loop-offset.invariant (rw c.if-not-branch.true at c.in_ok-advance_lines.ensures)

pub loop-offset-preserved : goal.loop-offset-preserved
loop-offset-preserved c = stepped _ _ _ _ _ _ _ (omega arith) c.loop-offset.invariant (rw c.if-not-branch.false at c.in_ok-advance_lines.ensures)

pub returns-then-may_break : goal.returns-then-may_break
returns-then-may_break c = ended _ _ _ _ _ _ (omega arith) c.loop-offset.invariant (sym c.if-may_break.ensures)

pub returns : goal.returns
returns c = cut_short _ _ _ _ _ _ (omega arith) c.loop-offset.invariant (sym c.if-may_break.ensures)
