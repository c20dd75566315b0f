use Rattle.tmpl_formats.proofs.MachineLemmas.{IsAt}
use Rattle.tmpl_formats.proofs.machine.first_mistake.Given as goal

abbrev pub invariant-loop-offset : goal.invariant-loop-offset
invariant-loop-offset g l = IsAt g.M.Machine.after g.M.Machine.may_end l.fn.start l.text l.offset l.machine
