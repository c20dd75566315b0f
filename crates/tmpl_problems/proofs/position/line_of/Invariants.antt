use Rattle.tmpl_problems.specs.Position.{IsStart}
use Rattle.tmpl_problems.proofs.position.line_of.Given as goal

abbrev pub invariant-loop-name : goal.invariant-loop-name
invariant-loop-name l = IsStart l.bytes l.part.start
