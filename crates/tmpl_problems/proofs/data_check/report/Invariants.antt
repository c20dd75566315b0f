use Rattle.tmpl_syntax.specs.Column.{IsPlace}
use Rattle.tmpl_problems.proofs.data_check.report.Given as goal

abbrev pub invariant-loop-wrong : goal.invariant-loop-wrong
invariant-loop-wrong l = IsPlace l.bytes l.place
