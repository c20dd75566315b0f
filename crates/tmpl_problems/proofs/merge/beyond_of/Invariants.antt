use Rattle.tmpl_syntax.specs.Column.{IsPlace}
use Rattle.tmpl_problems.proofs.merge.beyond_of.Given as goal

abbrev pub invariant-loop : goal.invariant-loop
invariant-loop l = IsPlace l.bytes l.place
