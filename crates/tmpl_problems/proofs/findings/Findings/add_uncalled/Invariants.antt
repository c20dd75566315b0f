use Rattle.std.proofs.Common.{◌≡◌}
use Rattle.tmpl_problems.specs.Errors.{errors_in}
use Rattle.tmpl_problems.proofs.findings.Findings.add_uncalled.Given as goal

abbrev pub invariant-loop-definition : goal.invariant-loop-definition
invariant-loop-definition l = errors_in l.self ≡ errors_in l.initial.self
