use Rattle.std.proofs.Common.{◌≡◌}
use Rattle.tmpl_problems.specs.Errors.{errors_in}
use Rattle.tmpl_problems.proofs.findings.Findings.add_warnings.Given as goal

abbrev pub invariant-loop-warning : goal.invariant-loop-warning
invariant-loop-warning l = errors_in l.self ≡ errors_in l.initial.self
