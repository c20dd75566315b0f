use Rattle.std.proofs.Common.{◌≡◌}
use Rattle.tmpl_problems.specs.Errors.{errors_in}
use Rattle.tmpl_problems.proofs.findings.Findings.add_calls.Given as goal

abbrev pub invariant-loop-call : goal.invariant-loop-call
invariant-loop-call l = errors_in l.self ≡ errors_in l.initial.self
