use Rattle.std.proofs.Common.{◌≡◌}
use Rattle.tmpl_problems.specs.Errors.{errors_in}
use Rattle.tmpl_report.proofs.schema.warn_of_schema.Given as goal

abbrev pub invariant-loop-warning : goal.invariant-loop-warning
invariant-loop-warning l = errors_in l.findings ≡ errors_in l.fn.findings
