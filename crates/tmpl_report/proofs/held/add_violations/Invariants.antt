use Rattle.tmpl_report.specs.computed.Added.{AddsUnfit}
use Rattle.tmpl_report.proofs.held.add_violations.Given as goal

abbrev pub invariant-loop-violation : goal.invariant-loop-violation
invariant-loop-violation l = AddsUnfit l.initial.findings l.findings
