use Rattle.tmpl_problems.specs.computed.Added.{AddsOfReason}
use Rattle.tmpl_problems.proofs.findings.Findings.add_data_problems.Given as goal

abbrev pub invariant-loop-problem : goal.invariant-loop-problem
invariant-loop-problem l = AddsOfReason l.file l.reason l.fn.self l.self
