use Rattle.tmpl_problems.specs.computed.Added.{HasMore}
use Rattle.tmpl_report.proofs.schema.add_doubts.Given as goal

abbrev pub invariant-loop-index : goal.invariant-loop-index
invariant-loop-index l = HasMore l.initial.findings l.findings
