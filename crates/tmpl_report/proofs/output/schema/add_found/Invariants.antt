use Rattle.tmpl_report.specs.computed.Added.{AddsBroken}
use Rattle.tmpl_report.proofs.output.schema.add_found.Given as goal

abbrev pub invariant-loop-one : goal.invariant-loop-one
invariant-loop-one l = AddsBroken l.initial.findings l.findings
