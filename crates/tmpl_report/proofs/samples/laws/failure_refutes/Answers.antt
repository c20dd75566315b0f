use Rattle.tmpl_report.proofs.FailureLemmas.{failure-refutes}
use Rattle.tmpl_report.proofs.samples.laws.failure_refutes.Goals as goal

pub returns : goal.returns
returns c = failure-refutes
