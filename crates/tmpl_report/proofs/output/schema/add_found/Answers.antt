use Rattle.tmpl_report.proofs.OutputLemmas.{broken-more, nothing-broken}
use Rattle.tmpl_report.proofs.output.schema.add_found.Goals as goal

pub loop-one-init : goal.loop-one-init
loop-one-init c = nothing-broken c.args.findings.now

pub loop-one-preserved : goal.loop-one-preserved
loop-one-preserved c =
    broken-more c.args.findings.now c.loop-one.findings c.add.new.self c.broken_finding-finding.result c.loop-one.invariant c.broken_finding-finding.ensures c.in_ok-add.ensures
