use Rattle.std.proofs.lemmas.Result.{on_ok_weaker}
use Rattle.tmpl_report.proofs.OutputLemmas.{one-broken}
use Rattle.tmpl_report.proofs.output.add_over_data.Goals as goal

pub returns : goal.returns
returns c =
    on_ok_weaker c.add.result (λ e. one-broken c.args.findings.now c.add.new.self c.broken_finding-finding.result c.broken_finding-finding.ensures e) c.add.ensures
