use Rattle.std.proofs.lemmas.Result.{on_ok_weaker}
use Rattle.tmpl_meaning.specs.View.{fault_seen}
use Rattle.tmpl_report.proofs.ValueLemmas.{fault-added}
use Rattle.tmpl_report.proofs.values.add_fault.Goals as goal

pub returns-clause-added : goal.returns-clause-added
returns-clause-added c =
    on_ok_weaker c.add.result (λ e. fault-added (fault_seen c.args.fault.now) c.args.findings.now c.add.new.self _ c.in_ok-finding.ensures e) c.add.ensures
