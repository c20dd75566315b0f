use Rattle.tmpl_problems.proofs.ErrorLemmas.{more-none, more-then}
use Rattle.tmpl_report.proofs.schema.add_doubts.Goals as goal

pub loop-index-init : goal.loop-index-init
loop-index-init c = more-none c.args.findings.now

pub loop-index-preserved : goal.loop-index-preserved
loop-index-preserved c =
    more-then c.args.findings.now c.loop-index.findings c.add_once.new.self c.loop-index.invariant c.in_ok-add_once.ensures.more
