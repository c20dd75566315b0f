use Rattle.tmpl_problems.proofs.ErrorLemmas.{more-added, more-none}
use Rattle.tmpl_report.proofs.schema.add_unseen.Goals as goal

pub returns-then-is_told-clause-more : goal.returns-then-is_told-clause-more
returns-then-is_told-clause-more c = more-none c.args.findings.now

pub returns-clause-more : goal.returns-clause-more
returns-clause-more c = more-added c.args.findings.now c.add.new.self _ c.in_ok-add.ensures
