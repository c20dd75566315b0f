use Rattle.tmpl_problems.proofs.ErrorLemmas.{more-then}
use Rattle.tmpl_report.proofs.schema.add_unread.Goals as goal

pub returns-clause-more : goal.returns-clause-more
returns-clause-more c =
    let told = c.in_ok-add_data.ensures.matches_spec in
    more-then c.args.findings.now c.add_data.new.self c.add_unseen.new.findings (told.0, told.2) c.in_ok-add_unseen.ensures.more
