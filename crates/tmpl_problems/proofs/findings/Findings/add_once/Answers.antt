use Rattle.tmpl_problems.proofs.ErrorLemmas.{more-added, more-none}
use Rattle.tmpl_problems.proofs.findings.Findings.add_once.Goals as goal

pub returns-then-has_same-clause-more : goal.returns-then-has_same-clause-more
returns-then-has_same-clause-more c = more-none c.args.self.now

pub returns-clause-more : goal.returns-clause-more
returns-clause-more c = more-added c.args.self.now c.add.new.self _ c.in_ok-add.ensures
