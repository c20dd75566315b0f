use Rattle.tmpl_c.proofs.LawLemmas.{keeps_as_before, keeps_offered}
use Rattle.tmpl_c.proofs.laws.kept.Goals as goal

pub returns-clause-offered : goal.returns-clause-offered
returns-clause-offered c = keeps_offered

pub returns-clause-before : goal.returns-clause-before
returns-clause-before c = keeps_as_before
