use Rattle.tmpl_syntax.proofs.SiteLemmas.{accepts_mended, some_refusals}
use Rattle.tmpl_syntax.proofs.laws.accepted_mended.Goals as goal

pub returns-clause-exists : goal.returns-clause-exists
returns-clause-exists c = some_refusals

pub returns-clause-accepted : goal.returns-clause-accepted
returns-clause-accepted c = accepts_mended
