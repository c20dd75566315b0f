use Rattle.tmpl_syntax.proofs.AcceptedLemmas.{accepts-back}
use Rattle.tmpl_syntax.proofs.laws.accepted_back.Goals as goal

pub returns : goal.returns
returns c = accepts-back
