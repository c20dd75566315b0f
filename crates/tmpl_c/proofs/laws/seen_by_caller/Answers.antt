use Rattle.tmpl_c.proofs.SeenLemmas.{holds_prefix}
use Rattle.tmpl_c.proofs.laws.seen_by_caller.Goals as goal

pub returns-clause-prefix : goal.returns-clause-prefix
returns-clause-prefix c = holds_prefix
