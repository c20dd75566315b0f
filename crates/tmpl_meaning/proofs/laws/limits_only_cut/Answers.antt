use Rattle.tmpl_meaning.proofs.LimitLemmas.{limits_only_cut}
use Rattle.tmpl_meaning.proofs.laws.limits_only_cut.Goals as goal

pub returns : goal.returns
returns c = limits_only_cut
