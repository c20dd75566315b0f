use Rattle.tmpl_engine.proofs.DoneLemmas.{one-end}
use Rattle.tmpl_engine.proofs.laws.one_end.Goals as goal

pub returns : goal.returns
returns c = one-end
