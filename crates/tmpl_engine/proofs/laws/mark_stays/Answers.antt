use Rattle.tmpl_engine.proofs.DoneLemmas.{mark-stays}
use Rattle.tmpl_engine.proofs.laws.mark_stays.Goals as goal

pub returns : goal.returns
returns c = λ plan size s end. mark-stays plan size end s
