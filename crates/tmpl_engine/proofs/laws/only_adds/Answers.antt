use Rattle.tmpl_engine.proofs.DoneLemmas.{text-begins}
use Rattle.tmpl_engine.proofs.laws.only_adds.Goals as goal

pub returns : goal.returns
returns c = λ plan size s end. text-begins plan size end s
