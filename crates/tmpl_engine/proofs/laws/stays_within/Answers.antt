use Rattle.tmpl_engine.proofs.DoneLemmas.{next-within}
use Rattle.tmpl_engine.proofs.laws.stays_within.Goals as goal

pub returns : goal.returns
returns c = λ plan size s t end ends within next. next-within plan size end s t ends within next
