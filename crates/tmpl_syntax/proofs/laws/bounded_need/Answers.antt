use Rattle.tmpl_syntax.proofs.NeedLemmas.{need-within, need-most}
use Rattle.tmpl_syntax.proofs.laws.bounded_need.Goals as goal

pub returns : goal.returns
returns c = record { by_bytes = need-within; within = need-most }
