use Rattle.std.proofs.Common.{arith}
use Rattle.std.proofs.lemmas.Result.{on_ok_weaker}
use Rattle.tmpl_code.specs.computed.Held.{Ends, code_of}
use Rattle.tmpl_code.proofs.TailLemmas.{ends, ends_both}
use Rattle.tmpl_code.proofs.binding.put_turn.Goals as goal

pub returns-clause-ends : goal.returns-clause-ends
returns-clause-ends c =
    on_ok_weaker {Q = Ends (code_of c.args.code.now) (code_of c.push.new.self)} _ (λ put. ends_both put.ends (grind (arith, ends))) c.push.ensures
