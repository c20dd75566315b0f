use Rattle.std.proofs.Common.{arith, ap, length}
use Rattle.tmpl_funcs.proofs.RuneLemmas.{count-first, runes-none}
use Rattle.tmpl_funcs.proofs.printf.rune.rune_count.Goals as goal

pub loop-rest-preserved : goal.loop-rest-preserved
loop-rest-preserved c =
    let l = c.loop-rest in
    let after = c.after_rune-rest in record {
      counted = omega (arith, l.invariant.counted, count-first l.rest.now after.result.now (omega arith) after.ensures.value);
      bounded = omega arith;
    }

pub returns : goal.returns
returns c =
    let l = c.loop-rest in
    omega (arith, l.invariant.counted, ap length (runes-none l.rest.now (omega arith)))
