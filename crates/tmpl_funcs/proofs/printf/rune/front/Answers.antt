use Rattle.std.proofs.Common.{arith}
use Rattle.tmpl_funcs.proofs.RuneLemmas.{IsCutting-more, cut-full, cut-past}
use Rattle.tmpl_funcs.proofs.printf.rune.front.Goals as goal
use Rattle.tmpl_funcs.proofs.printf.rune.front.Goals.{then-loop-left-test+else-rest-gt0, else-loop-left-test}

pub loop-left-preserved : goal.loop-left-preserved
loop-left-preserved c =
    let l = c.loop-left in
    IsCutting-more c.args.text.now c.args.count l.rest.now l.left c.after_rune-rest.result.now l.invariant (omega arith)
    (omega arith) c.after_rune-rest.ensures.value

pub returns : goal.returns
returns c =
    let l = c.loop-left in
    elim c.loop-left-test.branch [
      | then-loop-left-test+else-rest-gt0 w ↦ cut-past c.args.text.now c.args.count l.rest.now l.left l.invariant (omega (arith, w.if-rest-gt0))
      | else-loop-left-test w ↦ cut-full c.args.text.now c.args.count l.rest.now l.left l.invariant (omega (arith, w.loop-left-test))
    ]
