use Rattle.std.proofs.Common.{List, ℕ, subst}
use Rattle.serde_json.specs.Written.{compact_text}
use Rattle.tmpl_hints.specs.Sentence.{Adds}
use Rattle.tmpl_hints.proofs.SentenceLemmas.{adds_then}
use Rattle.tmpl_problems.specs.Finding.{Finding}
use Rattle.tmpl_problems.specs.Sarif.{result_of}
use Rattle.tmpl_problems.proofs.SaidLemmas.{lines_more}
use Rattle.tmpl_problems.proofs.sarif.say_results.Goals as goal

pub loop-index-preserved : goal.loop-index-preserved
loop-index-preserved c =
    let mark = subst (λ (t : List ℕ). Adds c.loop-index.said c.say.result t) c.line_before.ensures c.say.ensures in
    subst (λ (t : List ℕ). Adds c.args.said c.in_ok-said.said t)
    (lines_more (λ (f : Finding). compact_text (result_of f)) c.args.findings.now c.loop-index.index c.index-findings-index.result c.loop-index-test.true c.index-findings-index.is)
    (adds_then _ _ _ _ _ c.loop-index.invariant (adds_then _ _ _ _ _ mark c.in_ok-said.ensures))
