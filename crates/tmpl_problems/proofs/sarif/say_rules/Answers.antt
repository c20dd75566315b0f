use Rattle.std.proofs.Common.{List, ℕ, subst}
use Rattle.serde_json.specs.Written.{compact_text}
use Rattle.tmpl_hints.specs.Sentence.{Adds}
use Rattle.tmpl_hints.proofs.SentenceLemmas.{adds_then}
use Rattle.tmpl_problems.specs.declared.rule.Rule.{Rule}
use Rattle.tmpl_problems.specs.Sarif.{descriptor_of}
use Rattle.tmpl_problems.proofs.SaidLemmas.{lines_at}
use Rattle.tmpl_problems.proofs.sarif.say_rules.Goals as goal

pub loop-index-preserved : goal.loop-index-preserved
loop-index-preserved c =
    let mark = subst (λ (t : List ℕ). Adds c.loop-index.said c.say.result t) c.line_before.ensures c.say.ensures in
    subst (λ (t : List ℕ). Adds c.args.said c.in_ok-said.said t)
    (lines_at (λ (rule : Rule). compact_text (descriptor_of (rule.id.now, rule.text.now))) c.args.rules.now c.loop-index.index _ c.loop-index-test.true)
    (adds_then _ _ _ _ _ c.loop-index.invariant (adds_then _ _ _ _ _ mark c.in_ok-said.ensures))
