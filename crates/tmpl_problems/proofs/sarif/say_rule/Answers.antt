use Rattle.serde_json.proofs.OnLiterals.{serde_json_on_literals}
use Rattle.tmpl_hints.proofs.SentenceLemmas.{adds_then}
use Rattle.tmpl_problems.proofs.sarif.say_rule.Goals as goal

pub returns : goal.returns
unfolding serde_json_on_literals
returns c = adds_then _ _ _ _ _ c.say.ensures (adds_then _ _ _ _ _ c.in_ok-said.ensures (adds_then _ _ _ _ _ c.say-2.ensures
    (adds_then _ _ _ _ _ c.in_ok-say_message.ensures c.say-3.ensures)))
