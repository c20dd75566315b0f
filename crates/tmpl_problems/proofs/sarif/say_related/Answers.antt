use Rattle.std.proofs.Common.{List, ℕ, subst}
use Rattle.tmpl_hints.specs.Sentence.{Adds}
use Rattle.tmpl_hints.proofs.SentenceLemmas.{adds_then}
use Rattle.tmpl_problems.specs.Sarif.{message_of, place_of}
use Rattle.tmpl_problems.proofs.ItemLemmas.{related_parted}
use Rattle.tmpl_problems.proofs.sarif.say_related.Goals as goal

pub returns : goal.returns
returns c = subst (λ (t : List ℕ). Adds c.args.said c.say-2.result t) (related_parted (message_of c.args.text.now) (place_of c.args.finding.now))
    (adds_then _ _ _ _ _ c.say.ensures (adds_then _ _ _ _ _ c.in_ok-say_message.ensures
    (adds_then _ _ _ _ _ c.say-said.ensures (adds_then _ _ _ _ _ c.in_ok-say_place.ensures c.say-2.ensures))))
