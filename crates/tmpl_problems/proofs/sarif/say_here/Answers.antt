use Rattle.std.proofs.Common.{List, ℕ, subst}
use Rattle.tmpl_hints.specs.Sentence.{Adds}
use Rattle.tmpl_hints.proofs.SentenceLemmas.{adds_then}
use Rattle.tmpl_problems.specs.Sarif.{place_of}
use Rattle.tmpl_problems.proofs.ItemLemmas.{here_parted}
use Rattle.tmpl_problems.proofs.sarif.say_here.Goals as goal

pub returns : goal.returns
returns c = subst (λ (t : List ℕ). Adds c.args.said c.say-2.result t) (here_parted (place_of c.args.finding.now))
    (adds_then _ _ _ _ _ c.say.ensures (adds_then _ _ _ _ _ c.in_ok-said.ensures c.say-2.ensures))
