use Rattle.std.proofs.Common.{sym, ap, ℕ, List, arith}
use Rattle.std.specs.Option.{option_map}
use Rattle.tmpl_problems.specs.Sign.{sign_at}
use Rattle.tmpl_problems.proofs.SignLemmas.{none-more, found-first}
use Rattle.tmpl_problems.proofs.survey.first_sign.Goals as goal

pub returns-in-Some-clause-value : goal.returns-in-Some-clause-value
returns-in-Some-clause-value c = sym (found-first (λ at. option_map (λ (words : List ℕ). (at, words)) (sign_at c.args.text.now at)) c.loop-at.at _ _ (omega arith) c.loop-at.invariant
    (ap (option_map (λ (words : List ℕ). (c.loop-at.at, words))) (sym c.in-Some.ensures)))

pub loop-at-preserved : goal.loop-at-preserved
loop-at-preserved c = none-more (λ at. option_map (λ (words : List ℕ). (at, words)) (sign_at c.args.text.now at)) c.loop-at.at c.loop-at.invariant
    (ap (option_map (λ (words : List ℕ). (c.loop-at.at, words))) (sym c.in_default.ensures))
