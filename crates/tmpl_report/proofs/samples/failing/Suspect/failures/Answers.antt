use Rattle.std.proofs.Common.{◌≡◌, ◌∙◌, ◌+◌, ◌++◌, [], ◌∷◌, ap, subst, sym, take}
use Rattle.std.proofs.lemmas.List.{take_more}
use Rattle.tmpl_schema.specs.declared.failure.Doubt.{Doubt}
use Rattle.tmpl_report.specs.Failing.{AreRight}
use Rattle.tmpl_report.specs.computed.Asked.{asked_in}
use Rattle.tmpl_report.proofs.FailureLemmas.{right_more}
use Rattle.tmpl_report.proofs.samples.failing.Suspect.failures.Goals as goal

pub loop-doubt-preserved : goal.loop-doubt-preserved
loop-doubt-preserved c =
    let asked = asked_in c.args.self.now in
    let doubts = c.args.self.now.doubts.now in
    let before = c.loop-doubt.failures.items in
    let i = c.loop-doubt.doubt-index in
    let doubt = c.doubt-item.result in
    let found = c.in_ok-failure.failure in
    let parts : take (i + 1) doubts ≡ take i doubts ++ doubt ∷ [] =
    take_more doubts i doubt c.loop-doubt-test.true ∙ ap (λ (d : Doubt). take i doubts ++ d ∷ []) (sym c.doubt-item.is) in
    subst (λ found. AreRight asked (take (i + 1) doubts) found) (sym c.in_ok-push.ensures.items)
    (subst (λ ds. AreRight asked ds (before ++ found ∷ [])) (sym parts)
    (right_more asked (take i doubts) before doubt found c.loop-doubt.invariant c.in_ok-failure.ensures))
