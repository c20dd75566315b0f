use Rattle.std.proofs.Common.{◌≡◌, ◌∙◌, ◌+◌, ◌++◌, [], ◌∷◌, ap, sym, take}
use Rattle.std.proofs.lemmas.List.{take_more}
use Rattle.tmpl_schema.specs.declared.failure.Doubt.{Doubt}
use Rattle.tmpl_report.proofs.ReasonLemmas.{told_more}
use Rattle.tmpl_report.proofs.reasons.reason.reasons_of.Goals as goal

pub loop-doubt-preserved : goal.loop-doubt-preserved
loop-doubt-preserved c =
    let all = c.args.doubts.now in
    let i = c.loop-doubt.doubt-index in
    let doubt = c.doubt-item.result in
    let parts : take (i + 1) all ≡ take i all ++ doubt ∷ [] =
    take_more all i doubt c.loop-doubt-test.true ∙ ap (λ (d : Doubt). take i all ++ d ∷ []) (sym c.doubt-item.is) in
    told_more c.args.bytes.now all i doubt c.loop-doubt.reasons.items c.push.new.self.items c.in_ok-reason_for.field-0
    parts c.in_ok-push.ensures.items c.loop-doubt.invariant c.in_ok-reason_for.ensures
