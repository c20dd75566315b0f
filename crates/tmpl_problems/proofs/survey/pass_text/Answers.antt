use Rattle.std.proofs.Common.{arith, ◌≤◌, ◌∙◌, ◌+◌, ap, subst, length}
use Rattle.tmpl_problems.specs.computed.Adds.{AddsSign}
use Rattle.tmpl_problems.proofs.StepLemmas.{stands-within}
use Rattle.tmpl_problems.proofs.survey.pass_text.Goals as goal

pub returns-in_ok-push-in-Some-clause-adds_warning : goal.returns-in_ok-push-in-Some-clause-adds_warning
returns-in_ok-push-in-Some-clause-adds_warning c =
    let at = c.in-Some.sign.at in
    let within : c.args.start + at ≤ length c.args.file.now =
    stands-within c.args.file.now c.args.text.now c.args.start at c.requires.stands c.in-Some.ensures.within in
    let placed = c.warning_at.ensures.place in
    subst (λ o. AddsSign c.args.file.now c.args.start o c.args.warnings.now.items c.push.new.self.items) c.in-Some.ensures.value
    (record {
      one = c.warning_at.result;
      added = c.in_ok-push-in-Some.ensures.items;
      start_is = ap (λ p. p.start) placed ∙ c.at-here.ensures.start ∙ omega (arith, within);
      words = c.warning_at.ensures.text ∙ c.in_ok-from_str-in-Some.ensures.ok;
      place = rw placed c.at-here.ensures.place;
    })
