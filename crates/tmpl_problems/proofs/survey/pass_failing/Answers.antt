use Rattle.std.proofs.Common.{◌≡◌, ◌∙◌, ap, is_some, map, subst, sym, true}
use Rattle.tmpl_lex.specs.View.{token_of}
use Rattle.tmpl_problems.specs.computed.Adds.{AddsFailing}
use Rattle.tmpl_problems.specs.computed.Failing.{has_failing, reading_fails}
use Rattle.tmpl_problems.proofs.survey.pass_failing.Goals as goal

pub returns-in-Some-clause-added : goal.returns-in-Some-clause-added
returns-in-Some-clause-added c =
    let placed = c.warning_at.ensures.place in
    let fails : true ≡ has_failing (map token_of c.args.tokens.now) =
    ap is_some (sym c.in-Some.is) ∙ c.in_ok-found.ensures ∙ ap reading_fails c.in_ok-reading.ensures in
    subst (λ b. AddsFailing c.args.file.now c.args.opens b c.args.failing.now.items c.push.new.self.items) fails
    (record {
      one = c.warning_at.result;
      added = c.in_ok-push-in-Some.ensures.items;
      start = λ within. ap (λ p. p.start) placed ∙ c.place_in-here.ensures.start within;
      place = rw placed c.place_in-here.ensures.place;
    })
