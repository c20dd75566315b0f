use Rattle.std.proofs.Common.{◌∙◌, sym}
use Rattle.tmpl_syntax.specs.View.{set_view}
use Rattle.tmpl_code.proofs.BoundLemmas.{claims-are-enough, held-is-bound, is-not, needs-are-enough}
use Rattle.tmpl_code.proofs.bound.bound_of.Goals as goal

pub returns-then-not-survey-clause-claims : goal.returns-then-not-survey-clause-claims
returns-then-not-survey-clause-claims c =
    needs-are-enough (set_view c.args.set.now) c.args.needs.items c.new.result.items (sym c.requires.calls ∙ is-not c.args.survey.calls c.if-not-survey.true) c.requires.needs

pub returns-then-holds-clause-bound : goal.returns-then-holds-clause-bound
returns-then-holds-clause-bound c =
    let guess = c.in_ok-guess.guess in
    held-is-bound (set_view c.args.set.now) guess.claims.weights.items guess.claims.allowances.items guess.fixed guess.each
    (c.holds.ensures c.if-holds.true)

pub returns-then-holds-clause-claims : goal.returns-then-holds-clause-claims
returns-then-holds-clause-claims c =
    let guess = c.in_ok-guess.guess in
    claims-are-enough (set_view c.args.set.now) guess.claims.weights.items guess.claims.allowances.items guess.fixed guess.each
    (c.holds.ensures c.if-holds.true)
