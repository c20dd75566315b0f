use Rattle.std.proofs.Common.{◌∙◌, refl, sym, ap, true}
use Rattle.tmpl_problems.specs.declared.survey.Variable.{Variable}
use Rattle.tmpl_problems.proofs.NotedLemmas.{marks-found, marks-none}
use Rattle.tmpl_problems.proofs.survey.use_variable.Goals as goal

pub returns-in-Some : goal.returns-in-Some
returns-in-Some c =
    let w : Variable = record { place = c.in-Some.variable.now.place; is_used = true } in
    (c.get_mut.follows.holds w).0 ∙ marks-found _ c.args.name.now (λ k. refl) _ c.in-Some.variable.now (sym c.in-Some.ensures.value)

pub returns-in_default : goal.returns-in_default
returns-in_default c = ap (λ m. m.entries) c.get_mut.follows.holds-at-none ∙ marks-none _ c.args.name.now (λ k. refl) _ (sym c.in_default.ensures.value)
