use Rattle.std.proofs.Common.{◌∙◌, [], ◌∷◌, ap, subst, sym}
use Rattle.tmpl_lex.specs.Begin.{BeginsAt}
use Rattle.tmpl_syntax.specs.Column.{IsPlace}
use Rattle.tmpl_problems.specs.Survey.{warned_place}
use Rattle.tmpl_problems.specs.Tokens.{unused_words}
use Rattle.tmpl_problems.proofs.StepLemmas.{adds-one}
use Rattle.tmpl_problems.proofs.survey.warn_if_unused.Goals as goal

pub returns-in_ok-push-clause-placed : goal.returns-in_ok-push-clause-placed
returns-in_ok-push-clause-placed c = λ file is.
    adds-one (λ w. IsPlace file (warned_place w)) _ _ c.warning_at.result c.in_ok-push.ensures.items (let e = c.warning_at.ensures.place in rw e is)

pub returns-in_ok-push-clause-unused : goal.returns-in_ok-push-clause-unused
returns-in_ok-push-clause-unused c = λ file uses d is.
    let unused = sym is.used ∙ c.if-not-variable.true in
    let at = c.warning_at.ensures.place in
    rw unused (record {
      more = c.warning_at.result ∷ [];
      added = c.in_ok-push.ensures.items;
      told = (
        record {
          words = c.warning_at.ensures.text ∙ c.in_ok-unused_text.ensures ∙ ap unused_words is.name;
          begins = subst (BeginsAt file d.piece) (sym (ap (λ p. p.start) at)) is.begins;
          place = subst (IsPlace file) (sym at) is.place;
        },
        tt,
      );
    })
