use Rattle.std.proofs.Common.{◌∙◌, [], append-nil, sym}
use Rattle.tmpl_problems.specs.Errors.{errors_in}
use Rattle.tmpl_problems.proofs.ErrorLemmas.{turned}
use Rattle.tmpl_report.proofs.ErrorLemmas.{none-given, none-of-schema, some-of-schema}
use Rattle.tmpl_report.proofs.schema.add_schema.Goals as goal

pub returns-then-is_none-clause-safe : goal.returns-then-is_none-clause-safe
returns-then-is_none-clause-safe c = λ none short. none-given _ c.args.sources.now.schema (sym (turned _ _ c.is_none.ensures) ∙ c.if-is_none.true)

pub returns-then-is_none-clause-matches_spec : goal.returns-then-is_none-clause-matches_spec
returns-then-is_none-clause-matches_spec c =
    ([], none-of-schema c.args.sources.now.schema c.args.findings.now, sym (append-nil (errors_in c.args.findings.now)))

pub returns-then-has_errors-clause-matches_spec : goal.returns-then-has_errors-clause-matches_spec
returns-then-has_errors-clause-matches_spec c =
    ([], none-of-schema c.args.sources.now.schema c.args.findings.now, sym (append-nil (errors_in c.args.findings.now)))

pub returns-clause-matches_spec : goal.returns-clause-matches_spec
returns-clause-matches_spec c =
    let more = c.in_ok-add_judged.ensures.more in (
      more.0,
      some-of-schema c.args.sources.now.schema c.args.findings.now more.0 (sym (turned _ _ c.is_none.ensures) ∙ c.if-is_none.false)
          (sym c.has_errors.ensures ∙ c.if-has_errors.false),
      more.1,
    )
