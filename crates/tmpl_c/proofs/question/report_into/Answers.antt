use Rattle.std.proofs.Common.{◌∙◌, ◌++◌, ap}
use Rattle.tmpl_problems.specs.Told.{told}
use Rattle.tmpl_c.proofs.QuestionLemmas.{never-fails}
use Rattle.tmpl_c.proofs.question.report_into.Goals as goal

pub returns : goal.returns
returns c = (
  c.in_ok-findings.findings,
  c.in_ok-extend_from_slice.ensures.items ∙ ap (λ before. before ++ c.as_bytes.result.now) c.requires ∙ c.as_bytes.ensures.value
      ∙ c.in_ok-text.ensures ∙ ap (λ form. told form c.in_ok-findings.findings) c.format_asked.ensures,
  c.status_of.ensures,
  λ none. never-fails c.args.files.now c.args.question.now c.in_ok-asked.asked c.in_ok-sources.sources c.in_ok-sources.ensures c.in_ok-asked.ensures
      (c.in_ok-findings.ensures.safe none),
)
