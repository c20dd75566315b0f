use Rattle.std.proofs.Common.{◌∙◌, sym}
use Rattle.std.proofs.lemmas.Result.{on_ok_weaker}
use Rattle.tmpl_report.proofs.OutputLemmas.{of-output}
use Rattle.tmpl_report.proofs.output.add_output.Goals as goal

pub returns-in-Some-first : goal.returns-in-Some-first
returns-in-Some-first c =
    on_ok_weaker c.add_written.result (λ added.
    of-output c.args.question.now c.in-Some.word c.args.findings.now c.add_written.new.findings c.in-Some.is (sym c.has_errors.ensures ∙ c.if-has_errors.false) added)
    c.add_written.ensures
