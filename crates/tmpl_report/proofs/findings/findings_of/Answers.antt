use Rattle.std.proofs.Common.{◌∙◌, ap, sym, subst}
use Rattle.std.specs.Option.{option_map}
use Rattle.serde_json.specs.View.{view}
use Rattle.tmpl_problems.specs.Errors.{errors_in}
use Rattle.tmpl_report.specs.Rendered.{IsValued}
use Rattle.tmpl_problems.proofs.ErrorLemmas.{none-before}
use Rattle.tmpl_report.proofs.OutputLemmas.{as-before, output-told}
use Rattle.tmpl_report.proofs.SafeLemmas.{borrowed-view}
use Rattle.tmpl_report.proofs.findings.findings_of.Goals as goal

pub findings_in-requires : goal.findings_in-requires
findings_in-requires c =
    borrowed-view c.as_ref.result ∙ ap (option_map view) c.as_ref.ensures.value ∙ c.in_ok-document.ensures

pub returns-clause-safe : goal.returns-clause-safe
returns-clause-safe c = λ no_error.
    let added = c.in_ok-add_output.ensures in
    let question = c.args.question.now in
    let old = c.in_ok-findings.findings in
    let new = c.add_output.new.findings in
    (c.in_ok-findings.ensures.1 (none-before old new added.0 (output-told question old new added) no_error)).0

pub returns-clause-matches_spec : goal.returns-clause-matches_spec
returns-clause-matches_spec c =
    let added = c.in_ok-add_output.ensures in
    let old = c.in_ok-findings.findings in
    let new = c.add_output.new.findings in
    (errors_in old, added.0, output-told c.args.question.now old new added, c.in_ok-findings.ensures.0, added.1)

pub returns-clause-values : goal.returns-clause-values
returns-clause-values c = λ no_error.
    let added = c.in_ok-add_output.ensures in
    let question = c.args.question.now in
    let old = c.in_ok-findings.findings in
    let new = c.add_output.new.findings in
    let before = none-before old new added.0 (output-told question old new added) no_error in
    subst (λ found. IsValued question c.args.sources.now found) (sym (as-before question old new added no_error)) (c.in_ok-findings.ensures.1 before).1
