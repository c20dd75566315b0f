use Rattle.std.proofs.Common.{subst}
use Rattle.tmpl_problems.specs.Judged.{IsJudgedData}
use Rattle.tmpl_problems.proofs.ErrorLemmas.{data-found, data-told, turned}
use Rattle.tmpl_problems.proofs.findings.Findings.add_data.Goals as goal

pub returns-clause-found : goal.returns-clause-found
returns-clause-found c =
    let report = c.in_ok-report.report in
    let added = c.in_ok-add_reason.ensures in
    data-found c.args.self.now c.add_reason.new.self c.warn_of_keys.new.self c.args.«data».now.name.now report.refused added.0 c.is_none-accepted.result
    added.1 added.2 c.in_ok-warn_of_keys.ensures (turned _ _ c.is_none-accepted.ensures)

pub returns-clause-matches_spec : goal.returns-clause-matches_spec
returns-clause-matches_spec c =
    let report = c.in_ok-report.report in
    let added = c.in_ok-add_reason.ensures in (
      added.0,
      (report.refused, subst (λ bytes. IsJudgedData bytes report.refused) c.as_slice.ensures.value c.in_ok-report.ensures, added.1),
      data-told c.args.self.now c.add_reason.new.self c.warn_of_keys.new.self c.args.«data».now.name.now report.refused added.0 added.1 added.2
          c.in_ok-warn_of_keys.ensures,
    )
