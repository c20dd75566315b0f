use Rattle.std.proofs.Common.{◌-◌, ◌∙◌, ap, sym}
use Rattle.tmpl_problems.specs.Checked.{has_unreadable, most}
use Rattle.tmpl_problems.proofs.BeyondLemmas.{reports_past}
use Rattle.tmpl_problems.proofs.check.check_file.Goals as goal

pub returns-in_ok-explain_past : goal.returns-in_ok-explain_past
returns-in_ok-explain_past c =
    let cut = c.truncate.ensures.items in
    let some = sym (ap has_unreadable (c.as_slice.ensures.value ∙ cut)) ∙ sym c.has_unreadable.ensures ∙ c.if-has_unreadable.true in
    let left = c.saturating_sub-left.ensures ∙ ap (λ n. n - most) (c.len.ensures ∙ c.in_ok-refusals.refusals.ok.0) in
    let reports = reports_past _ c.in_ok-explain_past.field-0 c.saturating_sub-left.result some
    (c.in_ok-explain_past.ensures.refused ∙ cut) left c.in_ok-explain_past.ensures.left in
    (c.in_ok-refusals.refusals.items, c.in_ok-refusals.ensures.examined, c.in_ok-refusals.ensures.located, reports)
