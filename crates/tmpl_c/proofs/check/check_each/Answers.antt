use Rattle.std.proofs.Common.{◌∙◌, sym}
use Rattle.tmpl_c.proofs.CheckLemmas.{goes_on_at, no_text_at}
use Rattle.tmpl_c.proofs.check.check_each.Goals as goal

pub returns-in_default : goal.returns-in_default
returns-in_default c =
    sym (c.loop-file.invariant ∙ no_text_at c.loop-file.status _ c.args.files.now c.loop-file.file-index _ c.loop-file-test.true c.in_default.ensures.cases.0)

pub loop-file-preserved : goal.loop-file-preserved
loop-file-preserved c =
    let (all, examined, located, reports) = c.in_ok-problems.ensures in
    c.loop-file.invariant
    ∙ goes_on_at c.loop-file.status _ c.args.files.now c.loop-file.file-index _ c.loop-file-test.true c.in-Ok.name.now c.in-Ok.ensures.cases.0
    c.in-Ok.ensures.cases.1 _ all c.in_ok-problems.problems.refused.items c.in_ok-status.status examined reports.first c.in_ok-status.ensures
