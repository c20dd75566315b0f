use Rattle.std.proofs.Common.{refl, subst, sym}
use Rattle.tmpl_report.specs.Rendered.{IsUnfit}
use Rattle.tmpl_report.proofs.ValueLemmas.{more-unfit, none-unfit, one-unfit}
use Rattle.tmpl_report.proofs.held.add_violations.Goals as goal

pub loop-violation-init : goal.loop-violation-init
loop-violation-init c = none-unfit c.args.findings.now

pub loop-violation-preserved : goal.loop-violation-preserved
loop-violation-preserved c =
    more-unfit c.args.findings.now c.loop-violation.findings c.add.new.self c.loop-violation.invariant
    (one-unfit c.loop-violation.findings c.add.new.self c.error.result (subst IsUnfit (sym c.error.ensures) (refl, refl)) c.in_ok-add.ensures)
