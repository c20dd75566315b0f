use Rattle.std.proofs.Common.{refl, subst, sym}
use Rattle.std.proofs.lemmas.Result.{on_ok_weaker}
use Rattle.tmpl_report.specs.Rendered.{IsUnfit}
use Rattle.tmpl_report.proofs.ValueLemmas.{one-unfit}
use Rattle.tmpl_report.proofs.held.add_unheld.Goals as goal

pub returns-clause-told : goal.returns-clause-told
returns-clause-told c =
    on_ok_weaker c.add.result (λ e. one-unfit c.args.findings.now c.add.new.self c.error.result (subst IsUnfit (sym c.error.ensures) (refl, refl)) e) c.add.ensures
