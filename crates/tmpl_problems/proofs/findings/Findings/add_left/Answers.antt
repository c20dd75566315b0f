use Rattle.tmpl_problems.proofs.ErrorLemmas.{left-added}
use Rattle.tmpl_problems.proofs.findings.Findings.add_left.Goals as goal

pub returns : goal.returns
returns c =
    left-added c.args.self.now c.add.new.self c.args.file.now c.args.left c.error.result _ c.if-left-eq0.false c.error.ensures c.in_ok-text.ensures c.in_ok-add.ensures
