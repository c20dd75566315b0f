use Rattle.tmpl_problems.proofs.ErrorLemmas.{reason-first, reason-more}
use Rattle.tmpl_problems.proofs.findings.Findings.add_data_problems.Goals as goal

pub loop-problem-init : goal.loop-problem-init
loop-problem-init c =
    let a = c.in_ok-add_data_problem.ensures in
    reason-first c.args.file.now c.args.reason c.args.self.now c.add_data_problem.new.self a.0 a.1 a.2

pub loop-problem-preserved : goal.loop-problem-preserved
loop-problem-preserved c =
    let a = c.in_ok-add_data_problem-2.ensures in
    reason-more c.args.file.now c.args.reason c.args.self.now c.loop-problem.self c.add_data_problem-in-loop-problem.new.self a.0 c.loop-problem.invariant a.1 a.2
