use Rattle.tmpl_problems.proofs.ErrorLemmas.{of-reason}
use Rattle.tmpl_problems.proofs.findings.Findings.add_data_problem.Goals as goal

pub returns : goal.returns
returns c = (
  c.error.result,
  of-reason c.args.file.now _ c.args.reason c.error.result _ _ _ _ c.error.ensures c.data_rule_of.ensures c.in_ok-text.ensures c.words.ensures,
  c.in_ok-add.ensures,
)
