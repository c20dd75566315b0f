use Rattle.std.proofs.Common.{[], append-nil, refl, sym}
use Rattle.tmpl_problems.specs.Errors.{errors_in}
use Rattle.tmpl_report.proofs.findings.add_given.Goals as goal

pub returns-in_ok-add_data-in-Some : goal.returns-in_ok-add_data-in-Some
returns-in_ok-add_data-in-Some c = let is = c.in-Some.is in rw is c.in_ok-add_data-in-Some.ensures.matches_spec

pub returns-in-None : goal.returns-in-None
returns-in-None c = let is = c.in-None.is in rw is ([], refl, sym (append-nil (errors_in c.args.findings.now)))
