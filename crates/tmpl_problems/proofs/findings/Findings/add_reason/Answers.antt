use Rattle.std.proofs.Common.{[], append-nil, refl, sym}
use Rattle.tmpl_problems.proofs.findings.Findings.add_reason.Goals as goal

pub returns-in_ok-add_data_problems-in-Some : goal.returns-in_ok-add_data_problems-in-Some
returns-in_ok-add_data_problems-in-Some c = let is = c.in-Some.is in rw is c.in_ok-add_data_problems-in-Some.ensures

pub returns-in-None : goal.returns-in-None
returns-in-None c = let is = c.in-None.is in rw is ([], refl, sym (append-nil c.args.self.now))
