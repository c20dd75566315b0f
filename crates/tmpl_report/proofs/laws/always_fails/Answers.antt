use Rattle.tmpl_report.proofs.FailingLemmas.{argument-fails, command-fails}
use Rattle.tmpl_report.proofs.laws.always_fails.Goals as goal

pub returns : goal.returns
returns c = record { command = command-fails; argument = argument-fails }
