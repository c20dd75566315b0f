use Rattle.tmpl_syntax.proofs.PrintedFileLemmas.{set_accepted}
use Rattle.tmpl_syntax.proofs.SameSetLemmas.{prints_alike}
use Rattle.tmpl_syntax.proofs.laws.set_accepted.Goals as goal

pub returns : goal.returns
returns c = record { accepted = set_accepted; same = prints_alike }
