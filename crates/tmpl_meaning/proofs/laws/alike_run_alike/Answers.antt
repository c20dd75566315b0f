use Rattle.tmpl_meaning.proofs.AlikeLemmas.{alike_run_alike}
use Rattle.tmpl_meaning.proofs.laws.alike_run_alike.Goals as goal

pub returns : goal.returns
returns c = alike_run_alike
