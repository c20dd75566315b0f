use Rattle.tmpl_meaning.proofs.AlikeLemmas.{printed_runs_alike}
use Rattle.tmpl_meaning.proofs.laws.printed_runs_alike.Goals as goal

pub returns : goal.returns
returns c = printed_runs_alike
