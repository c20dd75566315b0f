use Rattle.tmpl_schema.proofs.SafeLemmas.{runs-safely}
use Rattle.tmpl_schema.proofs.laws.runs_safely.Goals as goal

pub returns : goal.returns
returns c = runs-safely
