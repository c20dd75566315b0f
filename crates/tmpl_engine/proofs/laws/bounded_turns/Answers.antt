use Rattle.tmpl_engine.proofs.BoundLemmas.{bounded_turns}
use Rattle.tmpl_engine.proofs.laws.bounded_turns.Goals as goal

pub returns : goal.returns
returns c = bounded_turns
