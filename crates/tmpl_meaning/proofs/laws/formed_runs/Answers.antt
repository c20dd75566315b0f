use Rattle.tmpl_meaning.proofs.FormedRunLemmas.{finds-names, ends-in-range, stays-in-scope}
use Rattle.tmpl_meaning.proofs.laws.formed_runs.Goals as goal

pub returns : goal.returns
returns c = record { finds = finds-names; ends = ends-in-range; stays = stays-in-scope }
