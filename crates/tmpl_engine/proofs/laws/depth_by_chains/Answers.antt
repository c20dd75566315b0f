use Rattle.tmpl_engine.proofs.DepthLemmas.{depth_by_chains}
use Rattle.tmpl_engine.proofs.laws.depth_by_chains.Goals as goal

pub returns : goal.returns
returns c = depth_by_chains
