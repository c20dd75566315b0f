use Rattle.tmpl_engine.proofs.DoneLemmas.{each-lessens}
use Rattle.tmpl_engine.proofs.laws.each_turn_lessens.Goals as goal

pub returns : goal.returns
returns c = each-lessens
