use Rattle.tmpl_meaning.proofs.AddLemmas.{node-adds, nodes-add}
use Rattle.tmpl_meaning.proofs.laws.adds_to_text.Goals as goal

pub returns : goal.returns
returns c = record { node = node-adds; nodes = nodes-add }
