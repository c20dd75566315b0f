use Rattle.tmpl_tool.proofs.ModeNameLemmas.{lies_anywhere}
use Rattle.tmpl_tool.proofs.laws.one_place.Goals as goal

pub returns : goal.returns
returns c = lies_anywhere
