use Rattle.tmpl_engine.proofs.QuietLemmas.{text_is_named}
use Rattle.tmpl_engine.proofs.laws.text_is_named.Goals as goal

pub returns : goal.returns
returns c = text_is_named
