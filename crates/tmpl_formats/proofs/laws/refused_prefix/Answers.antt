use Rattle.tmpl_formats.proofs.FormatLemmas.{refuses-prefix}
use Rattle.tmpl_formats.proofs.laws.refused_prefix.Goals as goal

pub returns : goal.returns
returns c = refuses-prefix
