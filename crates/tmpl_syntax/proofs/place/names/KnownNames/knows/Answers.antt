use Rattle.std.proofs.Common.{◌∙◌}
use Rattle.tmpl_syntax.specs.computed.View.{known_names}
use Rattle.tmpl_syntax.proofs.NameLemmas.{known-held}
use Rattle.tmpl_syntax.proofs.place.names.KnownNames.knows.Goals as goal

pub returns : goal.returns
unfolding known_names
returns c = c.contains.ensures ∙ known-held c.args.self.now.names.keys c.args.name.now
