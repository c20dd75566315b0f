use Rattle.std.proofs.Common.{ap, ◌∙◌, not}
use Rattle.tmpl_syntax.specs.computed.View.{known_names}
use Rattle.tmpl_syntax.proofs.NameLemmas.{seen, known-held, with-held}
use Rattle.tmpl_syntax.proofs.place.names.KnownNames.insert.Goals as goal

pub returns-clause-new : goal.returns-clause-new
unfolding known_names
returns-clause-new c = c.in_ok-insert.ensures.added ∙ ap not (known-held c.args.self.now.names.keys c.args.name.now)

pub returns-clause-names : goal.returns-clause-names
unfolding known_names
returns-clause-names c = ap seen c.in_ok-insert.ensures.keys ∙ with-held c.args.self.now.names.keys c.args.name
