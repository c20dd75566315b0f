use Rattle.tmpl_formats.proofs.FormatLemmas.{joined, none_is_of, some_within}
use Rattle.tmpl_formats.proofs.check.first_mistake.Goals as goal

pub returns-clause-of_format : goal.returns-clause-of_format
returns-clause-of_format c = none_is_of c.earlier_of.result c.args.format.now c.args.text.now (joined _ _ _ c.args.format.now c.args.text.now c.earlier_of.ensures c.not_utf8.ensures c.in_ok-refused.ensures)

pub returns-clause-within : goal.returns-clause-within
returns-clause-within c = some_within c.earlier_of.result c.args.format.now c.args.text.now (joined _ _ _ c.args.format.now c.args.text.now c.earlier_of.ensures c.not_utf8.ensures c.in_ok-refused.ensures)
