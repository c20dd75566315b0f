use Rattle.tmpl_json_schema.proofs.MeetLemmas.{all-taken}
use Rattle.tmpl_json_schema.proofs.schema.are_known_at.Goals as goal

pub returns : goal.returns
returns c = λ _. all-taken _ c.args.definitions.now c.loop-definition.definition-index c.loop-definition-test.false c.loop-definition.invariant
