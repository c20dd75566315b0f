use Rattle.serde_json.specs.View.{view}
use Rattle.tmpl_values.specs.Json.{tree_value}
use Rattle.tmpl_json_schema.proofs.MeetLemmas.{of-schema}
use Rattle.tmpl_json_schema.proofs.conform.conforms_to.Goals as goal

pub returns : goal.returns
returns c = λ e.
    of-schema (view c.args.root.now) c.in-Ok.draft 120 (tree_value (view c.args.value.now)) c.in-Ok.ensures (c.is_one_base.ensures c.if-not-is_one_base.false) (c.conforms.ensures e)
