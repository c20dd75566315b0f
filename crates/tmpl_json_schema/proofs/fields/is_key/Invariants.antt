use Rattle.std.proofs.Common.{◌≡◌, drop}
use Rattle.serde_json.specs.View.{items_view}
use Rattle.tmpl_json_schema.specs.computed.Reading.{is_key}
use Rattle.tmpl_json_schema.proofs.fields.is_key.Given as goal

abbrev pub invariant-loop-name : goal.invariant-loop-name
invariant-loop-name l = is_key l.key (items_view l.names) ≡ is_key l.key (items_view (drop l.name-index l.names))
