use Rattle.std.proofs.Common.{◌≡◌, drop}
use Rattle.serde_json.specs.View.{items_view}
use Rattle.tmpl_json_schema.specs.computed.Reading.{fold, kind_with, no_kind}
use Rattle.tmpl_json_schema.proofs.kinds.kinds_with.Given as goal

abbrev pub invariant-loop-index : goal.invariant-loop-index
invariant-loop-index l = fold kind_with no_kind (items_view l.names) ≡ fold kind_with l.kinds (items_view (drop l.index l.names))
