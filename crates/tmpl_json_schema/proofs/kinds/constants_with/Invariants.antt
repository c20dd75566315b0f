use Rattle.std.proofs.Common.{◌≡◌, drop}
use Rattle.serde_json.specs.View.{items_view}
use Rattle.tmpl_json_schema.specs.computed.Reading.{constant_with, fold, no_kind}
use Rattle.tmpl_json_schema.proofs.kinds.constants_with.Given as goal

abbrev pub invariant-loop-constant : goal.invariant-loop-constant
invariant-loop-constant l =
    fold constant_with no_kind (items_view l.constants) ≡ fold constant_with l.kinds (items_view (drop l.constant-index l.constants))
