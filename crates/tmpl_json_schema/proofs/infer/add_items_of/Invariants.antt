use Rattle.std.proofs.Common.{◌≡◌, ◌++◌, take, map}
use Rattle.serde_json.specs.View.{view}
use Rattle.tmpl_json_schema.specs.computed.Inferred.{seen}
use Rattle.tmpl_json_schema.proofs.infer.add_items_of.Given as goal

abbrev pub invariant-loop-item : goal.invariant-loop-item
invariant-loop-item l = seen l.all.items ≡ seen l.initial.all.items ++ map view (take l.item-index l.items)
