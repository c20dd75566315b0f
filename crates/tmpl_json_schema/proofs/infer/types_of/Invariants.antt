use Rattle.std.proofs.Common.{◌≤◌, take}
use Rattle.serde_json.specs.Data.{items_depth}
use Rattle.serde_json.specs.View.{items_view}
use Rattle.tmpl_json_schema.specs.Document.{SomeItem, IsNameOfType}
use Rattle.tmpl_json_schema.specs.Inferred.{AreDistinct, AreTexts}
use Rattle.tmpl_json_schema.specs.computed.Inferred.{seen, EachValue}
use Rattle.tmpl_json_schema.proofs.infer.types_of.Given as goal

abbrev pub invariant-loop-sample : goal.invariant-loop-sample
invariant-loop-sample l =
    EachValue (λ v. SomeItem (IsNameOfType v) (items_view l.types.items)) (seen (take l.sample-index l.samples)) × (items_depth (items_view l.types.items) ≤ 0)
    × AreTexts (items_view l.types.items) × AreDistinct (items_view l.types.items)
