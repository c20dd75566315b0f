use Rattle.std.proofs.Common.{◌≡◌, drop}
use Rattle.serde_json.specs.View.{items_view}
use Rattle.tmpl_shape.specs.Shape.{never}
use Rattle.tmpl_shape.specs.View.{shape_of}
use Rattle.tmpl_json_schema.specs.computed.Reading.{fold, leaf_with}
use Rattle.tmpl_json_schema.proofs.leaves.leaves_with.Given as goal

abbrev pub invariant-loop-constant : goal.invariant-loop-constant
invariant-loop-constant l =
    fold leaf_with never (items_view l.constants) ≡ fold leaf_with (shape_of l.shape) (items_view (drop l.constant-index l.constants))
