use Rattle.std.proofs.Common.{◌≡◌, drop}
use Rattle.std.specs.Option.{option_map}
use Rattle.serde_json.specs.View.{items_view, view}
use Rattle.tmpl_shape.specs.View.{fields_of, shape_of}
use Rattle.tmpl_json_schema.specs.computed.Reading.{fold, with_required}
use Rattle.tmpl_json_schema.proofs.fields.all_required.Given as goal

abbrev pub invariant-loop-index : goal.invariant-loop-index
invariant-loop-index l =
    let w = with_required (option_map (λ v. view v.now) l.fn.properties) (shape_of l.rest) in
    fold w (fields_of l.fn.fields) (items_view l.names) ≡ fold w (fields_of l.fields) (items_view (drop l.index l.names))
