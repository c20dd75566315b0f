use Rattle.std.proofs.Common.{◌<◌, ◌++◌, length, take, flat_map, sym, ap, ◌∙◌, arith}
use Rattle.serde_json.specs.View.{members_view}
use Rattle.tmpl_json_schema.specs.computed.Inferred.{maps_seen, values_among}
use Rattle.tmpl_json_schema.proofs.StepLemmas.{maps-more, values-more}
use Rattle.tmpl_json_schema.proofs.infer.values_in.Goals as goal

pub loop-map-preserved : goal.loop-map-preserved
loop-map-preserved c =
    let within : c.loop-map.map-index < length c.args.maps.now = omega arith in
    let more = maps-more c.args.maps.now c.loop-map.map-index c.map-item.result within c.map-item.is in
    let before = maps_seen (take c.loop-map.map-index c.args.maps.now) in
    let ms = members_view c.map-item.result.now.entries in
    c.in_ok-add_values_of.ensures ∙ ap (λ ds. ds ++ values_among ms) c.loop-map.invariant ∙ values-more before ms ∙ ap (flat_map values_among) (sym more)
