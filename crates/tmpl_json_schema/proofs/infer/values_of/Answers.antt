use Rattle.std.proofs.Common.{◌<◌, length, take, option_map, filter_map, sym, ap, ◌∙◌, arith}
use Rattle.serde_json.specs.Find.{get_member}
use Rattle.serde_json.specs.View.{view, members_view}
use Rattle.serde_json.proofs.Views.{view-lookup}
use Rattle.tmpl_json_schema.specs.computed.Inferred.{seen, maps_seen}
use Rattle.tmpl_json_schema.proofs.StepLemmas.{maps-more, value-found, value-not_found}
use Rattle.tmpl_json_schema.proofs.infer.values_of.Goals as goal
use Rattle.tmpl_json_schema.proofs.infer.values_of.Goals.{in-Some+in_ok-push, in_default}

pub loop-map-preserved : goal.loop-map-preserved
loop-map-preserved c =
    let within : c.loop-map.map-index < length c.args.maps.now = omega arith in
    let more = maps-more c.args.maps.now c.loop-map.map-index c.map-item.result within c.map-item.is in
    let before = maps_seen (take c.loop-map.map-index c.args.maps.now) in
    let es = c.map-item.result.now.entries in
    let k = c.args.key.now in
    elim c.match-get.branch [
      | in-Some+in_ok-push w ↦
          ap (λ m. seen m.items) w.values-is ∙ ap seen w.in_ok-push.ensures.items
          ∙ value-found c.loop-map.values.items before k (members_view es) w.in-Some.value c.loop-map.invariant
          (ap (option_map view) w.in-Some.ensures.value ∙ view-lookup k es) ∙ ap (filter_map (get_member k)) (sym more)
      | in_default w ↦
          ap (λ m. seen m.items) w.values-is
          ∙ value-not_found c.loop-map.values.items before k (members_view es) c.loop-map.invariant
          (ap (option_map view) w.in_default.ensures.value ∙ view-lookup k es) ∙ ap (filter_map (get_member k)) (sym more)
    ]
