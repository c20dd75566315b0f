use Rattle.std.proofs.Common.{◌<◌, length, take, sym, subst, ap, ◌∙◌, arith}
use Rattle.serde_json.specs.View.{view}
use Rattle.std.specs.List.{filter_map}
use Rattle.serde_json.specs.Find.{as_object}
use Rattle.tmpl_json_schema.specs.Document.{IsInstance}
use Rattle.tmpl_json_schema.specs.computed.Inferred.{seen, maps_seen, EachValue}
use Rattle.tmpl_json_schema.proofs.StepLemmas.{seen-more, all-more, map-found, map-not_found}
use Rattle.tmpl_json_schema.proofs.MeetLemmas.{instance-of}
use Rattle.tmpl_json_schema.proofs.infer.maps_in.Goals as goal
use Rattle.tmpl_json_schema.proofs.infer.maps_in.Goals.{in-Some+in_ok-push, in_default}

pub loop-sample-preserved : goal.loop-sample-preserved
loop-sample-preserved c =
    let within : c.loop-sample.sample-index < length c.args.samples.now = omega arith in
    let more = seen-more c.args.samples.now c.loop-sample.sample-index c.sample-item.result within c.sample-item.is in
    let before = seen (take c.loop-sample.sample-index c.args.samples.now) in
    let d = view c.sample-item.result.now in
    let said = c.loop-sample.invariant in
    elim c.match-as_object.branch [
      | in-Some+in_ok-push w ↦ (
        ap (λ m. maps_seen m.items) w.maps-is ∙ ap maps_seen w.in_ok-push.ensures.items
            ∙ map-found c.loop-sample.maps.items before d w.in-Some.members said.0 w.in-Some.ensures ∙ ap (filter_map as_object) (sym more),
        subst (EachValue IsInstance) (sym more) (all-more _ before d said.1 (instance-of d c.count_keys.ensures)),
      )
      | in_default w ↦ (
        ap (λ m. maps_seen m.items) w.maps-is ∙ map-not_found c.loop-sample.maps.items before d said.0 w.in_default.ensures ∙ ap (filter_map as_object) (sym more),
        subst (EachValue IsInstance) (sym more) (all-more _ before d said.1 (instance-of d c.count_keys.ensures)),
      )
    ]
