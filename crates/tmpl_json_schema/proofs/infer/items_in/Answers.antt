use Rattle.std.proofs.Common.{◌<◌, ◌++◌, length, take, map, flat_map, sym, ap, ◌∙◌, arith}
use Rattle.serde_json.specs.View.{view}
use Rattle.tmpl_json_schema.specs.computed.Inferred.{seen, items_of_list}
use Rattle.tmpl_json_schema.proofs.StepLemmas.{seen-more, items-found, items-not_found}
use Rattle.tmpl_json_schema.proofs.infer.items_in.Goals as goal
use Rattle.tmpl_json_schema.proofs.infer.items_in.Goals.{in-Some+in_ok-add_items_of, in_default}

pub loop-sample-preserved : goal.loop-sample-preserved
loop-sample-preserved c =
    let within : c.loop-sample.sample-index < length c.args.samples.now = omega arith in
    let more = seen-more c.args.samples.now c.loop-sample.sample-index c.sample-item.result within c.sample-item.is in
    let before = seen (take c.loop-sample.sample-index c.args.samples.now) in
    let d = view c.sample-item.result.now in
    elim c.match-as_array.branch [
      | in-Some+in_ok-add_items_of w ↦
          ap (λ a. seen a.items) w.all-is
          ∙ items-found c.loop-sample.all.items w.add_items_of.new.all.items before d w.in-Some.items.now.items c.loop-sample.invariant w.in-Some.ensures
          (w.in_ok-add_items_of.ensures ∙ ap (λ vs. seen c.loop-sample.all.items ++ map view vs) w.as_slice.ensures.value)
          ∙ ap (flat_map items_of_list) (sym more)
      | in_default w ↦
          ap (λ a. seen a.items) w.all-is ∙ items-not_found c.loop-sample.all.items before d c.loop-sample.invariant w.in_default.ensures ∙ ap (flat_map items_of_list) (sym more)
    ]
