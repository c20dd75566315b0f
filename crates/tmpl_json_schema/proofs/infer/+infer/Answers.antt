use Rattle.std.proofs.Common.{◌≡◌, ◌-◌, ℕ, List, inr, length, filter_map, sym, subst, ap, ◌∙◌, suc, arith, codes}
use Rattle.std.proofs.lemmas.List.{length-map}
use Rattle.std.proofs.lemmas.Result.{on_ok_weaker}
use Rattle.std.specs.Borrow.{Bor}
use Rattle.serde_json.specs.Data.{Members, array, object, put}
use Rattle.serde_json.specs.Find.{get_member}
use Rattle.serde_json.specs.View.{view, items_view, members_view}
use Rattle.serde_json.specs.declared.value.Value.{Value}
use Rattle.serde_json.proofs.Views.{view-Array, view-Object}
use Rattle.tmpl_json_schema.specs.declared.infer.Keys.{Keys}
use Rattle.tmpl_json_schema.specs.computed.Inferred.{seen, maps_seen, EachValue, Fits, AreTold}
use Rattle.tmpl_json_schema.proofs.ConformLemmas.{IsTold, empty-fits, schema-told, key-told, required-told}
use Rattle.tmpl_json_schema.proofs.infer.+infer.Goals as goal
use Rattle.tmpl_json_schema.proofs.infer.+infer.Goals.{add_key-then-len-maps+in_ok-try_from_str+in_ok-push, add_key-else-len-maps}

pub add_key-returns : goal.add_key-returns
add_key-returns t c =
    let name = c.args.name.now in
    let maps = maps_seen c.args.maps.now in
    let values = c.in_ok-values.values in
    let d = object (members_view c.in_ok-property.property.entries) in
    let ps = members_view c.if-len-maps.keys.properties.entries in
    let ks = items_view c.if-len-maps.keys.required.items in
    let there : seen values.items ≡ filter_map (get_member name) maps = c.in_ok-values.ensures in
    let fits = subst (EachValue (Fits (suc c.args.levels) d)) (ap seen c.as_slice-2.ensures.value ∙ there) c.in_ok-property.ensures.conform in
    let T : Keys → Type 0 = λ q. AreTold c.args.levels maps (members_view q.properties.entries) (items_view q.required.items) in
    let told : T c.if-len-maps.keys = elim c.if-len-maps.branch [
      | add_key-then-len-maps+in_ok-try_from_str+in_ok-push w ↦
          let as_many : length (filter_map (get_member name) maps) ≡ length maps =
          omega (arith, ap length there, length-map values.items (λ (s : Bor Value). view s.now), length-map c.args.maps.now (λ (m : Bor _). members_view m.now.entries), values.ok.0, c.len.ensures, w.if-len-maps.true) in
          subst T (sym w.keys-is) (subst (λ (vs : List Value). AreTold c.args.levels maps (members_view c.args.keys.now.properties.entries) (items_view vs)) (sym w.in_ok-push.ensures.items)
          (required-told c.args.levels maps (members_view c.args.keys.now.properties.entries) c.args.keys.now.required.items name w.in_ok-try_from_str.field-0 c.requires.1.1 w.in_ok-try_from_str.ensures as_many))
      | add_key-else-len-maps w ↦ subst T (sym w.keys-is) c.requires.1.1
    ] in
    on_ok_weaker c.put.result (λ is.
    subst (λ (ms : Members). AreTold c.args.levels maps ms ks) (sym (is ∙ ap (λ x. put name x ps) (view-Object c.in_ok-property.property)))
    (key-told c.args.levels maps name d ps ks told fits c.in_ok-property.ensures.nests c.in_ok-property.ensures.plain)) c.put.ensures.ok

whole : (t : ℕ) (c : goal.schema_of-After-drop-maps-2 t) → IsTold c.args.levels (seen c.args.samples.now) (members_view c.add_keyed.new.schema.entries)
whole t c =
    let levels : c.args.levels ≡ suc (c.args.levels - 1) = omega (arith, c.if-levels-eq0.false) in
    let types = c.in_ok-types_of.field-0 in
    schema-told (c.args.levels - 1) c.args.levels (seen c.args.samples.now) (maps_seen c.as_slice.result.now) (view types)
    (members_view c.put.new.map.entries) (members_view c.add_items.new.schema.entries) (members_view c.add_keyed.new.schema.entries) levels
    (ap maps_seen c.as_slice.ensures.value ∙ c.in_ok-maps.ensures.maps)
    (c.in_ok-put.ensures.ok ∙ ap (λ es. put (codes "type") (view types) (members_view es)) c.new-schema.ensures.empty)
    c.in_ok-maps.ensures.instances c.in_ok-types_of.ensures.conform c.in_ok-types_of.ensures.nests c.in_ok-types_of.ensures.plain c.in_ok-add_items.ensures c.in_ok-add_keyed.ensures

pub schema_of-returns-then-levels-eq0-clause-conform : goal.schema_of-returns-then-levels-eq0-clause-conform
schema_of-returns-then-levels-eq0-clause-conform t c =
    let empty = c.new-schema.ensures.empty in
    rw empty (empty-fits c.args.levels (seen c.args.samples.now) c.in_ok-maps.ensures.instances)

pub schema_of-returns-clause-conform : goal.schema_of-returns-clause-conform
schema_of-returns-clause-conform t c = (whole t c).0

pub schema_of-returns-clause-nests : goal.schema_of-returns-clause-nests
schema_of-returns-clause-nests t c = (whole t c).1

pub schema_of-returns-clause-plain : goal.schema_of-returns-clause-plain
schema_of-returns-clause-plain t c = (whole t c).2

pub add_properties-returns : goal.add_properties-returns
add_properties-returns t c =
    let properties = c.loop-map.keys.properties in
    let required = c.loop-map.keys.required in
    let ks = items_view required.items in
    let old = members_view c.args.schema.now.entries in
    on_ok_weaker c.put-2.result (λ is. inr (
      members_view properties.entries,
      ks,
      is ∙ ap (λ d. put (codes "required") d (members_view c.put.new.map.entries)) (view-Array required)
          ∙ ap (put (codes "required") (array ks)) (c.in_ok-put.ensures.ok ∙ ap (λ d. put (codes "properties") d old) (view-Object properties)),
      c.loop-map.invariant,
    )) c.put-2.ensures.ok

pub add_items-returns : goal.add_items-returns
add_items-returns t c =
    let told = c.in_ok-told.told in
    let d = object (members_view told.entries) in
    let old = members_view c.args.schema.now.entries in
    on_ok_weaker c.put.result (λ is. inr (
      d,
      is ∙ ap (λ x. put (codes "items") x old) (view-Object told),
      subst (EachValue (Fits (suc c.args.levels) d)) (ap seen c.as_slice.ensures.value ∙ c.in_ok-items.ensures) c.in_ok-told.ensures.conform,
      c.in_ok-told.ensures.nests,
      c.in_ok-told.ensures.plain,
    )) c.put.ensures.ok

pub add_others-returns : goal.add_others-returns
add_others-returns t c =
    let told = c.in_ok-told.told in
    let d = object (members_view told.entries) in
    let old = members_view c.args.schema.now.entries in
    on_ok_weaker c.put.result (λ is. inr (
      d,
      is ∙ ap (λ x. put (codes "additionalProperties") x old) (view-Object told),
      subst (EachValue (Fits (suc c.args.levels) d)) (ap seen c.as_slice.ensures.value ∙ c.in_ok-values.ensures) c.in_ok-told.ensures.conform,
      c.in_ok-told.ensures.nests,
      c.in_ok-told.ensures.plain,
    )) c.put.ensures.ok
