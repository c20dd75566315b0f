use Rattle.std.proofs.Common.{◌≡◌, ◌≤◌, ◌-◌, ℕ, suc, List, true, false, codes, string_bytes, IfSome, subst, sym, ◌∙◌, arith}
use Rattle.serde_json.specs.Data.{Data, object}
use Rattle.serde_json.specs.Find.{get}
use Rattle.serde_json.specs.View.{view, items_view, members_view}
use Rattle.serde_json.proofs.Views.{view-Array, view-Object}
use Rattle.tmpl_values.specs.Json.{tree_value, tree_items}
use Rattle.tmpl_json_schema.specs.Document.{conforms_in, in_properties}
use Rattle.tmpl_json_schema.specs.computed.Conformed.{Meets, MeetsEach}
use Rattle.tmpl_json_schema.proofs.MeetLemmas.{all-taken, conforms-all, each-item, each-member, every-item, instance-of, of-each-fits, of-lookup, others-fit, properties-fit, some-item, together}
use Rattle.tmpl_json_schema.proofs.StepLemmas.{all-more}
use Rattle.tmpl_json_schema.proofs.conform.Judge.+conform.Goals as goal
use Rattle.tmpl_json_schema.proofs.conform.Judge.+conform.Goals.{count_met-in-No, count_met-in-Unknown, count_met-in-Yes, judge_properties-in-None-get, judge_properties-in-Some-get}

pub judge_each_item-returns : goal.judge_each_item-returns
judge_each_item-returns n c = λ e.
    each-item (conforms_in (view c.args.self.root.now) c.args.self.levels (view c.args.schema.now)) c.args.items.now
    (all-taken _ c.args.items.now c.loop-item.item-index c.loop-item-test.false (c.loop-item.invariant e))

pub judge-returns-in-Object : goal.judge-returns-in-Object
judge-returns-in-Object n c = λ e.
    let root = view c.args.self.root.now in
    let value = tree_value (view c.args.value.now) in
    let ms = members_view c.in-Object.rules.entries in
    let is = c.in-Object.is in
    let object_is : view c.args.schema.now ≡ object ms = rw is (view-Object c.in-Object.rules) in
    let fewer : c.args.self.levels ≡ suc (c.args.self.levels - 1) = omega (arith, c.if-self-eq0.false) in
    rw (object_is, fewer) (conforms-all root (c.args.self.levels - 1) ms value (instance-of (view c.args.value.now) c.count_keys.ensures)
    (subst (λ d. IfSome value (MeetsEach root (conforms_in root (c.args.self.levels - 1)) d ms)) object_is (c.judge_rules.ensures e)))

pub count_met-returns-after-loop-schema : goal.count_met-returns-after-loop-schema
count_met-returns-after-loop-schema n c = λ h.
    let is = c.in-Array.is in
    let items = c.deref-schema-items.ensures.value in
    rw (is, view-Array c.in-Array.schemas, ← items) (c.loop-schema.invariant h)

pub judge_rules-returns : goal.judge_rules-returns
judge_rules-returns n c = λ e.
    let root = view c.args.self.root.now in
    let schema = view c.args.schema.now in
    let value = tree_value (view c.args.value.now) in
    together (λ k d v. Meets root (conforms_in root c.args.self.levels) schema k d v) value (members_view c.args.rules.now.entries)
    (each-member (λ k d. IfSome value (Meets root (conforms_in root c.args.self.levels) schema k d)) c.into_iter-keyword-iterator.result c.args.rules.now.entries c.loop-keyword.keyword-iterator
    c.loop-keyword.yielded (c.into_iter-keyword-iterator.ensures.into_iter_gives ∙ c.iter-keyword-items.ensures.rest) c.loop-keyword.yielded_by c.in-None.ensures.steps.0 (c.loop-keyword.invariant e))

pub judge_others-returns : goal.judge_others-returns
judge_others-returns n c = λ e.
    let C = conforms_in (view c.args.self.root.now) c.args.self.levels in
    let others = view c.args.others.now in
    let properties = get (codes "properties") (view c.args.schema.now) in
    let patterns = get (codes "patternProperties") (view c.args.schema.now) in
    others-fit C properties patterns others (members_view c.args.members.now.entries)
    (each-member (λ k d. in_properties k properties ≡ false → IfSome (tree_value d) (C others)) c.into_iter-name-iterator.result
    c.args.members.now.entries c.loop-name.name-iterator
    c.loop-name.yielded (c.into_iter-name-iterator.ensures.into_iter_gives ∙ c.iter-name-items.ensures.rest) c.loop-name.yielded_by c.in-None.ensures.steps.0 (c.loop-name.invariant e))

pub judge_all-returns : goal.judge_all-returns
judge_all-returns n c = λ e.
    let is = c.in-Array.is in
    let items = c.deref-schema-items.ensures.value in
    rw (is, view-Array c.in-Array.schemas, ← items)
    (every-item (conforms_in (view c.args.self.root.now) c.args.self.levels) (tree_value (view c.args.value.now)) c.deref-schema-items.result.now
    (all-taken _ c.deref-schema-items.result.now c.loop-schema.schema-index c.loop-schema-test.false (c.loop-schema.invariant e)))

pub judge_items-returns-else-is_some : goal.judge_items-returns-else-is_some
judge_items-returns-else-is_some n c = λ e.
    of-each-fits (conforms_in (view c.args.self.root.now) c.args.self.levels) _ (view c.args.rule.now) (tree_items (items_view c.args.items.now)) (c.judge_each_item.ensures e)

pub judge_properties-returns : goal.judge_properties-returns
judge_properties-returns n c = λ e.
    let C = conforms_in (view c.args.self.root.now) c.args.self.levels in
    let properties = view c.args.properties.now in
    properties-fit C properties (members_view c.args.members.now.entries) c.count_keys.ensures
    (each-member (λ k d. IfSome (get k properties) (λ s. IfSome (tree_value d) (C s))) c.into_iter-name-iterator.result c.args.members.now.entries c.loop-name.name-iterator
    c.loop-name.yielded (c.into_iter-name-iterator.ensures.into_iter_gives ∙ c.iter-name-items.ensures.rest) c.loop-name.yielded_by c.in-None.ensures.steps.0 (c.loop-name.invariant e))

pub judge_rules-loop-keyword-preserved : goal.judge_rules-loop-keyword-preserved
judge_rules-loop-keyword-preserved n c = λ e.
    let root = view c.args.self.root.now in
    let P = λ (k : List ℕ). IfSome (tree_value (view c.args.value.now)) (Meets root (conforms_in root c.args.self.levels) (view c.args.schema.now) k (view c.in-Some.rule.now)) in
    all-more _ c.loop-keyword.yielded (c.in-Some.keyword, c.in-Some.rule) (c.loop-keyword.invariant (c.and-judged.ensures e).0)
    (subst P c.as_str.ensures.value (c.judge_rule.ensures (c.and-judged.ensures e).1))

pub judge_properties-loop-name-preserved : goal.judge_properties-loop-name-preserved
judge_properties-loop-name-preserved n c = λ e.
    let P = λ (s : Data). IfSome (tree_value (view c.in-Some.member.now)) (conforms_in (view c.args.self.root.now) c.args.self.levels s) in
    all-more _ c.loop-name.yielded (c.in-Some.name, c.in-Some.member) (c.loop-name.invariant (c.and-judged.ensures e).0)
    (subst (λ k. IfSome (get k (view c.args.properties.now)) P) c.as_str.ensures.value
    (of-lookup P c.as_str.result.now (view c.args.properties.now) c.get.result c.get.ensures (elim c.match-get.branch [
      | judge_properties-in-Some-get w ↦ let is = w.in-Some-get.is in rw is (w.judge.ensures (sym w.and-is ∙ (c.and-judged.ensures e).1))
      | judge_properties-in-None-get w ↦ let is = w.in-None-get.is in rw is tt
    ])))

pub judge_others-loop-name-preserved : goal.judge_others-loop-name-preserved
judge_others-loop-name-preserved n c = λ e.
    let properties = get (codes "properties") (view c.args.schema.now) in
    let known : in_properties (string_bytes c.in-Some.name.now) properties ≡ true =
    subst (λ k. in_properties k properties ≡ true) c.as_str.ensures.value (sym c.is_property.ensures ∙ c.if-not-is_property.false) in
    all-more _ c.loop-name.yielded (c.in-Some.name, c.in-Some.member) (c.loop-name.invariant e) (λ none. absurd (let both = sym known ∙ none in cc))

pub count_met-loop-schema-preserved : goal.count_met-loop-schema-preserved
count_met-loop-schema-preserved n c = elim c.match-judge.branch [
  | count_met-in-Yes w ↦ λ _.
      some-item (conforms_in (view c.args.self.root.now) c.args.self.levels) (tree_value (view c.args.value.now)) c.deref-schema-items.result.now c.loop-schema.schema-index
      c.schema-item.result c.loop-schema-test.true c.schema-item.is (c.judge.ensures w.in-Yes.is)
  | count_met-in-No w ↦ λ h. c.loop-schema.invariant (subst (λ k. 1 ≤ k) w.met-is h)
  | count_met-in-Unknown w ↦ λ h. c.loop-schema.invariant (subst (λ k. 1 ≤ k) w.met-is h)
]
