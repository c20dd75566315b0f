use Rattle.std.proofs.Common.{rules, Bool, List, ℕ, false, is_some, not, true, ◌&&◌, ◌≡◌, ◌∙◌, ◌+◌, IfSome, Option, Some, ap, drop, option_map, refl, string_bytes, subst, suc, sym, codes}
use Rattle.std.specs.Option.{option_and_then}
use Rattle.std.proofs.lemmas.Bool.{false≢true}
use Rattle.std.proofs.lemmas.Result.{IfOk-weaker}
use Rattle.serde_json.specs.Data as json
use Rattle.serde_json.specs.Data.{Data, Items}
use Rattle.serde_json.specs.Find.{get}
use Rattle.serde_json.specs.View.{items_view, members_view, view}
use Rattle.serde_json.proofs.Views.{view-Object}
use Rattle.tmpl_values.specs.Value.{Value}
use Rattle.tmpl_shape.specs.Shape.{Fields, HasShape, Shape, field}
use Rattle.tmpl_shape.specs.View.{fields_of, shape_of}
use Rattle.tmpl_shape.proofs.ViewLemmas.{anything_seen, named_seen}
use Rattle.tmpl_json_schema.specs.Document.{EachItemOf, FitsSome, SomeItem, SomeMember, is_since_2019, items_in}
use Rattle.tmpl_json_schema.specs.computed.Reading.{by_kinds, is_required, keep_kinds, least_in, listed_in, required_in, rest_of, leaves_in}
use Rattle.tmpl_json_schema.specs.computed.Fitting.{Adds, At, Conforms, Context, IsBeside, Keeps, NamesIn, WithEachOf, WithProperties, context_of}
use Rattle.tmpl_json_schema.proofs.DocumentLemmas.{add-one, add-pattern, additional-has, content-has, fields-has, inside, items-next, keep-one, kinds-of, looked-up, name-has, put-none, put-one, read-object, referred}
use Rattle.tmpl_json_schema.proofs.KindLemmas.{kept-has}
use Rattle.tmpl_json_schema.proofs.read.+read.Goals as goal

since-counts : (i w : Bool) → w ≡ true → (i && not w) ≡ false
since-counts true true e = refl
since-counts false w e = refl
since-counts true false e = absurd (false≢true e)

at : (c : Context) (p q : List ℕ) (n : ℕ) (v : Value) → p ≡ q → At c q (Conforms c n) v → At c p (Conforms c n) v
at c p q n v e h = subst (λ (x : List ℕ). At c x (Conforms c n) v) (sym e) h

pub additional_shape-returns-in-Ok : goal.additional_shape-returns-in-Ok
additional_shape-returns-in-Ok t c =
    let d = view c.args.schema.now in
    let is : get (codes "additionalProperties") d ≡ Some (view c.in-Some.additional.now) = search rules in
    let patterns : option_map (λ v. view v.now) c.get-in-Ok.result ≡ get (codes "patternProperties") d = search rules in
    IfOk-weaker c.with_patterns.result _ _ (λ s adds. additional-has (context_of c.args.reader.now) d (view c.in-Some.additional.now) (shape_of c.in-Ok.shape) (shape_of s) is c.in-Ok.ensures (rw (← patterns) adds))
    c.with_patterns.ensures

pub content_shape-returns : goal.content_shape-returns
content_shape-returns t c =
    let d = view c.args.schema.now in
    let is : shape_of c.in_ok-by_kinds.field-0 ≡ by_kinds c.args.kinds (leaves_in d) (least_in d) (shape_of c.in_ok-item.item) (fields_of c.in_ok-fields.fields) = search rules in
    rw is (content-has (context_of c.args.reader.now) d c.args.kinds (shape_of c.in_ok-item.item) (fields_of c.in_ok-fields.fields) c.in_ok-item.ensures c.in_ok-fields.ensures)

pub fields_in-returns : goal.fields_in-returns
fields_in-returns t c =
    let d = view c.args.schema.now in
    let is : required_in d (rest_of (shape_of c.in_ok-additional.additional)) ≡ Some (fields_of c.in_ok-fields.fields) = search rules in
    IfOk-weaker c.properties_in.result _ _ (λ fs each. fields-has (context_of c.args.reader.now) d (shape_of c.in_ok-additional.additional) (fields_of c.in_ok-fields.fields) (fields_of fs) c.in_ok-additional.ensures is each)
    c.properties_in.ensures

pub items_shape-returns-in-Ok : goal.items_shape-returns-in-Ok
items_shape-returns-in-Ok t c = λ sound n v h.
    let is : items_in (view c.args.schema.now) ≡ Some (view c.in-Some.items.now) = search rules in
    inside (context_of c.args.reader.now) (view c.in-Some.items.now) (shape_of c.in-Ok.shape) c.in-Ok.ensures sound n v
    (subst (λ (o : Option Data). IfSome o (λ d. Conforms (context_of c.args.reader.now) n d v)) is h)

pub look_up-returns-in-Some : goal.look_up-returns-in-Some
look_up-returns-in-Some t c =
    IfOk-weaker c.schema_shape.result _ _ (λ s is. looked-up (context_of c.args.reader.now) c.args.pointer.now (view c.in-Some.schema.now) (shape_of s) c.in-Some.ensures is)
    c.schema_shape.ensures

pub object_shape-returns-in-Some : goal.object_shape-returns-in-Some
object_shape-returns-in-Some t c =
    let d = view c.args.schema.now in
    let is : option_and_then (listed_in c.args.reader.now.names.now) (get (codes "$ref") d) ≡ Some c.in-Some.pointer = search rules in
    IfOk-weaker c.reference_shape.result _ _ (λ s has. referred (context_of c.args.reader.now) d c.in-Some.pointer (shape_of s) is (has c.in_ok-check_const.ensures))
    c.reference_shape.ensures

pub own_shape-returns-then-has_content : goal.own_shape-returns-then-has_content
own_shape-returns-then-has_content t c =
    let d = view c.args.schema.now in
    IfOk-weaker c.with_applicators.result _ _
    (λ s keeps beside sound n v h. keeps sound n v (c.in_ok-content.ensures sound n v (kinds-of d c.in_ok-kinds.kinds (Conforms (context_of c.args.reader.now) n) v c.in_ok-kinds.ensures h, h)) h)
    c.with_applicators.ensures

pub own_shape-returns : goal.own_shape-returns
own_shape-returns t c = λ beside sound n v h.
    let d = view c.args.schema.now in
    let is : shape_of c.in_ok-keep_kinds.field-0 ≡ keep_kinds c.in_ok-kinds.kinds (shape_of c.in_ok-shape.shape) = search rules in
    subst (λ (s : Shape). HasShape (NamesIn (context_of c.args.reader.now) (suc n)) s v) (sym is)
    (kept-has (NamesIn (context_of c.args.reader.now) (suc n)) c.in_ok-kinds.kinds (shape_of c.in_ok-shape.shape) v
    (kinds-of d c.in_ok-kinds.kinds (Conforms (context_of c.args.reader.now) n) v c.in_ok-kinds.ensures h) (c.in_ok-shape.ensures sound n v (subst (λ (s : Shape). HasShape (NamesIn (context_of c.args.reader.now) (suc n)) s v) (sym anything_seen) tt) h))

pub properties_in-returns-in-Ok : goal.properties_in-returns-in-Ok
properties_in-returns-in-Ok t c =
    let d = view c.args.schema.now in
    let is : get (codes "properties") d ≡ Some (view c.in-Some.properties.now) = search rules in
    let required : option_map (λ v. view v.now) c.get-in-Some.result ≡ get (codes "required") d = search rules in
    subst (λ (o : Option Data). WithEachOf (context_of c.args.reader.now) (get (codes "required") d) o (fields_of c.args.fields) (fields_of c.in-Ok.fields)) (sym is)
    (rw (← required) c.in-Ok.ensures)

pub property_fields-loop-name-init : goal.property_fields-loop-name-init
property_fields-loop-name-init t c = λ fs h.
    let all = c.into_iter-name-iterator.ensures.into_iter_gives ∙ c.iter-name-items.ensures.rest in
    subst (λ es. WithProperties (context_of c.args.reader.now) (option_map (λ v. view v.now) c.args.required) (members_view es) (fields_of c.args.fields) fs) all h

pub property_fields-loop-name-preserved : goal.property_fields-loop-name-preserved
property_fields-loop-name-preserved t c = λ fs h.
    let context = context_of c.args.reader.now in
    let required : Option Data = option_map (λ v. view v.now) c.args.required in
    let key = string_bytes c.in-Some.name.now in
    let d = view c.in-Some.property.now in
    let rest = members_view c.next.new.self in
    let gs = fields_of c.loop-name.fields in
    let is : fields_of c.in_ok-fields-in-Ok.fields ≡ field key (is_required key required) (shape_of c.in-Ok.shape) gs = search rules in
    c.loop-name.invariant fs (subst (λ es. WithProperties context required (members_view es) gs fs) (sym c.in-Some.ensures.steps)
    (put-one context required key d rest (shape_of c.in-Ok.shape) gs fs c.in-Ok.ensures (subst (λ (x : Fields). WithProperties context required rest x fs) is h)))

pub property_fields-returns : goal.property_fields-returns
property_fields-returns t c =
    let context = context_of c.args.reader.now in
    let required : Option Data = option_map (λ v. view v.now) c.args.required in
    let gs = fields_of c.loop-name.fields in
    c.loop-name.invariant gs (subst (λ es. WithProperties context required (members_view es) gs gs) (sym c.in-None.ensures.steps.0) (put-none context required gs))

pub reference_shape-returns-then-tells_more : goal.reference_shape-returns-then-tells_more
reference_shape-returns-then-tells_more t c = λ unread sound n v h.
    let context = context_of c.args.reader.now in
    let beside : IsBeside context (view c.args.schema.now) = (unread, since-counts (is_some (get (codes "$ref") (view c.args.schema.now))) (is_since_2019 c.args.reader.now.draft) (sym c.if-is_since_2019.ensures)) in
    let pointer : c.as_slice.result.now ≡ c.args.pointer = search rules in
    let target = c.in_ok-target.ensures sound n v (at context c.as_slice.result.now c.args.pointer n v pointer h.0) in
    c.in_ok-meet_shapes.ensures (suc n) v target (c.in_ok-own.ensures beside sound n v (h.1 beside))

pub reference_shape-returns-then-is_some : goal.reference_shape-returns-then-is_some
reference_shape-returns-then-is_some t c = λ unread sound n v h.
    let context = context_of c.args.reader.now in
    let d = view c.args.schema.now in
    let beside : IsBeside context d = (unread, since-counts (is_some (get (codes "$ref") d)) (is_since_2019 c.args.reader.now.draft) (sym c.if-is_since_2019-2.ensures)) in
    let pointer : c.as_slice-then-is_some.result.now ≡ c.args.pointer = search rules in
    let target = c.in_ok-target-2.ensures sound n v (at context c.as_slice-then-is_some.result.now c.args.pointer n v pointer h.0) in
    let kinds = c.in_ok-kinds.kinds in
    let is : shape_of c.in_ok-keep_kinds.field-0 ≡ keep_kinds kinds (shape_of c.in_ok-target-2.target) = search rules in
    subst (λ (s : Shape). HasShape (NamesIn context (suc n)) s v) (sym is)
    (kept-has (NamesIn context (suc n)) kinds (shape_of c.in_ok-target-2.target) v (kinds-of d kinds (Conforms context n) v c.in_ok-kinds.ensures (h.1 beside)) target)

pub reference_shape-returns-then-is_met : goal.reference_shape-returns-then-is_met
reference_shape-returns-then-is_met t c =
    let pointer : c.as_slice-then-is_met.result.now ≡ c.args.pointer = search rules in
    IfOk-weaker c.look_up-then-is_met.result _ _ (λ s has unread sound n v h. has sound n v (at (context_of c.args.reader.now) c.as_slice-then-is_met.result.now c.args.pointer n v pointer h.0)) c.look_up-then-is_met.ensures

pub schema_shape-returns-in-Object : goal.schema_shape-returns-in-Object
schema_shape-returns-in-Object t c =
    let is : view c.args.schema.now ≡ json.object (members_view c.in-Object.field-0.entries) = ap view c.in-Object.is ∙ view-Object c.in-Object.field-0 in
    IfOk-weaker c.object_shape.result _ _ (λ s has. read-object (context_of c.args.reader.now) (view c.args.schema.now) (members_view c.in-Object.field-0.entries) (shape_of s) is has) c.object_shape.ensures

pub some_shape-loop-choice-preserved : goal.some_shape-loop-choice-preserved
some_shape-loop-choice-preserved t c = λ s h.
    let context = context_of c.args.reader.now in
    let l = c.loop-choice in
    let choices = c.args.choices.now in
    let rest = items_view (drop (l.choice-index + 1) choices) in
    let next = items-next choices l.choice-index c.choice-item.result c.loop-choice-test.true c.choice-item.is in
    l.invariant s (subst (λ (ds : Items). Adds context (λ C v. SomeItem (λ x. C x v) ds) (shape_of l.shape) s) (sym next)
    (add-one context (view c.choice-item.result) rest (shape_of l.shape) (shape_of c.in-Ok.one) s c.in-Ok.ensures
    (subst (λ (b : Shape). Adds context (λ C v. SomeItem (λ x. C x v) rest) b s) c.in_ok-shape.ensures h)))

pub with_alternatives-returns-in-Some : goal.with_alternatives-returns-in-Some
with_alternatives-returns-in-Some t c =
    let d = view c.args.schema.now in
    let choices = view c.in-Some.choices.now in
    let is : get c.args.keyword.now d ≡ Some choices = search rules in
    IfOk-weaker c.with_choices.result _ _
    (λ s keeps sound n v x h. keeps sound n v x (subst (λ o. IfSome o (FitsSome (Conforms (context_of c.args.reader.now) n) v)) is h)) c.with_choices.ensures

pub with_applicators-returns : goal.with_applicators-returns
with_applicators-returns t c =
    IfOk-weaker c.with_all_of.result _ _
    (λ s keeps sound n v x h. keeps sound n v (c.in_ok-shape-2.ensures sound n v (c.in_ok-shape.ensures sound n v x h.9) h.10) h) c.with_all_of.ensures

pub with_each_part-loop-part-preserved : goal.with_each_part-loop-part-preserved
with_each_part-loop-part-preserved t c = λ s h.
    let context = context_of c.args.reader.now in
    let l = c.loop-part in
    let parts = c.args.parts.now in
    let rest = items_view (drop (l.part-index + 1) parts) in
    let next = items-next parts l.part-index c.part-item.result c.loop-part-test.true c.part-item.is in
    l.invariant s (subst (λ (ds : Items). Keeps context (λ C v. EachItemOf (λ x. C x v) ds) (shape_of l.all) s) (sym next)
    (keep-one context (view c.part-item.result) rest (shape_of l.all) (shape_of c.in-Ok.one) (shape_of c.in_ok-all.all) s c.in-Ok.ensures c.in_ok-all.ensures h))

pub with_each_pattern-loop-pattern-preserved : goal.with_each_pattern-loop-pattern-preserved
with_each_pattern-loop-pattern-preserved t c = λ s h.
    let context = context_of c.args.reader.now in
    let rest = members_view c.next.new.self in
    let all = shape_of c.loop-pattern.all in
    c.loop-pattern.invariant s (subst (λ es. Adds context (λ C v. SomeMember (λ x. C x v) (members_view es)) all s) (sym c.in-Some.ensures.steps)
    (add-pattern context (string_bytes c.in-Some.pattern.now) (view c.in-Some.schema.now) rest all (shape_of c.in-Ok.one) s c.in-Ok.ensures
    (subst (λ (b : Shape). Adds context (λ C v. SomeMember (λ x. C x v) rest) b s) c.in_ok-all-in-Ok.ensures h)))

pub look_up-returns-then-reader-eq0 : goal.look_up-returns-then-reader-eq0
look_up-returns-then-reader-eq0 t c = λ sound n v h.
    rw (named_seen, c.in_ok-copy_name.ensures) (name-has (context_of c.args.reader.now) c.args.pointer.now sound n v h)

pub reference_shape-returns : goal.reference_shape-returns
reference_shape-returns t c = λ unread sound n v h. rw named_seen (name-has (context_of c.args.reader.now) c.args.pointer sound n v h.0)
