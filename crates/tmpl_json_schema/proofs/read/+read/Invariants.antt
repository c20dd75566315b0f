use Rattle.std.proofs.Common.{◌+◌, ◌*◌, drop}
use Rattle.std.specs.Option.{option_map}
use Rattle.serde_json.specs.View.{items_view, members_view, view}
use Rattle.tmpl_shape.specs.Shape.{Fields, Shape, never}
use Rattle.tmpl_shape.specs.View.{fields_of, shape_of}
use Rattle.tmpl_json_schema.specs.Document.{EachItemOf, SomeItem, SomeMember}
use Rattle.tmpl_json_schema.specs.computed.Fitting.{Adds, Keeps, WithProperties, context_of}
use Rattle.tmpl_json_schema.proofs.read.+read.Given as goal

-- what is so of a shape to which the rest is added is so of it where all is added to the first
abbrev pub invariant-some_shape-loop-choice : goal.invariant-some_shape-loop-choice
invariant-some_shape-loop-choice l =
    let c = context_of l.fn.reader in
    (t : Shape) → Adds c (λ C v. SomeItem (λ d. C d v) (items_view (drop l.choice-index l.choices))) (shape_of l.shape) t
    → Adds c (λ C v. SomeItem (λ d. C d v) (items_view l.choices)) never t

abbrev pub invariant-with_each_pattern-loop-pattern : goal.invariant-with_each_pattern-loop-pattern
invariant-with_each_pattern-loop-pattern l =
    let c = context_of l.fn.reader in
    (t : Shape) → Adds c (λ C v. SomeMember (λ d. C d v) (members_view l.pattern-iterator)) (shape_of l.all) t
    → Adds c (λ C v. SomeMember (λ d. C d v) (members_view l.fn.patterns.entries)) (shape_of l.fn.shape) t

abbrev pub invariant-with_each_part-loop-part : goal.invariant-with_each_part-loop-part
invariant-with_each_part-loop-part l =
    let c = context_of l.fn.reader in
    (t : Shape) → Keeps c (λ C v. EachItemOf (λ d. C d v) (items_view (drop l.part-index l.parts))) (shape_of l.all) t
    → Keeps c (λ C v. EachItemOf (λ d. C d v) (items_view l.parts)) (shape_of l.fn.shape) t

abbrev pub invariant-property_fields-loop-name : goal.invariant-property_fields-loop-name
invariant-property_fields-loop-name l =
    let c = context_of l.fn.reader in
    let required = option_map (λ v. view v.now) l.fn.required in
    (fs : Fields) → WithProperties c required (members_view l.name-iterator) (fields_of l.fields) fs
    → WithProperties c required (members_view l.fn.members.entries) (fields_of l.fn.fields) fs

abbrev pub decreases-schema_shape : goal.decreases-schema_shape
decreases-schema_shape l = 20 * l.steps + 0

abbrev pub decreases-shape_by : goal.decreases-shape_by
decreases-shape_by l = 20 * l.steps + 1

abbrev pub decreases-part_shape : goal.decreases-part_shape
decreases-part_shape l = 20 * l.steps + 2

abbrev pub decreases-look_up : goal.decreases-look_up
decreases-look_up l = 20 * l.steps + 3

abbrev pub decreases-some_shape : goal.decreases-some_shape
decreases-some_shape l = 20 * l.steps + 3

abbrev pub decreases-with_each_part : goal.decreases-with_each_part
decreases-with_each_part l = 20 * l.steps + 3

abbrev pub decreases-choice_shape : goal.decreases-choice_shape
decreases-choice_shape l = 20 * l.steps + 4

abbrev pub decreases-with_parts : goal.decreases-with_parts
decreases-with_parts l = 20 * l.steps + 4

abbrev pub decreases-with_choices : goal.decreases-with_choices
decreases-with_choices l = 20 * l.steps + 5

abbrev pub decreases-with_all_of : goal.decreases-with_all_of
decreases-with_all_of l = 20 * l.steps + 5

abbrev pub decreases-with_alternatives : goal.decreases-with_alternatives
decreases-with_alternatives l = 20 * l.steps + 6

abbrev pub decreases-with_applicators : goal.decreases-with_applicators
decreases-with_applicators l = 20 * l.steps + 7

abbrev pub decreases-property_fields : goal.decreases-property_fields
decreases-property_fields l = 20 * l.steps + 2

abbrev pub decreases-with_properties : goal.decreases-with_properties
decreases-with_properties l = 20 * l.steps + 3

abbrev pub decreases-properties_in : goal.decreases-properties_in
decreases-properties_in l = 20 * l.steps + 4

abbrev pub decreases-with_each_pattern : goal.decreases-with_each_pattern
decreases-with_each_pattern l = 20 * l.steps + 2

abbrev pub decreases-with_patterns : goal.decreases-with_patterns
decreases-with_patterns l = 20 * l.steps + 3

abbrev pub decreases-additional_shape : goal.decreases-additional_shape
decreases-additional_shape l = 20 * l.steps + 4

abbrev pub decreases-fields_in : goal.decreases-fields_in
decreases-fields_in l = 20 * l.steps + 6

abbrev pub decreases-items_shape : goal.decreases-items_shape
decreases-items_shape l = 20 * l.steps + 2

abbrev pub decreases-content_shape : goal.decreases-content_shape
decreases-content_shape l = 20 * l.steps + 8

abbrev pub decreases-own_shape : goal.decreases-own_shape
decreases-own_shape l = 20 * l.steps + 10

abbrev pub decreases-reference_shape : goal.decreases-reference_shape
decreases-reference_shape l = 20 * l.steps + 14

abbrev pub decreases-object_shape : goal.decreases-object_shape
decreases-object_shape l = 20 * l.steps + 15
