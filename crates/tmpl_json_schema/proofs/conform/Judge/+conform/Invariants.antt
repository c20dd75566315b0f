use Rattle.std.proofs.Common.{◌≡◌, ◌≤◌, ◌+◌, ◌*◌, codes, false, string_bytes, IfSome, take}
use Rattle.std.specs.List.{AllByRecursion}
use Rattle.serde_json.specs.Find.{get}
use Rattle.serde_json.specs.View.{view, items_view}
use Rattle.tmpl_values.specs.Json.{tree_value}
use Rattle.tmpl_json_schema.specs.Document.{SomeItem, conforms_in, in_properties}
use Rattle.tmpl_json_schema.specs.computed.Conformed.{Meets}
use Rattle.tmpl_json_schema.specs.declared.conform.Conformity.TheVariants as conformity
use Rattle.tmpl_json_schema.proofs.conform.Judge.+conform.Given as goal

abbrev pub decreases-judge : goal.decreases-judge
decreases-judge l = 10 * l.self.levels + 0

abbrev pub decreases-judge_rule : goal.decreases-judge_rule
decreases-judge_rule l = 10 * l.self.levels + 6

abbrev pub decreases-judge_of_kind : goal.decreases-judge_of_kind
decreases-judge_of_kind l = 10 * l.self.levels + 5

abbrev pub decreases-count_met : goal.decreases-count_met
decreases-count_met l = 10 * l.self.levels + 2

abbrev pub decreases-judge_each_item : goal.decreases-judge_each_item
decreases-judge_each_item l = 10 * l.self.levels + 2

abbrev pub decreases-judge_properties : goal.decreases-judge_properties
decreases-judge_properties l = 10 * l.self.levels + 2

abbrev pub decreases-judge_others : goal.decreases-judge_others
decreases-judge_others l = 10 * l.self.levels + 4

abbrev pub decreases-judge_rules : goal.decreases-judge_rules
decreases-judge_rules l = 10 * l.self.levels + 7

abbrev pub decreases-judge_if : goal.decreases-judge_if
decreases-judge_if l = 10 * l.self.levels + 2

abbrev pub decreases-judge_all : goal.decreases-judge_all
decreases-judge_all l = 10 * l.self.levels + 3

abbrev pub decreases-judge_items : goal.decreases-judge_items
decreases-judge_items l = 10 * l.self.levels + 4

abbrev pub decreases-judge_behind : goal.decreases-judge_behind
decreases-judge_behind l = 10 * l.self.levels + 3

abbrev pub decreases-judge_first : goal.decreases-judge_first
decreases-judge_first l = 10 * l.self.levels + 2

abbrev pub decreases-judge_contains : goal.decreases-judge_contains
decreases-judge_contains l = 10 * l.self.levels + 2

abbrev pub decreases-judge_patterns : goal.decreases-judge_patterns
decreases-judge_patterns l = 10 * l.self.levels + 3

abbrev pub decreases-judge_matches : goal.decreases-judge_matches
decreases-judge_matches l = 10 * l.self.levels + 2

abbrev pub decreases-judge_names : goal.decreases-judge_names
decreases-judge_names l = 10 * l.self.levels + 2

abbrev pub decreases-judge_dependents : goal.decreases-judge_dependents
decreases-judge_dependents l = 10 * l.self.levels + 2

abbrev pub invariant-judge_rules-loop-keyword : goal.invariant-judge_rules-loop-keyword
invariant-judge_rules-loop-keyword l =
    l.judged ≡ conformity.Yes → AllByRecursion (λ x. IfSome (tree_value (view l.value)) (Meets (view l.self.root.now) (conforms_in (view l.self.root.now) l.self.levels) (view l.schema) (string_bytes x.0.now) (view x.1.now))) l.yielded

abbrev pub invariant-count_met-loop-schema : goal.invariant-count_met-loop-schema
invariant-count_met-loop-schema l =
    1 ≤ l.met → IfSome (tree_value (view l.value)) (λ v. SomeItem (λ d. conforms_in (view l.self.root.now) l.self.levels d v) (items_view l.schema-items))

abbrev pub invariant-judge_each_item-loop-item : goal.invariant-judge_each_item-loop-item
invariant-judge_each_item-loop-item l =
    l.judged ≡ conformity.Yes → AllByRecursion (λ item. IfSome (tree_value (view item)) (conforms_in (view l.self.root.now) l.self.levels (view l.schema))) (take l.item-index l.items)

abbrev pub invariant-judge_properties-loop-name : goal.invariant-judge_properties-loop-name
invariant-judge_properties-loop-name l =
    l.judged ≡ conformity.Yes → AllByRecursion (λ x. IfSome (get (string_bytes x.0.now) (view l.properties)) (λ s. IfSome (tree_value (view x.1.now)) (conforms_in (view l.self.root.now) l.self.levels s))) l.yielded

abbrev pub invariant-judge_all-loop-schema : goal.invariant-judge_all-loop-schema
invariant-judge_all-loop-schema l =
    l.judged ≡ conformity.Yes → AllByRecursion (λ d. IfSome (tree_value (view l.value)) (conforms_in (view l.self.root.now) l.self.levels (view d))) (take l.schema-index l.schema-items)

abbrev pub invariant-judge_others-loop-name : goal.invariant-judge_others-loop-name
invariant-judge_others-loop-name l =
    l.judged ≡ conformity.Yes → AllByRecursion (λ x. in_properties (string_bytes x.0.now) (get (codes "properties") (view l.schema)) ≡ false → IfSome (tree_value (view x.1.now)) (conforms_in (view l.self.root.now) l.self.levels (view l.others))) l.yielded
