use Rattle.std.proofs.Common.{◌+◌, ◌*◌, string_bytes, take}
use Rattle.std.specs.List.{AllByRecursion}
use Rattle.serde_json.specs.View.{view}
use Rattle.tmpl_json_schema.specs.Keywords.{IsKnown}
use Rattle.tmpl_json_schema.specs.computed.Known.{IsRule}
use Rattle.tmpl_json_schema.proofs.known.+known.Given as goal

abbrev pub decreases-is_known : goal.decreases-is_known
decreases-is_known l = 10 * l.levels + 0

abbrev pub decreases-are_known : goal.decreases-are_known
decreases-are_known l = 10 * l.levels + 6

abbrev pub decreases-is_rule : goal.decreases-is_rule
decreases-is_rule l = 10 * l.levels + 5

abbrev pub decreases-is_schema : goal.decreases-is_schema
decreases-is_schema l = 10 * l.levels + 4

abbrev pub decreases-are_named : goal.decreases-are_named
decreases-are_named l = 10 * l.levels + 4

abbrev pub decreases-each_named : goal.decreases-each_named
decreases-each_named l = 10 * l.levels + 3

abbrev pub decreases-are_listed : goal.decreases-are_listed
decreases-are_listed l = 10 * l.levels + 4

abbrev pub decreases-each_listed : goal.decreases-each_listed
decreases-each_listed l = 10 * l.levels + 3

abbrev pub invariant-are_known-loop-keyword : goal.invariant-are_known-loop-keyword
invariant-are_known-loop-keyword l = AllByRecursion (λ x. IsRule (string_bytes x.0.now) (view x.1.now)) l.yielded

abbrev pub invariant-each_named-loop-name : goal.invariant-each_named-loop-name
invariant-each_named-loop-name l = AllByRecursion (λ x. IsKnown (view x.1.now)) l.yielded

abbrev pub invariant-each_listed-loop-schema : goal.invariant-each_listed-loop-schema
invariant-each_listed-loop-schema l = AllByRecursion (λ d. IsKnown (view d)) (take l.schema-index l.schemas)
