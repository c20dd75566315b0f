use Rattle.std.proofs.Common.{◌≡◌, ◌+◌, ◌*◌, false, string_bytes, take}
use Rattle.std.specs.List.{AllByRecursion}
use Rattle.serde_json.specs.View.{view}
use Rattle.tmpl_json_schema.specs.Document.{has_base}
use Rattle.tmpl_json_schema.specs.computed.Defined.{IsUnbased}
use Rattle.tmpl_json_schema.proofs.base.+base.Given as goal

abbrev pub decreases-is_unbased : goal.decreases-is_unbased
decreases-is_unbased l = 10 * l.levels + 0

abbrev pub decreases-items_unbased : goal.decreases-items_unbased
decreases-items_unbased l = 10 * l.levels + 2

abbrev pub decreases-members_unbased : goal.decreases-members_unbased
decreases-members_unbased l = 10 * l.levels + 3

abbrev pub decreases-is_member_unbased : goal.decreases-is_member_unbased
decreases-is_member_unbased l = 10 * l.levels + 2

abbrev pub invariant-items_unbased-loop-item : goal.invariant-items_unbased-loop-item
invariant-items_unbased-loop-item l = AllByRecursion (λ d. has_base l.key (view d) ≡ false) (take l.item-index l.items)

abbrev pub invariant-members_unbased-loop-name : goal.invariant-members_unbased-loop-name
invariant-members_unbased-loop-name l = AllByRecursion (λ x. IsUnbased l.key (string_bytes x.0.now) (view x.1.now)) l.yielded
