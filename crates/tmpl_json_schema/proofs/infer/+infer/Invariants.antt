use Rattle.std.proofs.Common.{◌+◌, ◌*◌}
use Rattle.serde_json.specs.View.{items_view, members_view}
use Rattle.tmpl_json_schema.specs.computed.Inferred.{maps_seen, AreTold}
use Rattle.tmpl_json_schema.proofs.infer.+infer.Given as goal

abbrev pub decreases-schema_of : goal.decreases-schema_of
decreases-schema_of l = 10 * l.levels + 0

abbrev pub decreases-add_items : goal.decreases-add_items
decreases-add_items l = 10 * l.levels + 5

abbrev pub decreases-add_keyed : goal.decreases-add_keyed
decreases-add_keyed l = 10 * l.levels + 8

abbrev pub decreases-add_others : goal.decreases-add_others
decreases-add_others l = 10 * l.levels + 5

abbrev pub decreases-add_properties : goal.decreases-add_properties
decreases-add_properties l = 10 * l.levels + 5

abbrev pub decreases-add_keys : goal.decreases-add_keys
decreases-add_keys l = 10 * l.levels + 3

abbrev pub decreases-add_key : goal.decreases-add_key
decreases-add_key l = 10 * l.levels + 1

abbrev pub invariant-add_properties-loop-map : goal.invariant-add_properties-loop-map
invariant-add_properties-loop-map l = AreTold l.levels (maps_seen l.maps) (members_view l.keys.properties.entries) (items_view l.keys.required.items)

abbrev pub invariant-add_keys-loop-name : goal.invariant-add_keys-loop-name
invariant-add_keys-loop-name l = AreTold l.levels (maps_seen l.maps) (members_view l.keys.properties.entries) (items_view l.keys.required.items)
