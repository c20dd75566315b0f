use Rattle.std.proofs.Common.{◌≡◌, take, filter_map}
use Rattle.serde_json.specs.Find.{get_member}
use Rattle.tmpl_json_schema.specs.computed.Inferred.{seen, maps_seen}
use Rattle.tmpl_json_schema.proofs.infer.values_of.Given as goal

abbrev pub invariant-loop-map : goal.invariant-loop-map
invariant-loop-map l = seen l.values.items ≡ filter_map (get_member l.key) (maps_seen (take l.map-index l.maps))
