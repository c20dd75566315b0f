use Rattle.std.proofs.Common.{◌≡◌, take, flat_map}
use Rattle.tmpl_json_schema.specs.computed.Inferred.{seen, maps_seen, values_among}
use Rattle.tmpl_json_schema.proofs.infer.values_in.Given as goal

abbrev pub invariant-loop-map : goal.invariant-loop-map
invariant-loop-map l = seen l.all.items ≡ flat_map values_among (maps_seen (take l.map-index l.maps))
