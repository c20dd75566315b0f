use Rattle.std.proofs.Common.{◌≡◌, take, filter_map}
use Rattle.serde_json.specs.Find.{as_object}
use Rattle.tmpl_json_schema.specs.Document.{IsInstance}
use Rattle.tmpl_json_schema.specs.computed.Inferred.{seen, maps_seen, EachValue}
use Rattle.tmpl_json_schema.proofs.infer.maps_in.Given as goal

abbrev pub invariant-loop-sample : goal.invariant-loop-sample
invariant-loop-sample l =
    (maps_seen l.maps.items ≡ filter_map as_object (seen (take l.sample-index l.samples))) × EachValue IsInstance (seen (take l.sample-index l.samples))
