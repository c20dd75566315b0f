use Rattle.std.proofs.Common.{◌≡◌, take, flat_map}
use Rattle.tmpl_json_schema.specs.computed.Inferred.{seen, items_of_list}
use Rattle.tmpl_json_schema.proofs.infer.items_in.Given as goal

abbrev pub invariant-loop-sample : goal.invariant-loop-sample
invariant-loop-sample l = seen l.all.items ≡ flat_map items_of_list (seen (take l.sample-index l.samples))
