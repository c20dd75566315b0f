use Rattle.std.proofs.Common.{length}
use Rattle.tmpl_json_schema.proofs.provenance.+has_place.Given as goal

abbrev pub decreases-has_place : goal.decreases-has_place
decreases-has_place l = length l.places.now
