use Rattle.std.proofs.Common.{length}
use Rattle.tmpl_json_schema.proofs.provenance.Provenance.+add_all.Given as goal

abbrev pub decreases-add_all : goal.decreases-add_all
decreases-add_all l = length l.places.now
