use Rattle.std.proofs.Common.{length}
use Rattle.tmpl_json_schema.proofs.schema.+are_defined.Given as goal

abbrev pub decreases-are_defined : goal.decreases-are_defined
decreases-are_defined l = length l.names.now
