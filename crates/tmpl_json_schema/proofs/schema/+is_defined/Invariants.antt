use Rattle.std.proofs.Common.{length}
use Rattle.tmpl_json_schema.proofs.schema.+is_defined.Given as goal

abbrev pub decreases-is_defined : goal.decreases-is_defined
decreases-is_defined l = length l.definitions.now
