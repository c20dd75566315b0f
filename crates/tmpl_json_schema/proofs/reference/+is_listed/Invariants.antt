use Rattle.std.proofs.Common.{length}
use Rattle.tmpl_json_schema.proofs.reference.+is_listed.Given as goal

abbrev pub decreases-is_listed : goal.decreases-is_listed
decreases-is_listed l = length l.names.now
