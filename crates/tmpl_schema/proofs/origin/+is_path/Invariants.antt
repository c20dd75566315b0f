use Rattle.std.proofs.Common.{length}
use Rattle.tmpl_schema.proofs.origin.+is_path.Given as goal

abbrev pub decreases-is_path : goal.decreases-is_path
decreases-is_path l = length l.path.now
