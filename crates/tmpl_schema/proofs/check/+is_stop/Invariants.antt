use Rattle.std.proofs.Common.{length}
use Rattle.tmpl_schema.proofs.check.+is_stop.Given as goal

abbrev pub decreases-is_stop : goal.decreases-is_stop
decreases-is_stop l = length l.stops.now
