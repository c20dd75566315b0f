use Rattle.std.proofs.Common.{◌+◌, ◌*◌}
use Rattle.tmpl_problems.proofs.cure.+write.Given as goal

abbrev pub decreases-write_command : goal.decreases-write_command
decreases-write_command l = 2 * l.levels + 1

abbrev pub decreases-write_part : goal.decreases-write_part
decreases-write_part l = 2 * l.levels
