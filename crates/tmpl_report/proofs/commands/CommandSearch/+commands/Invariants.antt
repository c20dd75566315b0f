use Rattle.std.proofs.Common.{◌+◌, ◌*◌}
use Rattle.tmpl_report.proofs.commands.CommandSearch.+commands.Given as goal

abbrev pub decreases-commands : goal.decreases-commands
decreases-commands l = 2 * l.levels

abbrev pub decreases-operands : goal.decreases-operands
decreases-operands l = 2 * l.levels + 1
