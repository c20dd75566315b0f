use Rattle.std.proofs.Common.{◌+◌, ◌*◌}
use Rattle.tmpl_report.proofs.commands.CommandSearch.+nodes.Given as goal

abbrev pub decreases-visit_all : goal.decreases-visit_all
decreases-visit_all l = 4 * l.levels

abbrev pub decreases-visit : goal.decreases-visit
decreases-visit l = 4 * l.levels + 3

abbrev pub decreases-visit_items : goal.decreases-visit_items
decreases-visit_items l = 4 * l.levels + 2

abbrev pub decreases-visit_parts : goal.decreases-visit_parts
decreases-visit_parts l = 4 * l.levels + 2
