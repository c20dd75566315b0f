use Rattle.tmpl_report.proofs.commands.CommandSearch.+value.Given as goal

abbrev pub decreases-value : goal.decreases-value
decreases-value l = l.levels
