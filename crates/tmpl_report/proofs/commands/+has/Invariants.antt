use Rattle.tmpl_report.proofs.commands.+has.Given as goal

abbrev pub decreases-has : goal.decreases-has
decreases-has l = l.levels
