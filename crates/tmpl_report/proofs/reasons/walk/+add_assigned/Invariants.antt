use Rattle.tmpl_report.proofs.reasons.walk.+add_assigned.Given as goal

abbrev pub decreases-add_assigned : goal.decreases-add_assigned
decreases-add_assigned l = l.levels
