use Rattle.tmpl_shape.proofs.visit.+visit_by.Given as goal

abbrev pub decreases-visit_by : goal.decreases-visit_by
decreases-visit_by l = l.steps
