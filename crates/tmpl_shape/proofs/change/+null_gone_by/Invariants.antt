use Rattle.tmpl_shape.proofs.change.+null_gone_by.Given as goal

abbrev pub decreases-null_gone_by : goal.decreases-null_gone_by
decreases-null_gone_by l = l.steps
