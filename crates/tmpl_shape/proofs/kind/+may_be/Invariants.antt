use Rattle.tmpl_shape.proofs.kind.+may_be.Given as goal

abbrev pub decreases-may_be : goal.decreases-may_be
decreases-may_be l = l.steps
