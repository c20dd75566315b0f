use Rattle.tmpl_shape.proofs.field.+index_shape_by.Given as goal

abbrev pub decreases-index_shape_by : goal.decreases-index_shape_by
decreases-index_shape_by l = l.steps
