use Rattle.tmpl_shape.proofs.field.+field_shape_by.Given as goal

abbrev pub decreases-field_shape_by : goal.decreases-field_shape_by
decreases-field_shape_by l = l.steps
