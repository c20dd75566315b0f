use Rattle.tmpl_shape.proofs.part.+part_shape_by.Given as goal

abbrev pub decreases-part_shape_by : goal.decreases-part_shape_by
decreases-part_shape_by l = l.steps
