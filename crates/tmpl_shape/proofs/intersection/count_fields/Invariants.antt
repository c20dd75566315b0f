use Rattle.tmpl_shape.specs.View.{fields_of}
use Rattle.tmpl_shape.proofs.ViewLemmas.{count}
use Rattle.tmpl_shape.proofs.intersection.count_fields.Given as goal

abbrev pub decreases-loop-rest : goal.decreases-loop-rest
decreases-loop-rest l = count (fields_of l.rest)
