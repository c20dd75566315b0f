use Rattle.std.proofs.Common.{◌≡◌}
use Rattle.tmpl_shape.specs.View.{fields_of}
use Rattle.tmpl_shape.specs.computed.Shapes.{shape_at}
use Rattle.tmpl_shape.proofs.ViewLemmas.{count}
use Rattle.tmpl_shape.proofs.inclusion.shape_at.Given as goal

abbrev pub invariant-loop-rest : goal.invariant-loop-rest
invariant-loop-rest l = shape_at l.name (fields_of l.fields) ≡ shape_at l.name (fields_of l.rest)

abbrev pub decreases-loop-rest : goal.decreases-loop-rest
decreases-loop-rest l = count (fields_of l.rest)
