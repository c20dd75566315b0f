use Rattle.std.proofs.Common.{◌≡◌, ◌≤◌}
use Rattle.tmpl_shape.specs.View.{shape_of}
use Rattle.tmpl_shape.specs.computed.Shapes.{has_name}
use Rattle.tmpl_shape.proofs.StepLemmas.{branches}
use Rattle.tmpl_shape.proofs.inclusion.+has_name.Given as goal

abbrev pub decreases-has_name : goal.decreases-has_name
decreases-has_name l = branches (shape_of l.shape.now)

abbrev pub invariant-loop-rest : goal.invariant-loop-rest
invariant-loop-rest l =
    (has_name l.name (shape_of l.shape) ≡ has_name l.name (shape_of l.rest)) × (branches (shape_of l.rest) ≤ branches (shape_of l.shape))

abbrev pub decreases-loop-rest : goal.decreases-loop-rest
decreases-loop-rest l = branches (shape_of l.rest)
