use Rattle.std.proofs.Common.{◌≤◌}
use Rattle.tmpl_shape.specs.View.{shape_of}
use Rattle.tmpl_shape.proofs.StepLemmas.{spine}
use Rattle.tmpl_shape.proofs.ViewLemmas.{amount}
use Rattle.tmpl_shape.proofs.intersection.+count_alternatives.Given as goal

abbrev pub decreases-count_alternatives : goal.decreases-count_alternatives
decreases-count_alternatives l = amount (shape_of l.shape.now)

abbrev pub invariant-loop-rest : goal.invariant-loop-rest
invariant-loop-rest l = amount (shape_of l.rest) ≤ amount (shape_of l.shape)

abbrev pub decreases-loop-rest : goal.decreases-loop-rest
decreases-loop-rest l = spine (shape_of l.rest)
