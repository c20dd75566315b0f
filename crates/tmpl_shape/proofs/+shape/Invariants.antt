use Rattle.std.proofs.Common.{◌≤◌}
use Rattle.tmpl_shape.specs.declared.shape.Fields.{size-Fields}
use Rattle.tmpl_shape.proofs.+shape.Given as goal

abbrev pub decreases-shape::Fields::drop : goal.decreases-shape::Fields::drop
decreases-shape::Fields::drop l = goal.size-shape::Fields::drop l

abbrev pub invariant-shape::Fields::drop-loop-self : goal.invariant-shape::Fields::drop-loop-self
invariant-shape::Fields::drop-loop-self l = size-Fields l.self ≤ size-Fields l.initial.self
