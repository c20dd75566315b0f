use Rattle.std.proofs.Common.{◌≡◌}
use Rattle.tmpl_shape.specs.View.{fields_of}
use Rattle.tmpl_shape.specs.computed.Shapes.{requires_all}
use Rattle.tmpl_shape.proofs.ViewLemmas.{count}
use Rattle.tmpl_shape.proofs.inclusion.requires_all.Given as goal

abbrev pub invariant-loop-rest : goal.invariant-loop-rest
invariant-loop-rest l = requires_all (fields_of l.fields) (fields_of l.others) ≡ requires_all (fields_of l.fields) (fields_of l.rest)

abbrev pub decreases-loop-rest : goal.decreases-loop-rest
decreases-loop-rest l = count (fields_of l.rest)
