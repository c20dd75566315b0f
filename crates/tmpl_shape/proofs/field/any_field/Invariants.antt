use Rattle.std.proofs.Common.{◌≡◌}
use Rattle.tmpl_shape.specs.View.{fields_of, shape_of}
use Rattle.tmpl_shape.specs.computed.Shapes.{any_field, gathered, join}
use Rattle.tmpl_shape.specs.computed.View.{base_of}
use Rattle.tmpl_shape.proofs.ViewLemmas.{count}
use Rattle.tmpl_shape.proofs.field.any_field.Given as goal

abbrev pub invariant-loop-rest : goal.invariant-loop-rest
invariant-loop-rest l =
    any_field (base_of l.base) (fields_of l.fields) ≡ gathered (join (base_of l.base)) (shape_of l.back) (any_field (base_of l.base) (fields_of l.rest))

abbrev pub decreases-loop-rest : goal.decreases-loop-rest
decreases-loop-rest l = count (fields_of l.rest)
