use Rattle.std.proofs.Common.{◌≡◌}
use Rattle.tmpl_shape.specs.View.{fields_of}
use Rattle.tmpl_shape.specs.computed.Shapes.{onto}
use Rattle.tmpl_shape.proofs.ViewLemmas.{count}
use Rattle.tmpl_shape.proofs.shape.fields_of_all.Given as goal

abbrev pub invariant-loop-first : goal.invariant-loop-first
invariant-loop-first l = onto (fields_of l.fn.back) (fields_of l.fn.last) ≡ onto (fields_of l.back) (fields_of l.all)

abbrev pub decreases-loop-first : goal.decreases-loop-first
decreases-loop-first l = count (fields_of l.back)
