use Rattle.std.proofs.Common.{◌≡◌}
use Rattle.tmpl_shape.specs.View.{fields_of}
use Rattle.tmpl_shape.specs.computed.Meet.{with_unlisted}
use Rattle.tmpl_shape.specs.computed.Shapes.{onto}
use Rattle.tmpl_shape.proofs.ViewLemmas.{count}
use Rattle.tmpl_shape.proofs.intersection.with_unlisted.Given as goal

abbrev pub invariant-loop-left : goal.invariant-loop-left
invariant-loop-left l =
    with_unlisted (fields_of l.fields) (fields_of l.others) (fields_of l.rest) ≡ onto (fields_of l.back) (with_unlisted (fields_of l.fields) (fields_of l.left) (fields_of l.rest))

abbrev pub decreases-loop-left : goal.decreases-loop-left
decreases-loop-left l = count (fields_of l.left)
