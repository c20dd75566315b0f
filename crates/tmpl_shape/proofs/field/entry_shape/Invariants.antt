use Rattle.std.proofs.Common.{◌≡◌}
use Rattle.tmpl_shape.specs.View.{fields_of}
use Rattle.tmpl_shape.specs.computed.Shapes.{entry_shape}
use Rattle.tmpl_shape.specs.computed.View.{base_of}
use Rattle.tmpl_shape.proofs.ViewLemmas.{count}
use Rattle.tmpl_shape.proofs.field.entry_shape.Given as goal

abbrev pub invariant-loop-rest : goal.invariant-loop-rest
invariant-loop-rest l = entry_shape (base_of l.base) l.absent l.name (fields_of l.fields) ≡ entry_shape (base_of l.base) l.absent l.name (fields_of l.rest)

abbrev pub decreases-loop-rest : goal.decreases-loop-rest
decreases-loop-rest l = count (fields_of l.rest)
