use Rattle.std.proofs.Common.{◌≡◌, drop}
use Rattle.tmpl_shape.specs.View.{defs_in}
use Rattle.tmpl_shape.proofs.inclusion.find.Given as goal

abbrev pub invariant-loop-definition : goal.invariant-loop-definition
invariant-loop-definition l = defs_in l.definitions l.name ≡ defs_in (drop l.definition-index l.definitions) l.name
