use Rattle.std.proofs.Common.{◌≡◌, take}
use Rattle.tmpl_problems.specs.computed.Adds.{note_each}
use Rattle.tmpl_problems.proofs.survey.declare.Given as goal

abbrev pub invariant-loop-index : goal.invariant-loop-index
invariant-loop-index l = l.variables.entries ≡ note_each l.here l.count (take l.index l.name-items) l.initial.variables.entries
