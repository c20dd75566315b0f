use Rattle.std.proofs.Common.{◌≡◌, length}
use Rattle.tmpl_formats.specs.computed.YamlNest.{unwound}
use Rattle.tmpl_formats.specs.computed.YamlNestView.{nest_of}
use Rattle.tmpl_formats.proofs.yaml_nest.unwind.Given as goal

abbrev pub invariant-loop-nest : goal.invariant-loop-nest
invariant-loop-nest l = unwound l.column l.is_item (nest_of l.nest) ≡ unwound l.column l.is_item (nest_of l.fn.nest)

abbrev pub decreases-loop-nest : goal.decreases-loop-nest
decreases-loop-nest l = length l.nest.levels.items
