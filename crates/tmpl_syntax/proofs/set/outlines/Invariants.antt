use Rattle.std.proofs.Common.{◌≡◌, map, take}
use Rattle.tmpl_syntax.specs.View.{set_view, template_of}
use Rattle.tmpl_syntax.specs.Set.{without_nodes}
use Rattle.tmpl_syntax.proofs.set.outlines.Given as goal

abbrev pub invariant-loop-number : goal.invariant-loop-number
invariant-loop-number l = map template_of l.outlines.items ≡ map without_nodes (take l.number (set_view l.set))
