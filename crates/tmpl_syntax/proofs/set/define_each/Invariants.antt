use Rattle.std.proofs.Common.{◌≡◌, ◌≤◌, length, map}
use Rattle.indexmap.specs.IndexMap.{hasher_of, spare}
use Rattle.tmpl_syntax.specs.View.{entries_view, template_of}
use Rattle.tmpl_syntax.specs.Set.{defined_each}
use Rattle.tmpl_syntax.proofs.set.define_each.Given as goal

-- what the rest adds to what is there is what all add to what was there, and there is room for the rest
abbrev pub invariant-loop-name : goal.invariant-loop-name
invariant-loop-name l =
    (defined_each (entries_view l.set.entries) (map template_of l.name-iterator.rest.items)
    ≡ defined_each (entries_view l.fn.set.entries) (map template_of l.fn.templates.items))
    × (length l.name-iterator.rest.items ≤ spare l.set)
    × (hasher_of l.set ≡ hasher_of l.fn.set)
