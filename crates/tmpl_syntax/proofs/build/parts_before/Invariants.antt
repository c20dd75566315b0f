use Rattle.std.proofs.Common.{◌≡◌, ◌++◌, map, length}
use Rattle.tmpl_syntax.specs.computed.Begun.{open_starts, starts_in}
use Rattle.tmpl_syntax.specs.computed.View.{item_of, parts_of}
use Rattle.tmpl_syntax.specs.computed.Build.{parts_before, no_parts}
use Rattle.tmpl_syntax.proofs.build.parts_before.Given as goal

abbrev pub invariant-loop-item : goal.invariant-loop-item
invariant-loop-item l = record {
  parts : parts_before (map item_of l.items.items) (parts_of l.parts) ≡ parts_before (map item_of l.fn.items.items) no_parts;
  starts : starts_in l.items.items ++ open_starts l.parts ≡ starts_in l.fn.items.items;
}

abbrev pub decreases-loop-item : goal.decreases-loop-item
decreases-loop-item l = length l.items.items
