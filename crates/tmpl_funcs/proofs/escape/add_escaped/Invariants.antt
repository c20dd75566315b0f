use Rattle.std.proofs.Common.{◌≡◌, ◌++◌, ◌≤◌, drop, slice_range}
use Rattle.std.specs.List.{flat_map}
use Rattle.tmpl_funcs.specs.computed.Escape.{escaped_byte}
use Rattle.tmpl_funcs.proofs.escape.add_escaped.Given as goal

abbrev pub invariant-loop-i : goal.invariant-loop-i
invariant-loop-i l = record {
  within : l.start ≤ l.i;
  so_far : l.bytes.items ++ (slice_range l.text l.start l.i ++ flat_map (escaped_byte l.escape) (drop l.i l.text)) ≡ l.initial.bytes.items ++ flat_map
      (escaped_byte l.escape) l.text;
}
