use Rattle.std.proofs.Common.{◌≡◌, ◌++◌, take}
use Rattle.std.specs.List.{flat_map}
use Rattle.tmpl_funcs.specs.computed.Escape.{escaped_byte}
use Rattle.tmpl_funcs.proofs.escape.add_escape_of_all.Given as goal

abbrev pub invariant-loop-i : goal.invariant-loop-i
invariant-loop-i l = l.bytes.items ≡ l.initial.bytes.items ++ flat_map (escaped_byte l.escape) (take l.i l.initial.bytes.items)
