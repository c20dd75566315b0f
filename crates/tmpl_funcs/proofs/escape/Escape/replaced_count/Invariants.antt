use Rattle.std.proofs.Common.{◌≤◌}
use Rattle.tmpl_funcs.proofs.escape.Escape.replaced_count.Given as goal

abbrev pub invariant-loop-byte : goal.invariant-loop-byte
invariant-loop-byte l = l.count ≤ l.byte-index
