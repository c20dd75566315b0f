use Rattle.std.proofs.Common.{◌≡◌, ◌+◌, drop}
use Rattle.std.specs.List.{prefix_len}
use Rattle.tmpl_funcs.specs.computed.Class.{in_class}
use Rattle.tmpl_funcs.proofs.printf.class.Class.front_len.Given as goal

abbrev pub invariant-loop-i : goal.invariant-loop-i
invariant-loop-i l =
    prefix_len (in_class l.self) l.bytes ≡ l.i + prefix_len (in_class l.self) (drop l.i l.bytes)
