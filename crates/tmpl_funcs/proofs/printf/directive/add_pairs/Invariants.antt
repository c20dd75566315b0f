use Rattle.std.proofs.Common.{◌≡◌, ◌++◌, drop}
use Rattle.std.specs.List.{flat_map}
use Rattle.tmpl_funcs.specs.printf.Directive.{hex_pair}
use Rattle.tmpl_funcs.proofs.printf.directive.add_pairs.Given as goal

abbrev pub invariant-loop-byte : goal.invariant-loop-byte
invariant-loop-byte l =
    l.bytes.items ++ flat_map (hex_pair l.upper) (drop l.byte-index l.text) ≡ l.initial.bytes.items ++ flat_map (hex_pair l.upper) l.text
