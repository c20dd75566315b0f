use Rattle.std.proofs.Common.{◌≡◌, ◌&&◌, ◌||◌, drop}
use Rattle.tmpl_grammar.specs.computed.Integer.{begins_plain, underscores_part}
use Rattle.tmpl_grammar.proofs.constant.integer.underscores_part.Given as goal

abbrev pub invariant-loop-byte : goal.invariant-loop-byte
invariant-loop-byte l =
    let rest = drop l.byte-index l.bytes in
    underscores_part l.bytes ≡ ((l.plain || begins_plain rest) && underscores_part rest)
