use Rattle.std.proofs.Common.{take}
use Rattle.tmpl_hints.specs.Sentence.{Adds, byte_shown}
use Rattle.std.specs.List.{flat_map}
use Rattle.tmpl_hints.proofs.sentence.Sentence.show_ascii.Given as goal

abbrev pub invariant-loop-byte : goal.invariant-loop-byte
invariant-loop-byte l = Adds l.initial.said l.said (flat_map byte_shown (take l.byte-index l.bytes))
