use Rattle.std.proofs.Common.{map}
use Rattle.std.specs.String.{string_bytes}
use Rattle.tmpl_problems.specs.Position.{Begins, IsStart}
use Rattle.tmpl_problems.proofs.position.start_of.Given as goal

abbrev pub invariant-loop-index : goal.invariant-loop-index
invariant-loop-index l = record {
  start : IsStart l.bytes l.part.start;
  begins : Begins l.bytes (map (λ name. string_bytes name) l.path) l.part.start;
}
