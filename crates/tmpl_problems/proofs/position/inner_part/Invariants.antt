use Rattle.std.proofs.Common.{IfSome}
use Rattle.tmpl_problems.specs.Position.{IsNamed, IsStart}
use Rattle.tmpl_problems.proofs.position.inner_part.Given as goal

abbrev pub invariant-loop-index : goal.invariant-loop-index
invariant-loop-index l = record {
  at : IsStart l.bytes l.at;
  found : IfSome l.found (λ part. IsStart l.bytes part.start × IsNamed l.bytes part.start l.name);
}
