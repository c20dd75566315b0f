use Rattle.std.proofs.Common.{inr, subst, arith}
use Rattle.std.specs.String.{string_bytes}
use Rattle.tmpl_problems.specs.Position.{IsNamed}
use Rattle.tmpl_problems.proofs.PositionLemmas.{contains_mapped}
use Rattle.tmpl_problems.proofs.position.start_of.Goals as goal

pub loop-index-preserved : goal.loop-index-preserved
loop-index-preserved c =
    let name = c.index-path-index.result in
    let named = subst (IsNamed c.args.bytes.now c.in-Some.inner.start) c.as_str.ensures.value c.in-Some.ensures.1 in record {
      start = c.in-Some.ensures.0;
      begins = inr (
        string_bytes name,
        contains_mapped (λ name. string_bytes name) c.args.path.now _ name (grind (arith, c.loop-index.auto.index, c.loop-index-test.true)) c.index-path-index.is,
        named,
      );
    }
