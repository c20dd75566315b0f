use Rattle.std.proofs.Common.{◌++◌, ℕ, List, length-drop, drop, Ok, Err, subst, arith}
use Rattle.tmpl_values.specs.Value.{Value}
use Rattle.tmpl_funcs.specs.View.{values_of}
use Rattle.tmpl_funcs.specs.printf.Format.{formatted}
use Rattle.tmpl_funcs.specs.computed.Format.{IsAdded, IsSegmentAdded}
use Rattle.tmpl_funcs.proofs.AddedLemmas.{IsErrAnd-along, IsAdded-refused, formatted-segment, formatted-end}
use Rattle.tmpl_funcs.proofs.AddedLemmas.{values_of-after, length-values_of}
use Rattle.tmpl_funcs.proofs.printf.format.add_formatted.Goals as goal

pub returns-in_err-after : goal.returns-in_err-after
returns-in_err-after c =
    let l = c.loop-rest in
    let cells = c.args.operands.now in
    let vs : List Value = values_of cells in
    let new : List ℕ = c.add_segment.new.bytes.items in
    IsErrAnd-along (IsAdded (formatted c.args.format.now vs) c.args.bytes.now.items new) c.from_residual.result _ c.from_residual.ensures.1
    (IsAdded-refused l.rest.now c.args.format.now (drop l.used vs) vs l.invariant.0 c.args.bytes.now.items l.bytes.items new _ l.invariant.2
    (subst (λ (ws : List Value). IsSegmentAdded l.rest.now ws l.bytes.items new (Err c.in_err-after.field-0.0))
    (values_of-after l.used cells) c.in_err-after.ensures))

pub loop-rest-preserved : goal.loop-rest-preserved
loop-rest-preserved c =
    let l = c.loop-rest in
    let cells = c.args.operands.now in
    let vs : List Value = values_of cells in
    let after = c.in_ok-after in
    let new : List ℕ = c.add_segment.new.bytes.items in
    let segment : IsSegmentAdded l.rest.now (drop l.used vs) l.bytes.items new (Ok (after.after, after.taken)) =
    subst (λ (ws : List Value). IsSegmentAdded l.rest.now ws l.bytes.items new (Ok (after.after, after.taken)))
    (values_of-after l.used cells) after.ensures in
    let more = formatted-segment c.args.format.now l.rest.now after.after.now cells l.used after.taken l.invariant.0 segment.0
    c.args.bytes.now.items l.bytes.items new l.invariant.1 l.invariant.2 segment.1 segment.2 in (
      l.invariant.0 ++ segment.0,
      more.0,
      more.1,
      omega (arith, segment.3, length-drop l.used vs, length-values_of cells),
    )

pub returns-then-used-operands : goal.returns-then-used-operands
returns-then-used-operands c =
    let l = c.loop-rest in
    (formatted-end c.args.format.now l.rest.now c.args.operands.now l.used l.invariant.0 c.args.bytes.now.items l.bytes.items l.invariant.1 l.invariant.2
    (omega arith) l.invariant.3).0 (omega arith)

pub returns-else-used-operands : goal.returns-else-used-operands
returns-else-used-operands c =
    let l = c.loop-rest in
    (formatted-end c.args.format.now l.rest.now c.args.operands.now l.used l.invariant.0 c.args.bytes.now.items l.bytes.items l.invariant.1 l.invariant.2
    (omega arith) l.invariant.3).1 (omega arith)
