use Rattle.std.proofs.Common.{◌≡◌, ◌∙◌, ◌+◌, ◌-◌, ◌||◌, suc, drop, ap, sym, arith}
use Rattle.tmpl_grammar.specs.View.{operands_in}
use Rattle.tmpl_code.specs.MakesText.{operands_make_text}
use Rattle.tmpl_code.proofs.BackwardLemmas.{operands_from}
use Rattle.tmpl_code.proofs.cost.+pipes.Goals as goal

pub cost_of_arguments-loop-i-preserved : goal.cost_of_arguments-loop-i-preserved
cost_of_arguments-loop-i-preserved t c =
    let l = c.loop-i in
    let os = c.args.operands.now in
    let held = c.args.held in
    let here = operands_from os (l.i - 1) c.index-operands-i.result (omega arith) c.index-operands-i.is in
    let next : l.i ≡ l.i - 1 + 1 = omega arith in
    let more : suc (held + (l.i - 1)) ≡ held + l.i = omega arith in
    let below : l.below - 1 ≡ held + (l.i - 1) = omega arith in
    let alone = c.in_ok-cost_of_operand.ensures in
    let above = c.in_ok-above.ensures in
    let both = c.with-cost.ensures in
    let rest = l.invariant.cost.text ∙ ap (λ n. operands_make_text (operands_in (drop n os))) next in
    record {
      within = omega arith;
      below = below;
      cost = record {
        need = rw here (cc (next, more, below, alone.need, above.need, both.need, l.invariant.cost.need));
        text = both.text ∙ (λ k. (above.text ∙ alone.text) k || rest k) ∙ sym (ap operands_make_text here);
        calls = both.calls ∙ (λ k. (above.calls ∙ alone.calls) k || l.invariant.cost.calls k);
      };
    }
