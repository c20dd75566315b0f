use Rattle.std.proofs.Common.{rules, false, ◌≡◌, ◌∙◌, ◌+◌, ◌-◌, drop, length, ap, sym, subst, arith}
use Rattle.std.proofs.lemmas.Grind.{common_steps}
use borrow.Author.Rules.{get_or_read}
use Rattle.tmpl_grammar.specs.declared.tree.Operand.TheFolds.{the_lemmas}
use Rattle.tmpl_grammar.specs.View.{commands_in, operand_of, operands_in}
use Rattle.tmpl_code.specs.computed.Held.{Placed, code_of, after_decision, layout_of}
use Rattle.tmpl_code.specs.Code.{Code, is_last, CommandAt, CommandsAt, JunctionAt, OperandAt}
use Rattle.tmpl_code.proofs.BackwardLemmas.{junction_more, operands_from}
use Rattle.tmpl_code.proofs.TailLemmas.{ends_both}
use Rattle.std.proofs.lemmas.Result.{on_ok_weaker}
use Rattle.tmpl_code.proofs.pipeline.+pipeline.Goals as goal

pub put_junction-loop-i-preserved : goal.put_junction-loop-i-preserved
put_junction-loop-i-preserved t c =
    let a = c.args in
    let l = c.loop-i in
    let os = a.operands.now in
    let lay = layout_of a.scope.now in
    let old = code_of a.code.now in
    let next : l.i ≡ l.i - 1 + 1 = omega arith in
    let others = subst (λ n. JunctionAt a.is_or (operands_in (drop n os)) a.piped a.above lay (code_of l.code) old) next l.invariant.put in
    let last = l.invariant.last ∙ ap (λ n. is_last (operands_in (drop n os)) a.piped) next in
    let mid : Code = code_of c.put_decide.new.code in
    let put : mid ≡ after_decision l.last a.is_or a.piped (length old) (code_of l.code) =
    c.in_ok-put_decide.ensures.code ∙ ap (λ n. after_decision l.last a.is_or a.piped n (code_of l.code)) l.invariant.end in
    record {
      within = omega arith;
      last = sym (ap (λ x. is_last x a.piped) (operands_from os (l.i - 1) c.index-operands-i.result (omega arith) c.index-operands-i.is));
      end = l.invariant.end;
      put = junction_more lay a.above a.is_or a.piped os (l.i - 1) c.index-operands-i.result l.last (code_of c.put_operand.new.code) mid (code_of l.code) old
          (omega arith) c.index-operands-i.is last put c.in_ok-put_operand.ensures.code others l.invariant.ends;
      ends = ends_both c.in_ok-put_operand.ensures.ends (ends_both c.in_ok-put_decide.ensures.ends l.invariant.ends);
    }

pub put_piped-loop-i-preserved : goal.put_piped-loop-i-preserved
put_piped-loop-i-preserved t c = record {
  within = omega arith;
  put = grind (arith, common_steps);
  ends = ends_both c.in_ok-put_command.ensures.ends (ends_both c.in_ok-push.ensures.ends c.loop-i.invariant.ends);
}

pub put_operands-loop-i-preserved : goal.put_operands-loop-i-preserved
put_operands-loop-i-preserved t c = record {
  within = omega arith;
  put = grind (arith, common_steps);
  ends = ends_both c.in_ok-put_operand.ensures.ends c.loop-i.invariant.ends;
}

pub put_commands-returns-in_ok-push-in-len1-up : goal.put_commands-returns-in_ok-push-in-len1-up
put_commands-returns-in_ok-push-in-len1-up t c =
    let a = c.args in
    let others = ends_both c.in_ok-push-in-len1-up.ensures.ends c.in_ok-put_piped-in-len1-up.ensures.ends in
    on_ok_weaker {Q = Placed (CommandsAt (commands_in a.commands.now) false a.above (layout_of a.scope.now)) a.code.now c.put_command.new.code} _
    (λ put. record { code = grind (arith, common_steps); ends = ends_both put.ends others }) c.put_command.ensures

pub put_command-returns-in-Function : goal.put_command-returns-in-Function
put_command-returns-in-Function t c =
    let a = c.args in
    on_ok_weaker {Q = Placed (CommandAt (operands_in a.operands.now) a.piped a.above (layout_of a.scope.now)) a.code.now c.put_call.new.code} _
    (λ put. record { code = grind (arith, common_steps, get_or_read, the_lemmas); ends = put.ends }) c.put_call.ensures

pub put_operand-returns-in_ok-put_chain-in-Variable : goal.put_operand-returns-in_ok-put_chain-in-Variable
put_operand-returns-in_ok-put_chain-in-Variable t c =
    let a = c.args in
    on_ok_weaker {Q = Placed (OperandAt (operand_of a.operand.now) a.above (layout_of a.scope.now)) a.code.now c.put_variable.new.code} _
    (λ put. record { code = search (rules, the_lemmas); ends = ends_both put.ends c.in_ok-put_chain-in-Variable.ensures.ends }) c.put_variable.ensures
