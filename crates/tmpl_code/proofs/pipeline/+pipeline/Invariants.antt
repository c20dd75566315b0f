use Rattle.std.proofs.Common.{◌≡◌, ◌≤◌, ◌+◌, ◌*◌, true, drop, length}
use Rattle.tmpl_grammar.specs.View.{commands_in, operand_of, operands_in}
use Rattle.tmpl_code.specs.computed.Held.{Ends, code_of, layout_of}
use Rattle.tmpl_code.specs.Code.{is_last, CommandsAt, JunctionAt, OperandsAt}
use Rattle.tmpl_grammar.proofs.WeightLemmas.{all_weight, weight, weights}
use Rattle.tmpl_code.proofs.pipeline.+pipeline.Given as goal

abbrev pub decreases-put_commands : goal.decreases-put_commands
decreases-put_commands l = 8 * all_weight (commands_in l.commands.now) + 5

abbrev pub decreases-put_piped : goal.decreases-put_piped
decreases-put_piped l = 8 * all_weight (commands_in l.commands.now) + 4

abbrev pub decreases-put_command : goal.decreases-put_command
decreases-put_command l = 8 * weights (operands_in l.operands.now) + 4

abbrev pub decreases-put_call : goal.decreases-put_call
decreases-put_call l = 8 * weights (operands_in l.operands.now) + 3

abbrev pub decreases-put_operands : goal.decreases-put_operands
decreases-put_operands l = 8 * weights (operands_in l.operands.now) + 1

abbrev pub decreases-put_junction : goal.decreases-put_junction
decreases-put_junction l = 8 * weights (operands_in l.operands.now) + 1

abbrev pub decreases-put_alone : goal.decreases-put_alone
decreases-put_alone l = 8 * weight (operand_of l.operand.now) + 1

abbrev pub decreases-put_operand : goal.decreases-put_operand
decreases-put_operand l = 8 * weight (operand_of l.operand.now)

abbrev pub decreases-put_piped-loop-i : goal.decreases-put_piped-loop-i
decreases-put_piped-loop-i l = l.i

abbrev pub decreases-put_operands-loop-i : goal.decreases-put_operands-loop-i
decreases-put_operands-loop-i l = l.i

abbrev pub decreases-put_junction-loop-i : goal.decreases-put_junction-loop-i
decreases-put_junction-loop-i l = l.i

abbrev pub invariant-put_piped-loop-i : goal.invariant-put_piped-loop-i
invariant-put_piped-loop-i l = record {
  within : l.i ≤ length l.commands;
  put : CommandsAt (commands_in (drop l.i l.commands)) true l.above (layout_of l.scope) (code_of l.code) (code_of l.initial.code);
  ends : Ends (code_of l.initial.code) (code_of l.code);
}

abbrev pub invariant-put_operands-loop-i : goal.invariant-put_operands-loop-i
invariant-put_operands-loop-i l = record {
  within : l.i ≤ length l.operands;
  put : OperandsAt (operands_in (drop l.i l.operands)) (l.above + l.i) (layout_of l.scope) (code_of l.code) (code_of l.initial.code);
  ends : Ends (code_of l.initial.code) (code_of l.code);
}

abbrev pub invariant-put_junction-loop-i : goal.invariant-put_junction-loop-i
invariant-put_junction-loop-i l = record {
  within : l.i ≤ length l.operands;
  last : l.last ≡ is_last (operands_in (drop l.i l.operands)) l.piped;
  end : l.end ≡ length (code_of l.initial.code);
  put : JunctionAt l.is_or (operands_in (drop l.i l.operands)) l.piped l.above (layout_of l.scope) (code_of l.code) (code_of l.initial.code);
  ends : Ends (code_of l.initial.code) (code_of l.code);
}
