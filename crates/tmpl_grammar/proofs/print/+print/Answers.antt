use Rattle.std.proofs.Common.{◌∙◌, ◌++◌, ap, sym}
use Rattle.tmpl_grammar.specs.Print.{bytes_of, command_tokens}
use Rattle.tmpl_grammar.specs.View.{operands_in}
use Rattle.tmpl_grammar.proofs.PrintLemmas.{begins_added, begins_on, commands_at, on_err, operands_at, printed_next}
use Rattle.tmpl_grammar.proofs.print.+print.Goals as goal

pub print_commands-returns-in_err-print_unless-clause-kept : goal.print_commands-returns-in_err-print_unless-clause-kept
print_commands-returns-in_err-print_unless-clause-kept t c = on_err _ (begins_on _ _ _ c.loop-command.invariant.kept c.in_err-print_unless.ensures.kept)

pub print_commands-returns-in_err-print_operands-clause-kept : goal.print_commands-returns-in_err-print_operands-clause-kept
print_commands-returns-in_err-print_operands-clause-kept t c =
    on_err _ (begins_on _ _ _ (begins_on _ _ _ c.loop-command.invariant.kept (begins_added _ _ _ c.in_ok-print_unless.ensures.printed))
    c.in_err-print_operands.ensures.kept)

pub print_commands-loop-command-preserved : goal.print_commands-loop-command-preserved
print_commands-loop-command-preserved t c =
    let l = c.loop-command in record {
      printed = printed_next _ _ _ _ _ _ _ c.in_ok-print_unless.ensures.printed
          (c.in_ok-print_operands.ensures.printed
          ∙ ap (λ os. c.print_unless.new.bytes.items ++ bytes_of (command_tokens (operands_in os))) c.as_slice.ensures.value)
          (ap (λ bytes. l.bytes.items ++ bytes)
          (sym (commands_at l.first c.args.commands.now l.command-index c.command-item.result c.loop-command-test.true c.command-item.is))
          ∙ l.invariant.printed);
      kept = begins_on _ _ _ (begins_on _ _ _ l.invariant.kept (begins_added _ _ _ c.in_ok-print_unless.ensures.printed))
          (begins_added _ _ _ c.in_ok-print_operands.ensures.printed);
    }

pub print_operands-returns-in_err-print_unless-clause-kept : goal.print_operands-returns-in_err-print_unless-clause-kept
print_operands-returns-in_err-print_unless-clause-kept t c = on_err _ (begins_on _ _ _ c.loop-operand.invariant.kept c.in_err-print_unless.ensures.kept)

pub print_operands-returns-in_err-print_operand-clause-kept : goal.print_operands-returns-in_err-print_operand-clause-kept
print_operands-returns-in_err-print_operand-clause-kept t c =
    on_err _ (begins_on _ _ _ (begins_on _ _ _ c.loop-operand.invariant.kept (begins_added _ _ _ c.in_ok-print_unless.ensures.printed))
    c.in_err-print_operand.ensures.kept)

pub print_operands-loop-operand-preserved : goal.print_operands-loop-operand-preserved
print_operands-loop-operand-preserved t c =
    let l = c.loop-operand in record {
      printed = printed_next _ _ _ _ _ _ _ c.in_ok-print_unless.ensures.printed c.in_ok-print_operand.ensures.printed
          (ap (λ bytes. l.bytes.items ++ bytes)
          (sym (operands_at l.first c.args.operands.now l.operand-index c.operand-item.result c.loop-operand-test.true c.operand-item.is))
          ∙ l.invariant.printed);
      kept = begins_on _ _ _ (begins_on _ _ _ l.invariant.kept (begins_added _ _ _ c.in_ok-print_unless.ensures.printed))
          (begins_added _ _ _ c.in_ok-print_operand.ensures.printed);
    }
