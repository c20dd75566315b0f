use Rattle.std.proofs.Common.{◌≡◌, ◌++◌, drop, length, take}
use Rattle.tmpl_grammar.specs.Print.{bytes_of, command_tokens, pipeline_tokens}
use Rattle.tmpl_grammar.specs.View.{commands_in, operands_in}
use Rattle.tmpl_grammar.specs.computed.Print.{commands_by, operands_by}
use Rattle.tmpl_grammar.proofs.print.+print.Given as goal

abbrev pub invariant-print_commands-loop-command : goal.invariant-print_commands-loop-command
invariant-print_commands-loop-command l =
    record {
      printed : l.bytes.items ++ bytes_of (commands_by l.first (commands_in (drop l.command-index l.commands)))
          ≡ l.initial.bytes.items ++ bytes_of (pipeline_tokens (commands_in l.commands));
      kept : take (length l.initial.bytes.items) l.bytes.items ≡ l.initial.bytes.items;
    }

abbrev pub invariant-print_operands-loop-operand : goal.invariant-print_operands-loop-operand
invariant-print_operands-loop-operand l =
    record {
      printed : l.bytes.items ++ bytes_of (operands_by l.first (operands_in (drop l.operand-index l.operands)))
          ≡ l.initial.bytes.items ++ bytes_of (command_tokens (operands_in l.operands));
      kept : take (length l.initial.bytes.items) l.bytes.items ≡ l.initial.bytes.items;
    }
