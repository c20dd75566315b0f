use Rattle.std.proofs.Common.{◌≡◌, drop}
use Rattle.tmpl_syntax.specs.computed.View.{known_names}
use Rattle.tmpl_syntax.specs.Place.Role.{used_by, used_by_operands}
use Rattle.tmpl_syntax.specs.computed.Frames.{knows}
use Rattle.tmpl_grammar.specs.View.{commands_in, operands_in}
use Rattle.tmpl_syntax.proofs.place.uses.+knows.Given as goal

abbrev pub invariant-knows_commands-loop-command : goal.invariant-knows_commands-loop-command
invariant-knows_commands-loop-command l =
    let names = known_names l.names in
    knows names (used_by (commands_in l.commands)) ≡ knows names (used_by (commands_in (drop l.command-index l.commands)))

abbrev pub invariant-knows_operands-loop-operand : goal.invariant-knows_operands-loop-operand
invariant-knows_operands-loop-operand l =
    let names = known_names l.names in
    knows names (used_by_operands (operands_in l.operands)) ≡ knows names (used_by_operands (operands_in (drop l.operand-index l.operands)))
