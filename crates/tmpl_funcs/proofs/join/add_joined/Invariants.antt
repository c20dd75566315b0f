use Rattle.std.proofs.Common.{◌≡◌, ◌++◌, drop}
use Rattle.tmpl_funcs.specs.Join.{join_operands}
use Rattle.tmpl_funcs.proofs.JoinLemmas.{joined_by, operands_of}
use Rattle.tmpl_funcs.proofs.join.add_joined.Given as goal

abbrev pub invariant-loop-operand : goal.invariant-loop-operand
invariant-loop-operand l =
    l.bytes.items ++ joined_by l.after_text (operands_of l.nothing_text (drop l.operand-index l.operands)) ≡ l.initial.bytes.items ++ join_operands
    (operands_of l.nothing_text l.operands)
