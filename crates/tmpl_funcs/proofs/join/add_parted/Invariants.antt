use Rattle.std.proofs.Common.{◌≡◌, ◌++◌, drop, map}
use Rattle.std.specs.List.{join_with_byte}
use Rattle.tmpl_values.specs.Text.{inner_text}
use Rattle.tmpl_funcs.specs.View.{values_of}
use Rattle.tmpl_funcs.proofs.JoinLemmas.{parted_by}
use Rattle.tmpl_funcs.proofs.join.add_parted.Given as goal

abbrev pub invariant-loop-operand : goal.invariant-loop-operand
invariant-loop-operand l =
    l.bytes.items ++ parted_by l.first (values_of (drop l.operand-index l.operands)) ≡
    l.initial.bytes.items ++ join_with_byte 32 (map inner_text (values_of l.operands))
