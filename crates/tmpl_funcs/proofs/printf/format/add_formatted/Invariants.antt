use Rattle.std.proofs.Common.{◌≡◌, ◌≤◌, ◌++◌, ℕ, List, length, drop, Some}
use Rattle.tmpl_funcs.specs.View.{values_of}
use Rattle.tmpl_funcs.specs.printf.Format.{formatted}
use Rattle.tmpl_funcs.specs.computed.Format.{both}
use Rattle.tmpl_funcs.proofs.printf.format.add_formatted.Given as goal

abbrev pub invariant-loop-rest : goal.invariant-loop-rest
invariant-loop-rest l =
    (put : List ℕ) × (l.bytes.items ≡ l.initial.bytes.items ++ put) ×
    (formatted l.format (values_of l.operands) ≡ both (Some put) (formatted l.rest (drop l.used (values_of l.operands)))) × (l.used ≤ length l.operands)

abbrev pub decreases-loop-rest : goal.decreases-loop-rest
decreases-loop-rest l = length l.rest
