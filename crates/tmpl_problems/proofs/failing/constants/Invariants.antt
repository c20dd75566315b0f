use Rattle.std.proofs.Common.{◌≡◌, ◌++◌, drop, option_map}
use Rattle.tmpl_funcs.specs.View.{values_of}
use Rattle.tmpl_grammar.specs.View.{operands_in}
use Rattle.tmpl_problems.specs.Failing.{constant_values}
use Rattle.tmpl_problems.proofs.failing.constants.Given as goal

abbrev pub invariant-loop-operand : goal.invariant-loop-operand
invariant-loop-operand l = option_map (λ more. values_of l.cells.items ++ more) (constant_values (operands_in (drop l.operand-index l.operands)))
    ≡ constant_values (operands_in l.operands)
