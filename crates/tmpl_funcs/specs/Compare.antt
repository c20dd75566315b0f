-- The comparisons ("Functions", at `eq` to `ge`).
use Rattle.std.specs.Prelude.{Bool, true, false, List, [], ◌∷◌, Option, Some, option_map, option_and_then, Result}
use Rattle.std.specs.Prelude.{ok_or, if◌then◌else◌}
use Rattle.tmpl_values.specs.Value.{Value, boolean}
use Rattle.tmpl_values.specs.Compare.{equality, order}
use Rattle.tmpl_funcs.specs.declared.fault.CallFault.{CallFault}
use Rattle.tmpl_funcs.specs.declared.fault.CallFault.TheVariants.{NotComparable}

-- whether the first value equals one of the others, compared in order up to the first equal one
abbrev pub equal_to_one : Value → List Value → Option Bool
equal_to_one v [] = Some false
equal_to_one v (w ∷ ws) = option_and_then (λ equal. if equal then Some true else equal_to_one v ws) (equality v w)

-- below or equal, of which the second is asked only where the first does not hold
abbrev pub at_most : Value → Value → Option Bool
at_most v w = option_and_then (λ below. if below then Some true else equality v w) (order v w)

-- the answer of a comparison; values that can't be compared are a fault
abbrev pub comparison_answer : Option Bool → Result Value CallFault
comparison_answer answer = ok_or (option_map boolean answer) NotComparable
