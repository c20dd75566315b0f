-- For `failing_in` and what it calls: whether there is an argument.
use Rattle.std.proofs.Common.{arith, ◌≡◌, ◌≤◌, Bool, true, List, [], ◌∷◌, length, refl}
use Rattle.tmpl_grammar.specs.View.{operands_in}
use Rattle.tmpl_grammar.specs.declared.tree.Operand as held
use Rattle.tmpl_problems.specs.Failing.{has_argument}

pub argued : (os : List held.Operand) (piped : Bool) → 1 ≤ length os → true ≡ has_argument (operands_in os) piped
argued [] piped h = absurd (omega arith)
argued (o ∷ os) piped h = refl
