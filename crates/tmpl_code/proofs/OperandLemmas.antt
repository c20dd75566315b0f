-- For `put_operand`, `cost_of_operand` and what they call: how many operands there are.
use Rattle.std.proofs.Common.{arith, ◌≡◌, ◌≤◌, ℕ, Bool, true, false, not, List, [], ◌∷◌, length, refl}
use Rattle.tmpl_grammar.specs.Need.{need_of_arguments}
use Rattle.tmpl_grammar.specs.Tree.{Operand, no_operand}
use Rattle.tmpl_grammar.specs.View.{operands_in}
use Rattle.tmpl_grammar.specs.declared.tree.Operand as held
use Rattle.tmpl_grammar.proofs.WeightLemmas.{operand_count-of}
use Rattle.tmpl_code.specs.Code.{is_last}

pub last-of : (piped : Bool) → is_last no_operand piped ≡ not piped
last-of false = refl
last-of true = refl

pub more-last : (os : List held.Operand) (piped : Bool) → 1 ≤ length os → false ≡ is_last (operands_in os) piped
more-last [] piped h = absurd (omega arith)
more-last (o ∷ os) piped h = refl

pub ruleset counts = (operand_count-of, last-of, more-last)

-- where no argument is left, what is held is the need
pub no_argument : (n : ℕ) → need_of_arguments n no_operand ≡ n
no_argument n = refl
