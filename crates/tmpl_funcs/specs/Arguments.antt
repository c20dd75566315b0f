-- How many arguments functions take, and what they give for them.
use Rattle.std.specs.Prelude.{ℕ, List, [], ◌∷◌, Option, Some, None, Result, Err}
use Rattle.tmpl_values.specs.Value.{Value}
use Rattle.tmpl_funcs.specs.declared.fault.CallFault.{CallFault}
use Rattle.tmpl_funcs.specs.declared.fault.CallFault.TheVariants.{WrongCount}

abbrev pub Answer : Type 0
Answer = Result Value CallFault

-- the arguments that a function takes, with what it gives for them
pub data Arguments : Type 0 where
  any : (List Value → Answer) → Arguments
  one : (Value → Answer) → Arguments
  two : (Value → Value → Answer) → Arguments
  one_to_three : (Value → Option Value → Option Value → Answer) → Arguments
  one_or_more : (Value → List Value → Answer) → Arguments
  two_or_more : (Value → Value → List Value → Answer) → Arguments

-- the least number of them and the greatest, if there is one
abbrev pub counts : Arguments → ℕ × Option ℕ
counts (any f) = (0, None)
counts (one f) = (1, Some 1)
counts (two f) = (2, Some 2)
counts (one_to_three f) = (1, Some 3)
counts (one_or_more f) = (1, None)
counts (two_or_more f) = (2, None)

-- what is given for a list of them; any other number is a wrong count
abbrev pub given_for : Arguments → List Value → Answer
given_for (any f) vs = f vs
given_for (one f) (v ∷ []) = f v
given_for (two f) (v ∷ w ∷ []) = f v w
given_for (one_to_three f) (v ∷ []) = f v None None
given_for (one_to_three f) (v ∷ w ∷ []) = f v (Some w) None
given_for (one_to_three f) (v ∷ w ∷ u ∷ []) = f v (Some w) (Some u)
given_for (one_or_more f) (v ∷ vs) = f v vs
given_for (two_or_more f) (v ∷ w ∷ vs) = f v w vs
given_for f vs = Err WrongCount
