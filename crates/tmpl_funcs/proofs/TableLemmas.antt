-- For the law `count_first`: the numbers of arguments that are told are those for which something is given.
use Rattle.std.proofs.Common.{◌≡◌, ◌&&◌, nat_le, true, false, List, [], ◌∷◌, length, Err, refl, arith}
use Rattle.std.specs.Option.{option_map_or}
use Rattle.std.proofs.lemmas.Bool.Decides.{nat_tests}
use Rattle.tmpl_values.specs.Value.{Value}
use Rattle.tmpl_funcs.specs.Arguments.{Arguments, any, one, two, one_to_three, one_or_more, two_or_more, counts, given_for}
use Rattle.tmpl_funcs.specs.Func.{row_of}
use Rattle.tmpl_funcs.specs.Laws.{CountsFirst}
use Rattle.tmpl_funcs.specs.declared.fault.CallFault.TheVariants.{WrongCount}

counted : (a : Arguments) (vs : List Value) → (nat_le (counts a).0 (length vs) && option_map_or (nat_le (length vs)) (counts a).1 true) ≡ false
    → given_for a vs ≡ Err WrongCount
counted (any f) vs h = grind (arith, nat_tests)
counted (one f) [] h = refl
counted (one f) (v ∷ []) h = let t : true ≡ false = h in cc
counted (one f) (v ∷ w ∷ vs) h = refl
counted (two f) [] h = refl
counted (two f) (v ∷ []) h = refl
counted (two f) (v ∷ w ∷ []) h = let t : true ≡ false = h in cc
counted (two f) (v ∷ w ∷ u ∷ vs) h = refl
counted (one_to_three f) [] h = refl
counted (one_to_three f) (v ∷ []) h = let t : true ≡ false = h in cc
counted (one_to_three f) (v ∷ i ∷ []) h = let t : true ≡ false = h in cc
counted (one_to_three f) (v ∷ i ∷ j ∷ []) h = let t : true ≡ false = h in cc
counted (one_to_three f) (v ∷ i ∷ j ∷ k ∷ vs) h = refl
counted (one_or_more f) [] h = refl
counted (one_or_more f) (v ∷ vs) h = grind (arith, nat_tests)
counted (two_or_more f) [] h = refl
counted (two_or_more f) (v ∷ []) h = refl
counted (two_or_more f) (v ∷ w ∷ vs) h = grind (arith, nat_tests)

pub counts-first : CountsFirst
counts-first f vs h = counted (row_of f).arguments vs h

pub ruleset counts_first = (counts-first)
