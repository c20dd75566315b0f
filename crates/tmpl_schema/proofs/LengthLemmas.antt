-- For code that compares how many variables there are.
use Rattle.std.proofs.Common.{arith, ◌≡◌, ◌⊎◌, inl, inr, ◌-◌, ◌≤◌, ◌<◌, suc, nat_le, Bool, true, false, not, List, [], ◌∷◌, length, drop, ap, refl, sym}
use Rattle.std.proofs.lemmas.Bool.{false≢true}
use Rattle.std.proofs.lemmas.Bool.Decides.{leb_tells}
use Rattle.tmpl_schema.specs.computed.Check.{last_of}
use Rattle.tmpl_schema.specs.computed.View.{is_longer}

no_longer : {T : Type 0} → (xs ys : List T) → is_longer xs ys ≡ false → length xs ≤ length ys
no_longer [] ys e = omega arith
no_longer (x ∷ xs) [] e = absurd (false≢true (sym e))
no_longer (x ∷ xs) (y ∷ ys) e = let more = no_longer xs ys e in omega arith

longer : {T : Type 0} → (x : T) (xs ys : List T) → is_longer (x ∷ xs) ys ≡ true → length ys ≤ length xs
longer x xs [] e = omega arith
longer x (z ∷ xs) (y ∷ ys) e = let more = longer z xs ys e in omega arith
longer x [] (y ∷ ys) e = absurd (false≢true e)

pub last-all : {T : Type 0} → (xs ys : List T) → is_longer xs ys ≡ false → last_of (length ys) xs ≡ xs
last-all xs ys e = let h = no_longer xs ys e in let none : length xs - length ys ≡ 0 = omega arith in ap (λ n. drop n xs) none

pub last-more : {T : Type 0} → (x : T) (xs ys : List T) → is_longer (x ∷ xs) ys ≡ true → last_of (length ys) (x ∷ xs) ≡ last_of (length ys) xs
last-more x xs ys e =
    let h = longer x xs ys e in
    let one : length (x ∷ xs) - length ys ≡ suc (length xs - length ys) = omega arith in ap (λ n. drop n (x ∷ xs)) one

pub ruleset lasts = (last-all, last-more)

pub length-le : {T : Type 0} → (xs ys : List T) → nat_le (length xs) (length ys) ≡ not (is_longer xs ys)
length-le xs ys = by (is_longer xs ys) refl (leb_tells (length xs) (length ys)) (past xs ys)
  where
    past : {T : Type 0} → (xs ys : List T) → is_longer xs ys ≡ true → length ys < length xs
    past [] ys e = absurd (false≢true e)
    past (x ∷ xs) ys e = let h = longer x xs ys e in omega arith

    by : (c : Bool) → is_longer xs ys ≡ c
        → ((nat_le (length xs) (length ys) ≡ true) × (length xs ≤ length ys)) ⊎ ((nat_le (length xs) (length ys) ≡ false) × (length ys < length xs))
        → (is_longer xs ys ≡ true → length ys < length xs) → nat_le (length xs) (length ys) ≡ not c
    by false e (inl x) f = x.0
    by false e (inr x) f = let h = no_longer xs ys e in absurd (omega arith)
    by true e (inl x) f = let h = f e in absurd (omega arith)
    by true e (inr x) f = x.0

pub ruleset lengths = (length-le)
