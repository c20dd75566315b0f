-- For `integer` and what it calls: digits, read from left to right by a loop.
use Rattle.std.proofs.Common.{◌≡◌, ℕ, ◌+◌, ◌-◌, ◌*◌, ◌^◌, ◌<◌, ◌≤◌, Bool, true, false, List, [], ◌∷◌, Option, Some, None, if◌then◌else◌, filter, length}
use Rattle.std.proofs.Common.{take, drop, get_or, refl, arith, le_refl, mul-le-mul_left, option_and_then}
use Rattle.std.specs.List.{list_all}
use Rattle.std.specs.Char.{is_digit, digit_value}
use Rattle.std.specs.Str.Parse.{digits_value_after}
use Rattle.std.proofs.lemmas.Bool.Decides.{nat_tests}
use Rattle.tmpl_grammar.specs.computed.Integer.{is_plain, with_sign, magnitude, integer}
use Rattle.tmpl_grammar.specs.computed.Within.{within}
use Rattle.tmpl_grammar.proofs.ListLemmas.{take-rest}

-- the number that digits write after those of n
abbrev number_if : Bool → ℕ → Option ℕ
number_if b n = if b then Some n else None

abbrev pub number_after : ℕ → ℕ → List ℕ → Option ℕ
number_after base n ds = number_if (list_all (λ d. is_digit d base) ds) (digits_value_after base n ds)

-- what the bytes that are left write after those of n
abbrev pub left : ℕ → ℕ → List ℕ → Option ℕ
left base n bs = within (number_after base n (filter is_plain bs))

pub left-digit : (base n b : ℕ) (bs : List ℕ) → is_plain b ≡ true → is_digit b base ≡ true → left base n (b ∷ bs) ≡ left base (n * base + digit_value b) bs
left-digit base n b bs p d = grind (arith, nat_tests)

-- more digits only make the number larger
grown : (base n : ℕ) (ds : List ℕ) → 1 ≤ base → n ≤ digits_value_after base n ds
grown base n [] h = le_refl n
grown base n (d ∷ ds) h =
    omega (arith, mul-le-mul_left n h, grown base (n * base + digit_value d) ds h)

too-large : (b : Bool) (n : ℕ) → 2 ^ 63 < n → within (number_if b n) ≡ None
too-large b n h = grind (arith, nat_tests)

pub left-large : (base n : ℕ) (bs : List ℕ) → 1 ≤ base → 2 ^ 63 < n → left base n bs ≡ None
left-large base n bs h large = too-large _ (digits_value_after base n (filter is_plain bs)) (omega (arith, grown base n (filter is_plain bs) h))

first-digit : (base d : ℕ) (ds : List ℕ) → base ≤ 16 → list_all (λ d. is_digit d base) (d ∷ ds) ≡ true
    → (list_all (λ d. is_digit d base) ds ≡ true) × (filter is_plain (d ∷ ds) ≡ d ∷ filter is_plain ds)
first-digit base d ds h all = (grind (arith, nat_tests), grind (arith, nat_tests))

-- digits have no underscores among them
pub digits-plain : (base : ℕ) (ds : List ℕ) → base ≤ 16 → list_all (λ d. is_digit d base) ds ≡ true → filter is_plain ds ≡ ds
digits-plain base [] h all = refl
digits-plain base (d ∷ ds) h all = let f = first-digit base d ds h all in grind (arith, digits-plain base ds h f.0)

-- no number past 2^63 in magnitude fits
pub with_sign-within : (negative : Bool) (o : Option ℕ) → option_and_then (with_sign negative) (within o) ≡ option_and_then (with_sign negative) o
with_sign-within negative o = grind (arith, nat_tests)

-- the byte of a sign
abbrev pub sign_byte : Bool → ℕ
sign_byte true = 45
sign_byte false = 43

after-sign : (negative : Bool) (bs : List ℕ) → integer (sign_byte negative ∷ bs) ≡ option_and_then (with_sign negative) (magnitude bs)
unfolding integer
after-sign negative bs = grind (arith, nat_tests)

pub integer-with_sign : (negative : Bool) (bs : List ℕ) → 1 ≤ length bs → get_or bs 0 0 ≡ sign_byte negative
    → option_and_then (with_sign negative) (within (magnitude (take (length bs - 1) (drop 1 bs)))) ≡ integer bs
integer-with_sign negative [] h is = absurd (omega arith)
integer-with_sign negative (b ∷ bs) h is =
    grind (arith, take-rest (b ∷ bs) 1 (length (b ∷ bs) - 1), with_sign-within negative (magnitude bs), after-sign negative bs)

pub ruleset signs = (with_sign-within, integer-with_sign)

pub ruleset plain = (digits-plain)
