-- For `one_constant`: the whole constants that are computed are those that the relation admits.
use Rattle.std.proofs.Common.{arith, ◌≡◌, ◌∙◌, ℕ, ℤ, pos, ◌^◌, ◌<◌, ◌≤◌, Bool, true, false, nat_eq, List, [], ◌∷◌, filter, Option, Some, None, IfSome}
use Rattle.std.proofs.Common.{option_and_then, refl}
use Rattle.std.specs.List.{list_all}
use Rattle.std.specs.Char.{is_digit}
use Rattle.std.specs.Str.Parse.{digits_value}
use Rattle.std.proofs.lemmas.Bool.{eqb-true, eqb-false, and_parts, cond_both, le-leb, leb-true, lt-ltb, ltb-true}
use Rattle.std.proofs.lemmas.Bool.Decides.{nat_tests}
use Rattle.tmpl_grammar.specs.Constant.Integer.{AreParted, no_digit, digit, parted, base_named, IsMagnitude, decimal, octal, based, IsInteger, minus, plus}
use Rattle.tmpl_grammar.specs.Constant.Integer.{unsigned}
use Rattle.tmpl_grammar.specs.computed.Integer.{is_plain, underscores_part, parted_number, number_by, after_zero, magnitude, with_sign, integer}
use Rattle.tmpl_grammar.proofs.OptionLemmas.{chained}

-- ---- digits

digit-plain : (base d : ℕ) → base ≤ 16 → is_digit d base ≡ true → is_plain d ≡ true
digit-plain base d low is = grind (arith, nat_tests)

abbrev are_digits : ℕ → List ℕ → Bool
are_digits base ds = list_all (λ d. is_digit d base) ds

first-digit : (base d : ℕ) (ds : List ℕ) → are_digits base (d ∷ ds) ≡ true → is_digit d base ≡ true
first-digit base d ds h = grind (arith, nat_tests)

module _ (base : ℕ) (low : base ≤ 16) where
  -- underscores part them, and without these they are digits
  parted-computed : {bs ds : List ℕ} → AreParted base bs ds → (underscores_part bs ≡ true) × (filter is_plain bs ≡ ds) × (are_digits base ds ≡ true)
  parted-computed no_digit = (refl, refl, refl)
  parted-computed (digit {d = d} is rest) = grind (arith, nat_tests, parted-computed rest, digit-plain)
  parted-computed (parted {d = d} {ds = ds} rest) = grind (arith, nat_tests, parted-computed rest, digit-plain, first-digit)

  parted-number : {bs ds : List ℕ} → AreParted base bs ds → parted_number base bs ≡ Some (digits_value base ds)
  parted-number a = let (part, kept, all) = parted-computed a in simp (part, kept, all)

parted-admitted : (base : ℕ) (bs : List ℕ) → underscores_part bs ≡ true → are_digits base (filter is_plain bs) ≡ true → AreParted base bs (filter is_plain bs)
parted-admitted base [] part all = no_digit
parted-admitted base (b ∷ bs) part all = by (nat_eq b 95) refl bs (parted-admitted base bs) part all
  where
    by : (t : Bool) → nat_eq b 95 ≡ t → (bs : List ℕ)
        → (underscores_part bs ≡ true → are_digits base (filter is_plain bs) ≡ true → AreParted base bs (filter is_plain bs))
        → underscores_part (b ∷ bs) ≡ true → are_digits base (filter is_plain (b ∷ bs)) ≡ true → AreParted base (b ∷ bs) (filter is_plain (b ∷ bs))
    by false e bs more part all =
        let both = and_parts (is_digit b base) (are_digits base (filter is_plain bs)) (simp e at all) in
        simp e (digit both.0 (more (simp e at part) both.1))
    by true e [] more part all = absurd (let none = simp e at part in cc)
    by true e (c ∷ cs) more part all =
        let both = and_parts (is_plain c) (underscores_part (c ∷ cs)) (simp e at part) in
        let r = simp both.0 at (more both.1 (simp e at all)) in
        simp (e, both.0) (rw (eqb-true b 95 e) (parted r))

number-parted : (base : ℕ) (bs : List ℕ) (P : ℕ → Type 0) → ((ds : List ℕ) → AreParted base bs ds → P (digits_value base ds))
    → IfSome (parted_number base bs) P
number-parted base bs P h = grind (arith, nat_tests, parted-admitted)

-- ---- magnitudes

named-low : (b base : ℕ) → base_named b ≡ Some base → base ≤ 16
named-low b base e = grind (arith, nat_tests)

octal-computed : {bs ds : List ℕ} → AreParted 8 bs ds → after_zero bs ≡ Some (digits_value 8 ds)
octal-computed no_digit = refl
octal-computed (digit {d = d} is rest) =
    -- an octal digit names no base
    let unnamed : base_named d ≡ None = grind (arith, nat_tests) in
    simp unnamed (parted-number 8 (omega arith) (digit is rest))
octal-computed (parted rest) = parted-number 8 (omega arith) (parted rest)

decimal-first : (d : ℕ) (bs ds : List ℕ) → AreParted 10 (d ∷ bs) (d ∷ ds) → is_digit d 10 ≡ true
decimal-first d bs ds a = let (part, kept, all) = parted-computed 10 (omega arith) a in first-digit 10 d ds all

decimal-computed : (d : ℕ) (bs ds : List ℕ) → AreParted 10 (d ∷ bs) (d ∷ ds) → (d ≡ 48 → ⊥) → magnitude (d ∷ bs) ≡ parted_number 10 (d ∷ bs)
decimal-computed d bs ds a other = grind (arith, nat_tests, decimal-first d bs ds a)

magnitude-computed : {bs : List ℕ} {n : ℕ} → IsMagnitude bs n → magnitude bs ≡ Some n
magnitude-computed (decimal {d = d} {bs = bs} {ds = ds} other a) = decimal-computed d bs ds a other ∙ parted-number 10 (omega arith) a
magnitude-computed (octal a) = octal-computed a
magnitude-computed (based {base = base} {b = b} e a) = simp (e, parted-number base (named-low b base e) a)

decimal-admitted : (b : ℕ) (bs ds : List ℕ) → AreParted 10 (b ∷ bs) ds → (b ≡ 48 → ⊥) → (b ≡ 95 → ⊥) → IsMagnitude (b ∷ bs) (digits_value 10 ds)
decimal-admitted _ _ _ (digit is rest) other line = decimal other (digit is rest)
decimal-admitted _ _ _ (parted rest) other line = absurd (line refl)

zero-admitted : (bs : List ℕ) → IfSome (after_zero bs) (IsMagnitude (48 ∷ bs))
zero-admitted [] = octal no_digit
zero-admitted (b ∷ bs) = go (base_named b) refl bs
  where
    go : (o : Option ℕ) → base_named b ≡ o → (cs : List ℕ) → IfSome (number_by o b cs) (IsMagnitude (48 ∷ b ∷ cs))
    go None is cs = number-parted 8 (b ∷ cs) (IsMagnitude (48 ∷ b ∷ cs)) (λ ds a. octal a)
    go (Some base) is [] = tt
    go (Some base) is (c ∷ cs) = number-parted base (c ∷ cs) (IsMagnitude (48 ∷ b ∷ c ∷ cs)) (λ ds a. based is a)

magnitude-admitted : (bs : List ℕ) → IfSome (magnitude bs) (IsMagnitude bs)
magnitude-admitted [] = tt
magnitude-admitted (b ∷ bs) =
    let Is : Option ℕ → Type 0 = λ o. IfSome o (IsMagnitude (b ∷ bs)) in
    cond_both _ _ _ Is (λ h. rw (eqb-true b 48 h) (zero-admitted bs)) (λ h. cond_both _ _ _ Is (λ k. tt) (λ k.
    number-parted 10 (b ∷ bs) (IsMagnitude (b ∷ bs)) (λ ds a. decimal-admitted b bs ds a (eqb-false b 48 h) (eqb-false b 95 k))))

-- ---- signs

-- the bytes of a magnitude have no sign
unsigned-computed : {bs : List ℕ} {n : ℕ} → IsMagnitude bs n → integer bs ≡ option_and_then (with_sign false) (magnitude bs)
unfolding integer
unsigned-computed (decimal {d = d} {bs = bs} {ds = ds} other a) = grind (arith, nat_tests, decimal-first d bs ds a)
unsigned-computed (octal a) = refl
unsigned-computed (based e a) = refl

pub integer-computed : {bs : List ℕ} {n : ℤ} → IsInteger bs n → integer bs ≡ Some n
unfolding integer
integer-computed (minus {n = n} m le) = simp (magnitude-computed m, le-leb n (2 ^ 63) le)
integer-computed (plus {n = n} m lt) = simp (magnitude-computed m, lt-ltb n (2 ^ 63) lt)
integer-computed (unsigned {n = n} m lt) = unsigned-computed m ∙ simp (magnitude-computed m, lt-ltb n (2 ^ 63) lt)

-- a number without a minus
positive-admitted : (bs cs : List ℕ) → ((n : ℕ) → IsMagnitude cs n → n < 2 ^ 63 → IsInteger bs (pos n))
    → IfSome (option_and_then (with_sign false) (magnitude cs)) (IsInteger bs)
positive-admitted bs cs f = chained (with_sign false) (IsInteger bs) (magnitude cs) (magnitude-admitted cs) (λ n m.
    cond_both _ _ _ (λ o. IfSome o (IsInteger bs)) (λ e. f n m (ltb-true n (2 ^ 63) e)) (λ e. tt))

pub integer-admitted : (bs : List ℕ) → IfSome (integer bs) (IsInteger bs)
unfolding integer
integer-admitted [] = tt
integer-admitted (b ∷ bs) =
    let Is : Option ℤ → Type 0 = λ o. IfSome o (IsInteger (b ∷ bs)) in
    cond_both _ _ _ Is
    (λ h. rw (eqb-true b 45 h) (chained (with_sign true) (IsInteger (45 ∷ bs)) (magnitude bs) (magnitude-admitted bs) (λ n m.
    cond_both _ _ _ (λ o. IfSome o (IsInteger (45 ∷ bs))) (λ e. minus m (leb-true n (2 ^ 63) e)) (λ e. tt))))
    (λ h. cond_both _ _ _ Is (λ k. rw (eqb-true b 43 k) (positive-admitted (43 ∷ bs) bs (λ n m. plus m)))
    (λ k. positive-admitted (b ∷ bs) (b ∷ bs) (λ n m. unsigned m)))
