-- For `one_constant`: digits at the front, and the number that they write, as escapes have them.
use Rattle.std.proofs.Common.{◌≡◌, ℕ, ◌+◌, ◌*◌, ◌<◌, ◌≤◌, true, List, [], ◌∷◌, ◌++◌, length, take, drop, IfSome, Some}
use Rattle.std.proofs.Common.{nat_le, refl, sym, arith, length-append, length-take, leb-true, lt-ltb, ltb-true}
use Rattle.std.specs.List.{list_all}
use Rattle.std.specs.Char.{digit_value, is_digit}
use Rattle.std.specs.Str.Parse.{AllDigits, digits_value}
use Rattle.std.proofs.Math.Seq.{take-append_seam}
use Rattle.std.proofs.lemmas.List.{take-append-drop}
use Rattle.std.proofs.lemmas.Bool.{and_parts, cond_both}
use Rattle.std.proofs.lemmas.Bool.Decides.{nat_tests}
use Rattle.tmpl_grammar.specs.Constant.Quoted.{AreDigits}
use Rattle.tmpl_grammar.specs.computed.Quoted.{code}

all-digits : (base : ℕ) (ds : List ℕ) → AllDigits base ds → list_all (λ d. is_digit d base) ds ≡ true
all-digits base [] h = refl
all-digits base (d ∷ ds) h = simp (lt-ltb (digit_value d) base h.0, all-digits base ds h.1)

digits-all : (base : ℕ) (ds : List ℕ) → list_all (λ d. is_digit d base) ds ≡ true → AllDigits base ds
digits-all base [] h = tt
digits-all base (d ∷ ds) h =
    let both = and_parts (is_digit d base) (list_all (λ d. is_digit d base) ds) h in
    (ltb-true (digit_value d) base both.0, digits-all base ds both.1)

-- this many digits at the front are read
pub code-digits : (base count : ℕ) (ds rest : List ℕ) → AreDigits base count ds → code base count (ds ++ rest) ≡ Some (digits_value base ds)
code-digits base count ds rest h = grind (arith, nat_tests, all-digits, length-append, take-append_seam)

-- .. and no other number is
pub code-tells : (base count : ℕ) (bs : List ℕ) (P : ℕ → Type 0) → ((ds rest : List ℕ) → bs ≡ ds ++ rest → AreDigits base count ds → P (digits_value base ds))
    → IfSome (code base count bs) P
code-tells base count bs P f =
    cond_both _ _ _ (λ o. IfSome o P) (λ (fits : nat_le count (length bs) ≡ true). cond_both _ _ _ (λ o. IfSome o P) (λ all.
    f (take count bs) (drop count bs) (sym (take-append-drop count bs))
    (omega (arith, length-take count bs, leb-true count (length bs) fits), digits-all base (take count bs) all)) (λ e. tt)) (λ e. tt)

-- an octal digit is from `0` to `7`
pub octal-digit : (d : ℕ) → digit_value d < 8 → (48 ≤ d) × (d < 56)
octal-digit d h = (grind (arith, nat_tests), grind (arith, nat_tests))

two-low : (m n : ℕ) → m < 16 → n < 16 → (0 * 16 + m) * 16 + n < 256
two-low m n h k = omega arith

-- two digits of base 16 are a byte
pub hex-byte : (ds : List ℕ) → AreDigits 16 2 ds → digits_value 16 ds < 256
hex-byte (a ∷ b ∷ []) are = two-low (digit_value a) (digit_value b) are.1.0 are.1.1.0
hex-byte _ are = absurd (omega (arith, are.0))
