-- For `printed_tokens` and `printed_spelling`: a whole number in decimal is one token, and is read as it.
use Rattle.std.proofs.Common.{arith, ◌≡◌, ◌⊎◌, inl, inr, codes, ℕ, zero, suc, ◌^◌, ◌<◌, true, List, [], ◌∷◌, ◌++◌, append_assoc, get_or, refl, sym, subst}
use Rattle.std.proofs.Common.{pos, negsuc}
use lib.IntN.{ℤ}
use lib.Signed.{mag}
use Rattle.std.specs.Char.{is_ascii_digit}
use Rattle.std.specs.List.{list_all}
use Rattle.std.specs.Fmt.{decimal, signed_decimal}
use Rattle.std.specs.Str.Parse.{IsNumeral, AllDigits, digits_value}
use Rattle.std.proofs.lemmas.Fmt.{decimal_is_IsNumeral, decimal_digit, first_decimal}
use Rattle.std.proofs.lemmas.Bool.Decides.{nat_tests}
use Rattle.tmpl_lex.specs.Bytes.{is_number_byte, Stops}
use Rattle.tmpl_lex.specs.declared.piece.TokenKind.TheVariants as kind
use Rattle.tmpl_lex.specs.Token as row
use Rattle.tmpl_grammar.specs.Constant.Integer as numeral
use Rattle.tmpl_grammar.specs.Constant.Integer.{AreParted, no_digit, digit, IsMagnitude, octal, IsInteger}
use Rattle.tmpl_grammar.specs.Print.{token}
use Rattle.tmpl_grammar.proofs.FrontLemmas.{IsFront, Solid, solid, minus}

-- ---- the token

-- a token that stands at the front, and may stand after a space
pub record Stands (bs rest : List ℕ) : Type 0 where
  pub front : IsFront (token kind.Number bs) rest
  pub solid_is : Solid (bs ++ rest)

first-digit : (d : ℕ) (ds : List ℕ) → AllDigits 10 (d ∷ ds) → is_ascii_digit d ≡ true
first-digit d ds h = let low = h.0 in grind (arith, nat_tests)

digits-pass : (bs : List ℕ) → AllDigits 10 bs → list_all is_number_byte bs ≡ true
digits-pass [] h = refl
digits-pass (b ∷ bs) h =
    let low = h.0 in
    let here : is_number_byte b ≡ true = grind (arith, nat_tests) in
    simp (here, digits-pass bs h.1)

-- .. with a sign before its digits or none
signed-stands : {sign : List ℕ} (ds rest : List ℕ) → (sign ≡ []) ⊎ (sign ≡ codes "+") ⊎ (sign ≡ codes "-")
    → ((d : ℕ) (bs : List ℕ) → is_ascii_digit d ≡ true → Solid (sign ++ d ∷ bs)) → IsNumeral 10 ds
    → Stops is_number_byte rest → Stands (sign ++ ds) rest
signed-stands [] rest s firm h stop = absurd (let some = h.0 in omega (arith, some))
signed-stands {sign} (d ∷ ds) rest s firm h stop =
    let digit = first-digit d ds h.1 in
    record {
      front = row.number d s digit (record { passes = digits-pass ds (let all = h.1 in all.1); longest = stop });
      solid_is = rw (append_assoc sign (d ∷ ds) rest) (firm d (ds ++ rest) digit);
    }

pub number-stands : (n : ℤ) (rest : List ℕ) → mag n < 2 ^ 63 → Stops is_number_byte rest → Stands (signed_decimal n) rest
number-stands (pos n) rest h stop =
    signed-stands {sign = []} (decimal n) rest (inl refl) (λ d bs h. solid (grind (arith, nat_tests)) (grind (arith, nat_tests)))
    (decimal_is_IsNumeral n (omega arith)).0 stop
number-stands (negsuc n) rest h stop =
    signed-stands {sign = codes "-"} (decimal (suc n)) rest (inr (inr refl)) (λ d bs h. minus h) (decimal_is_IsNumeral (suc n) (omega arith)).0 stop

-- ---- its value

digits-parted : (ds : List ℕ) → AllDigits 10 ds → AreParted 10 ds ds
digits-parted [] h = no_digit
digits-parted (d ∷ ds) h =
    let low = h.0 in
    digit (grind (arith, nat_tests)) (digits-parted ds h.1)

numeral-spelled : (ds : List ℕ) → IsNumeral 10 ds → 48 < get_or ds 0 0 → IsMagnitude ds (digits_value 10 ds)
numeral-spelled [] h low = absurd (omega arith)
numeral-spelled (d ∷ ds) h low = numeral.decimal (λ is. omega (arith, is, low)) (digits-parted (d ∷ ds) h.1)

decimal-spelled : (n : ℕ) → n < 2 ^ 64 → IsMagnitude (decimal n) n
decimal-spelled zero h = subst (λ bs. IsMagnitude bs 0) (sym (decimal_digit 0 (omega arith))) (octal no_digit)
decimal-spelled (suc n) h =
    let is = decimal_is_IsNumeral (suc n) h in
    subst (IsMagnitude (decimal (suc n))) is.1 (numeral-spelled (decimal (suc n)) is.0 (first_decimal (suc n) (omega arith) h))

pub integer-spelled : (n : ℤ) → mag n < 2 ^ 63 → IsInteger (signed_decimal n) n
integer-spelled (pos n) h = numeral.unsigned (decimal-spelled n (omega (arith, h))) h
integer-spelled (negsuc n) h = numeral.minus (decimal-spelled (suc n) (omega (arith, h))) (omega (arith, h))
