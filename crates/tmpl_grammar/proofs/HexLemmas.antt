-- For `printed_spelling`: digits in base 16 read back as their number, as a quote has them.
use Rattle.std.proofs.Common.{arith, ◌≡◌, ℕ, zero, suc, ◌/◌, ◌%◌, ◌^◌, ◌<◌, [], ◌∷◌, length, refl, length-append}
use Rattle.std.specs.Char.{digit_char, digit_value}
use Rattle.std.specs.Str.Parse.{AllDigits, digits_value}
use Rattle.std.proofs.Math.Nat.{pow-suc}
use Rattle.std.proofs.lemmas.Int.Digits.{digits_push, digits_value_push}
use Rattle.std.proofs.lemmas.Str.{digit_value-digit_char}
use Rattle.tmpl_values.specs.Quote.{hexes}
use Rattle.tmpl_grammar.specs.Constant.Quoted.{AreDigits}

pub length-hexes : (k c : ℕ) → length (hexes k c) ≡ k
unfolding hexes
length-hexes zero c = refl
length-hexes (suc k) c = omega (arith, length-append (hexes k (c / 16)) (digit_char (c % 16) ∷ []), length-hexes k (c / 16))

one-hex : (d : ℕ) → d < 16 → digit_value (digit_char d) < 16
one-hex d h = let is : digit_value (digit_char d) ≡ d = digit_value-digit_char d (omega arith) in omega (arith, is)

all-hex : (k c : ℕ) → AllDigits 16 (hexes k c)
unfolding hexes
all-hex zero c = tt
all-hex (suc k) c = digits_push 16 (hexes k (c / 16)) (digit_char (c % 16)) (all-hex k (c / 16)) (one-hex (c % 16) (omega arith))

pub value-hexes : (k c : ℕ) → c < 16 ^ k → digits_value 16 (hexes k c) ≡ c
unfolding hexes
value-hexes zero c h = omega (arith, h)
value-hexes (suc k) c h =
    let front = value-hexes k (c / 16) (omega (arith, pow-suc 16 k)) in
    grind (arith, front, digit_value-digit_char (c % 16), digits_value_push 16 (hexes k (c / 16)) (digit_char (c % 16)))

pub are-hexes : (k c : ℕ) → AreDigits 16 k (hexes k c)
are-hexes k c = (length-hexes k c, all-hex k c)
