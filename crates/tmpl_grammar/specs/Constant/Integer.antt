-- The whole constants of templates, spelled as "Integer literals" in the specification of Go's language has them, with
-- a sign before them or none. That a number with a point or an exponent is refused is our own rule.
use Rattle.std.specs.Prelude.{◌≡◌, ◌<◌, ◌≤◌, ℕ, ℤ, pos, neg_ℤ, ◌^◌, ◌||◌, ◌==◌, true, List, [], ◌∷◌}
use Rattle.std.specs.Prelude.{Option, Some, None, if◌then◌else◌}
use Rattle.std.specs.Char.{is_digit}
use Rattle.std.specs.Str.{byte}
use Rattle.std.specs.Str.Parse.{digits_value}

-- digits of a base, a single underscore before any of them; and the digits without these
pub data AreParted (base : ℕ) : List ℕ → List ℕ → Type 0 where
  no_digit : AreParted base [] []
  digit : {d : ℕ} {bs ds : List ℕ} → is_digit d base ≡ true → AreParted base bs ds → AreParted base (d ∷ bs) (d ∷ ds)
  parted : {d : ℕ} {bs ds : List ℕ} → AreParted base (d ∷ bs) (d ∷ ds) → AreParted base (byte "_" ∷ d ∷ bs) (d ∷ ds)

-- the base that a letter after a leading zero names
abbrev pub base_named : ℕ → Option ℕ
base_named b = if b == byte "x" || b == byte "X" then Some 16
    else (if b == byte "o" || b == byte "O" then Some 8
    else (if b == byte "b" || b == byte "B" then Some 2 else None))

-- a number without its sign: a decimal one, one of octal digits after a zero, or of the base that is named there
pub data IsMagnitude : List ℕ → ℕ → Type 0 where
  decimal : {d : ℕ} {bs ds : List ℕ} → (d ≡ byte "0" → ⊥) → AreParted 10 (d ∷ bs) (d ∷ ds)
      → IsMagnitude (d ∷ bs) (digits_value 10 (d ∷ ds))
  octal : {bs ds : List ℕ} → AreParted 8 bs ds → IsMagnitude (byte "0" ∷ bs) (digits_value 8 ds)
  based : {base b c : ℕ} {bs ds : List ℕ} → base_named b ≡ Some base → AreParted base (c ∷ bs) ds
      → IsMagnitude (byte "0" ∷ b ∷ c ∷ bs) (digits_value base ds)

-- a number from -2^63 to 2^63 - 1
pub data IsInteger : List ℕ → ℤ → Type 0 where
  minus : {bs : List ℕ} {n : ℕ} → IsMagnitude bs n → n ≤ 2 ^ 63 → IsInteger (byte "-" ∷ bs) (neg_ℤ (pos n))
  plus : {bs : List ℕ} {n : ℕ} → IsMagnitude bs n → n < 2 ^ 63 → IsInteger (byte "+" ∷ bs) (pos n)
  unsigned : {bs : List ℕ} {n : ℕ} → IsMagnitude bs n → n < 2 ^ 63 → IsInteger bs (pos n)
