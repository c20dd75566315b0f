-- The whole constants of templates, computed: the twin of `IsInteger`.
use Rattle.std.specs.Prelude.{ℕ, ℤ, pos, neg_ℤ, ◌^◌, ◌&&◌, ◌||◌, ◌==◌, not, nat_lt, nat_le, Bool, true, false}
use Rattle.std.specs.Prelude.{List, [], ◌∷◌, Option, Some, None, if◌then◌else◌, filter, option_and_then}
use Rattle.std.specs.List.{list_all}
use Rattle.std.specs.Char.{is_digit}
use Rattle.std.specs.Str.Parse.{digits_value}
pub use Rattle.tmpl_grammar.specs.Constant.Integer.{base_named}

-- the byte is no underscore
abbrev pub is_plain : ℕ → Bool
is_plain b = not (b == 95)

-- a byte stands next, and it is no underscore
abbrev pub begins_plain : List ℕ → Bool
begins_plain [] = false
begins_plain (b ∷ bs) = is_plain b

-- a byte other than an underscore stands after each underscore
abbrev pub underscores_part : List ℕ → Bool
underscores_part [] = true
underscores_part (b ∷ bs) = (is_plain b || begins_plain bs) && underscores_part bs

-- the number that digits write in a base, if each is a digit of the base
abbrev pub number_in : ℕ → List ℕ → Option ℕ
number_in base ds = if list_all (λ d. is_digit d base) ds then Some (digits_value base ds) else None

-- the same of digits that single underscores may part
abbrev pub parted_number : ℕ → List ℕ → Option ℕ
parted_number base bs = if underscores_part bs then number_in base (filter is_plain bs) else None

-- the same, with at least one byte there
abbrev pub some_number : ℕ → List ℕ → Option ℕ
some_number base [] = None
some_number base (b ∷ bs) = parted_number base (b ∷ bs)

-- after a leading zero: the digits of the base that is named, or octal digits
abbrev pub number_by : Option ℕ → ℕ → List ℕ → Option ℕ
number_by None b bs = parted_number 8 (b ∷ bs)
number_by (Some base) b bs = some_number base bs

abbrev pub after_zero : List ℕ → Option ℕ
after_zero [] = Some 0
after_zero (b ∷ bs) = number_by (base_named b) b bs

-- the number without its sign
abbrev pub magnitude : List ℕ → Option ℕ
magnitude [] = None
magnitude (b ∷ bs) =
    if b == 48 then after_zero bs
    else (if b == 95 then None else parted_number 10 (b ∷ bs))

-- a number by its magnitude, from -2^63 to 2^63 - 1
abbrev pub with_sign : Bool → ℕ → Option ℤ
with_sign true n = if nat_le n (2 ^ 63) then Some (neg_ℤ (pos n)) else None
with_sign false n = if nat_lt n (2 ^ 63) then Some (pos n) else None

-- the number that bytes spell, if they spell one
unfoldable pub integer : List ℕ → Option ℤ
integer [] = None
integer (b ∷ bs) =
    if b == 45 then option_and_then (with_sign true) (magnitude bs)
    else (if b == 43 then option_and_then (with_sign false) (magnitude bs)
    else option_and_then (with_sign false) (magnitude (b ∷ bs)))
