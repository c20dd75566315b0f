-- Which values are empty: false, 0, nothing, null, and a string, sequence or mapping with nothing
-- in it ("Actions", at `if`: "The empty values are false, 0, any nil pointer or interface value,
-- and any array, slice, map, or string of length zero").
use Rattle.std.specs.Prelude.{pos, Bool, false, not, ◌==◌}
use Rattle.std.specs.Option.{option_map_or}
use Rattle.std.specs.Ordering.{int_eq}
use Rattle.tmpl_values.specs.Value.{Value, boolean, number}
use Rattle.tmpl_values.specs.Item.{size_of}

-- whether a value is not empty: of all but truth values and numbers, whether it has a size, and one above 0
abbrev pub truth : Value → Bool
truth (boolean b) = b
truth (number n) = not (int_eq n (pos 0))
truth v = option_map_or (λ n. not (n == 0)) (size_of v) false
