-- Which values are equal, and which are below others ("Functions", at `eq` and `lt`). That nothing
-- and null are equal and differ from all else, and that sequences and mappings can be compared with
-- these alone, are this project's own rules.
use Rattle.std.specs.Prelude.{◌≡◌, ◌||◌, ◌&&◌, int_lt, bytes_eq, Bool, true, false, Option, Some, None, Result, Ok, Err}
use Rattle.std.specs.Prelude.{if◌then◌else◌}
use Rattle.std.specs.Bool.{beq}
use Rattle.std.specs.Ordering.{nat_cmp, int_eq, is_lt}
use Rattle.std.specs.Cmp.Lexicographic.{slice_cmp}
use Rattle.tmpl_values.specs.Value.{Value, nothing, null, boolean, number, string}
use Rattle.tmpl_values.specs.declared.compare.CompareFault.{CompareFault}

-- the value is nothing or null
abbrev pub is_nothing : Value → Bool
is_nothing nothing = true
is_nothing null = true
is_nothing _ = false

-- whether two values are equal: truth values, numbers and strings each among themselves, nothing and null alike and to
-- nothing else; none where they can't be compared
abbrev pub equality : Value → Value → Option Bool
equality (boolean b) (boolean c) = Some (beq b c)
equality (number m) (number n) = Some (int_eq m n)
equality (string s) (string t) = Some (bytes_eq s t)
equality v w = if is_nothing v || is_nothing w then Some (is_nothing v && is_nothing w) else None

-- whether a value is below another: numbers by size, strings byte by byte, and nothing else can be
-- compared
abbrev pub order : Value → Value → Option Bool
order (number m) (number n) = Some (int_lt m n)
order (string s) (string t) = Some (is_lt (slice_cmp nat_cmp s t))
order _ _ = None

-- the answer is the comparison's, and a fault comes exactly where there is none
abbrev pub IsCompared : Option Bool → Result Bool CompareFault → Type 0
IsCompared asked (Ok answer) = asked ≡ Some answer
IsCompared asked (Err fault) = asked ≡ None
