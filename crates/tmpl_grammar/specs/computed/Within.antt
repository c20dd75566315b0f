-- What code keeps of a number that may be too large for it.
use Rattle.std.specs.Prelude.{ℕ, ◌^◌, nat_le, Option, Some, None, option_and_then, if◌then◌else◌}

-- a number of at most 2^63
abbrev pub if_within : ℕ → Option ℕ
if_within n = if nat_le n (2 ^ 63) then Some n else None

abbrev pub within : Option ℕ → Option ℕ
within o = option_and_then if_within o
