-- The bytes that JSON distinguishes.
use Rattle.std.specs.Prelude.{ℕ, Bool, not, ◌||◌, ◌&&◌, ◌==◌, nat_le}
use Rattle.std.specs.Str.{byte}
pub use Rattle.tmpl_formats.specs.Hex.{hex_value}

abbrev pub is_white : ℕ → Bool
is_white b = b == byte " " || b == byte "\t" || b == byte "\n" || b == byte "\r"

-- a byte that stands for itself in a string
abbrev pub is_plain : ℕ → Bool
is_plain b = nat_le 32 b && not (b == byte "\"") && not (b == byte "\\")

-- a byte that a backslash may stand before, apart from `u`
abbrev pub is_short_escape : ℕ → Bool
is_short_escape b =
    b == byte "\"" || b == byte "\\" || b == byte "/" || b == byte "b" || b == byte "f" || b == byte "n" || b == byte "r" || b == byte "t"
