-- Hexadecimal digits.
use Rattle.std.specs.Prelude.{ℕ, ◌-◌, ◌&&◌, nat_le, if◌then◌else◌}

-- the value of a hexadecimal digit, and 16 for another byte
abbrev pub hex_value : ℕ → ℕ
hex_value b =
    if nat_le 48 b && nat_le b 57 then b - 48
    else (if nat_le 65 b && nat_le b 70 then b - 55 else (if nat_le 97 b && nat_le b 102 then b - 87 else 16))
