-- Kinds of bytes in a format.
use Rattle.std.specs.Prelude.{ℕ, Bool}
use Rattle.std.specs.Char.{is_ascii_digit}
use Rattle.tmpl_funcs.specs.printf.Form.{is_plain, is_flag}
use Rattle.tmpl_funcs.specs.declared.printf.class.Class.{Class}
use Rattle.tmpl_funcs.specs.declared.printf.class.Class.TheVariants.{Plain, Flag, Digit}

-- the byte is of this kind
abbrev pub in_class : Class → ℕ → Bool
in_class Plain b = is_plain b
in_class Flag b = is_flag b
in_class Digit b = is_ascii_digit b
