-- What stands between operands, and the two ways in which nothing is written.
use Rattle.std.specs.Prelude.{ℕ, Bool, List, [], ◌∷◌, if◌then◌else◌}
use Rattle.tmpl_values.specs.Value.{Value}
use Rattle.tmpl_funcs.specs.Join.{as_text}
use Rattle.tmpl_funcs.specs.declared.join.NothingText.{NothingText}
use Rattle.tmpl_funcs.specs.declared.join.NothingText.TheVariants.{Nil, NoValue}

-- a space, or nothing
abbrev pub space_unless : Bool → List ℕ
space_unless omitted = if omitted then [] else 32 ∷ []

-- the value that is joined in place of a value
abbrev pub operand_shown : NothingText → Value → Value
operand_shown Nil v = v
operand_shown NoValue v = as_text v
