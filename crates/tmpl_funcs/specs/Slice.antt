-- A part of a string or a sequence ("Functions", at `slice`: "`slice x 1 2` is, in Go syntax,
-- x[1:2], while `slice x` is x[:], `slice x 1` is x[1:]"). That no part goes past the length is
-- this project's own rule.
use Rattle.std.specs.Prelude.{ℕ, ℤ, pos, ◌&&◌, nat_le, Option, Some, None, option_map}
use Rattle.std.specs.Prelude.{Result, Ok, Err, if◌then◌else◌}
use Rattle.std.specs.Option.{option_map_or}
use Rattle.tmpl_values.specs.Value.{Value, mapping}
use Rattle.tmpl_values.specs.Item.{part_of, size_of}
use Rattle.tmpl_funcs.specs.Index.{number_of}
use Rattle.tmpl_funcs.specs.declared.fault.CallFault.{CallFault}
use Rattle.tmpl_funcs.specs.declared.fault.CallFault.TheVariants.{WrongKind, OutOfRange}

-- how long a string or a sequence is; nothing else has parts
abbrev pub extent : Value → Option ℕ
extent (mapping es) = None
extent v = size_of v

-- the part of a value of length n between two bounds, which have to be numbers, in order and within the length
abbrev pub part : Value → Option ℕ → Option ℤ → Option ℤ → Result Value CallFault
part v (Some n) (Some (pos i)) (Some (pos j)) = if nat_le i j && nat_le j n then Ok (part_of i j v) else Err OutOfRange
part v (Some n) (Some _) (Some _) = Err OutOfRange
part v _ _ _ = Err WrongKind

-- a value between two others; without them it begins at 0 and ends at its end
abbrev pub slice_between : Value → Option Value → Option Value → Result Value CallFault
slice_between v from to = part v (extent v) (option_map_or number_of from (Some (pos 0)))
    (option_map_or number_of to (option_map pos (extent v)))
