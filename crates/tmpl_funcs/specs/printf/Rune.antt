-- A text cut to a precision ("Printing" in the documentation of `fmt`: for strings the precision limits the length of
-- the input, in runes).
use Rattle.std.specs.Prelude.{ℕ, List, take, Option}
use Rattle.std.specs.Option.{option_map_or}
use Rattle.std.specs.List.{flat_map}
use Rattle.tmpl_values.specs.Rune.{bytes_in}
use Rattle.tmpl_values.specs.Runes.{runes}

-- a text cut to a precision in runes
abbrev pub truncated_to : Option ℕ → List ℕ → List ℕ
truncated_to precision s = option_map_or (λ n. flat_map bytes_in (take n (runes s))) precision s
