-- What a format is read as: the one thing that `IsReadAs` admits.
use Rattle.std.specs.Prelude.{ℕ, List, Option}
use Rattle.tmpl_funcs.specs.printf.Form.{Segment}
use Rattle.tmpl_funcs.specs.computed.OneReading.{one_reading}

-- the segments of a format; none where it is no format
unfoldable pub reading : List ℕ → Option (List Segment)
reading format = (one_reading format).it
