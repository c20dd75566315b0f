-- The laws of the table of functions and of formats.
use Rattle.std.specs.Prelude.{◌≡◌, ℕ, false, List, length, Some, Err}
use Rattle.tmpl_values.specs.Value.{Value}
use Rattle.tmpl_funcs.specs.Dispatch.{table_answer}
use Rattle.tmpl_funcs.specs.Func.{takes}
use Rattle.tmpl_funcs.specs.declared.func.Func.{Func}
use Rattle.tmpl_funcs.specs.declared.fault.CallFault.TheVariants.{WrongCount}
use Rattle.tmpl_funcs.specs.printf.Form.{Segment}
use Rattle.tmpl_funcs.specs.printf.Spelling.{IsReading}
use Rattle.tmpl_funcs.specs.printf.Reading.{reading}
use Rattle.tmpl_funcs.specs.computed.Scan.{segments_read}

-- a number of arguments that a function does not take is refused before anything else
abbrev pub CountsFirst : Type 0
CountsFirst = (f : Func) (vs : List Value) → takes f (length vs) ≡ false → table_answer f vs ≡ Err WrongCount

-- what a format is read as is a reading
abbrev pub ReadsSoundly : List ℕ → Type 0
ReadsSoundly format = (ps : List Segment) → reading format ≡ Some ps → IsReading format ps

-- it is read as each reading
abbrev pub ReadsAll : List ℕ → Type 0
ReadsAll format = (ps : List Segment) → IsReading format ps → reading format ≡ Some ps

-- there is one reading at most
abbrev pub HasOneReading : List ℕ → Type 0
HasOneReading format = (ps qs : List Segment) → IsReading format ps → IsReading format qs → ps ≡ qs

-- a format can be read from left to right
abbrev pub ReadsInOrder : List ℕ → Type 0
ReadsInOrder format = reading format ≡ segments_read format
