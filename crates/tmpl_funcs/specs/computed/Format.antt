-- The result of adding a part of a format's text.
use Rattle.std.specs.Prelude.{◌≡◌, ◌<◌, ◌≤◌, ℕ, length, drop, List, ◌++◌, Option, Some, None, option_map, Result, Ok}
use Rattle.std.specs.Prelude.{Err, option_and_then}
use Rattle.std.specs.Borrow.{Bor}
use Rattle.tmpl_values.specs.Value.{Value}
use Rattle.tmpl_funcs.specs.printf.Format.{formatted}
use Rattle.tmpl_funcs.specs.declared.fault.CallError.{CallError}
use Rattle.tmpl_funcs.specs.declared.fault.CallError.TheVariants as error
use Rattle.tmpl_funcs.specs.declared.fault.CallFault.TheVariants.{FormatRefused}

-- two texts that are there, one after the other
abbrev pub both : Option (List ℕ) → Option (List ℕ) → Option (List ℕ)
both front after = option_and_then (λ s. option_map (λ t. s ++ t) after) front

-- a text that is there was added; or there is none, and the format was refused; or memory was
abbrev pub IsAdded : Option (List ℕ) → List ℕ → List ℕ → Result (Unit {0}) CallError → Type 0
IsAdded asked old new (Ok u) = option_map (λ text. old ++ text) asked ≡ Some new
IsAdded asked old new (Err (error.Fault FormatRefused)) = asked ≡ None
IsAdded asked old new (Err error.OutOfMemory) = Unit {0}
IsAdded asked old new _ = ⊥

-- a segment at the front was added, and what stands after it and the values after those that it
-- took come to the rest; or there is no text, and the format was refused; or memory was
abbrev pub IsSegmentAdded : List ℕ → List Value → List ℕ → List ℕ
    → Result (Bor (List ℕ) × ℕ) CallError → Type 0
IsSegmentAdded format vs old new (Ok left) = (text : List ℕ) × (new ≡ old ++ text)
    × (formatted format vs ≡ both (Some text) (formatted left.0.now (drop left.1 vs)))
    × (left.1 ≤ length vs) × (length left.0.now < length format)
IsSegmentAdded format vs old new (Err (error.Fault FormatRefused)) = formatted format vs ≡ None
IsSegmentAdded format vs old new (Err error.OutOfMemory) = Unit {0}
IsSegmentAdded format vs old new _ = ⊥
