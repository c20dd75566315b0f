-- A law of the machines.
use Rattle.std.specs.Prelude.{◌≡◌, ◌+◌, ◌<◌, ℕ, List, length, take, ◌++◌, Some}
use Rattle.tmpl_formats.specs.computed.Format.{machine_mistake}
use Rattle.tmpl_formats.specs.declared.format.Format.{Format}
use Rattle.tmpl_formats.specs.declared.format.Format.TheVariants as format

-- the claim, but for lines: a longer line may have a match
abbrev pub ByPrefix : Format → Type 0 → Type 0
ByPrefix (format.Lines pattern) claim = Unit {0}
ByPrefix _ claim = claim

-- where a machine refuses a text at a byte, it refuses each text there that is the same up to this byte
abbrev pub RefusesPrefix : Type 0
RefusesPrefix =
    (asked : Format) (text more : List ℕ) (place : ℕ) → machine_mistake asked text ≡ Some place → place < length text
    → ByPrefix asked (machine_mistake asked (take (place + 1) text ++ more) ≡ Some place)
