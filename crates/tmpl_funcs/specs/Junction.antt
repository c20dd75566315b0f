-- The argument that decides ("Functions", at `and` and `or`).
use Rattle.std.specs.Prelude.{Bool, List, [], ◌∷◌, if◌then◌else◌}
use Rattle.std.specs.Bool.{beq}
use Rattle.tmpl_values.specs.Value.{Value}
use Rattle.tmpl_values.specs.Truth.{truth}

-- the first value whose truth decides, else the last: `or` stops at a value that is not empty, `and` at one that is
abbrev pub deciding : Bool → Value → List Value → Value
deciding stop v [] = v
deciding stop v (w ∷ ws) = if beq (truth v) stop then v else deciding stop w ws
