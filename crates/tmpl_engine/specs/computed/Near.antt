-- What an instruction needs of a stack that may be given more cells before the next one.
use Rattle.std.specs.Prelude.{◌<◌, ◌≤◌, ◌+◌, ◌≡◌, ◌⊎◌, ℕ}
use Rattle.tmpl_code.specs.Instruction as code
use Rattle.tmpl_code.specs.Instruction.{Instruction}
use Rattle.tmpl_engine.specs.Ready.{Has}

-- room for the variables of an element: there are two at most
abbrev pub HasRoomFor : ℕ → ℕ → ℕ → Type 0
HasRoomFor count n size = (0 < count → n + 1 ≤ size) × (1 < count → n + 2 ≤ size)

-- `Has`, of cells that are there already
abbrev pub HasNear : Instruction → ℕ → ℕ → Type 0
HasNear (code.turn m) n size = HasRoomFor m n size
HasNear i n size = Has i n size

-- all cells of a stack of this size are there, or room for any instruction up to this height
abbrev pub IsNear : ℕ → ℕ → ℕ → Type 0
IsNear room high size = (size ≡ room) ⊎ (high + 3 ≤ size)
