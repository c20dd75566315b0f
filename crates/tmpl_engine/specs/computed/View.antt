-- What the stack of a run stands for.
use Rattle.std.specs.Prelude.{◌≡◌, ℕ, List, length}
use Rattle.tmpl_engine.specs.Cell.{Cell}
use Rattle.tmpl_engine.specs.computed.Held.{cells_in}
use Rattle.tmpl_engine.specs.declared.stack.Stack.{Stack}

unfoldable pub cells_of : Stack → List Cell
cells_of s = cells_in s.top s.cells.now

-- how many there may be
abbrev pub size_of : Stack → ℕ
size_of s = length s.cells.now

-- there may be as many as before, and they are the same memory
abbrev pub IsSameRoom : Stack → Stack → Type 0
IsSameRoom old new = (size_of new ≡ size_of old) × (new.cells.ghost_name ≡ old.cells.ghost_name)
