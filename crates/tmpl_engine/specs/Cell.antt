-- The cells of a machine's stack.
use Rattle.std.specs.Prelude.{ℕ, zero, suc, List, [], ◌∷◌, map}
use Rattle.tmpl_values.specs.Value.{Value, nothing}

-- a value, and a number beside it
pub record Cell : Type 0 where
  pub val : Value
  pub num : ℕ

abbrev pub cell : Value → ℕ → Cell
cell v n = record { val = v; num = n }

-- a cell whose number says nothing
abbrev pub fresh : Value → Cell
fresh v = cell v 0

abbrev pub values_in : List Cell → List Value
values_in cs = map (λ (c : Cell). c.val) cs

-- the cell of a slot, which counts from the newest cell
abbrev pub slot_cell : ℕ → List Cell → Cell
slot_cell k [] = fresh nothing
slot_cell zero (c ∷ cs) = c
slot_cell (suc k) (c ∷ cs) = slot_cell k cs

abbrev pub slot : ℕ → List Cell → Value
slot k cs = (slot_cell k cs).val
