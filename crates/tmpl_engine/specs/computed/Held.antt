-- What cells stand for, apart from how they are held.
use Rattle.std.specs.Prelude.{◌≡◌, ◌+◌, ◌-◌, ◌<◌, ◌^◌, ℕ, zero, suc, Bool, true, false, List, [], ◌∷◌, length, map, nat_lt, reverse, take}
use Rattle.tmpl_values.specs.Elements.{elements}
use Rattle.tmpl_values.specs.Value.{nothing}
use Rattle.tmpl_values.specs.View.{val_of, is_made}
use Rattle.tmpl_values.specs.declared.value.Cell as held
use Rattle.tmpl_engine.specs.Cell.{Cell, fresh}
use Rattle.tmpl_engine.specs.Machine.{elements_in, is_number}
use Rattle.tmpl_engine.specs.declared.stack.More.{More}
use Rattle.tmpl_engine.specs.declared.stack.More.TheVariants as more

abbrev pub cell_of : held.Cell → Cell
cell_of c = record { val = val_of c.val; num = c.num }

-- this many of the oldest of these, the newest first
abbrev pub cells_in : ℕ → List held.Cell → List Cell
cells_in top cells = map cell_of (reverse (take top cells))

-- the cell at a place
abbrev pub cell_at : List held.Cell → ℕ → Cell
cell_at [] i = fresh nothing
cell_at (c ∷ cs) zero = cell_of c
cell_at (c ∷ cs) (suc i) = cell_at cs i

-- whether that holds a made text
abbrev pub made_at : List held.Cell → ℕ → Bool
made_at [] i = false
made_at (c ∷ cs) zero = is_made c.val
made_at (c ∷ cs) (suc i) = made_at cs i

-- whether a range has an element after the one that is visited
abbrev pub has_more : Cell → Bool
has_more v = nat_lt v.num (length (elements_in (elements v.val)) - 1)

-- what is told of that cell by what the range has after the element; a number has fewer than 2 ^ 63 elements
abbrev pub Tells : More → Cell → Type 0
Tells more.None v = has_more v ≡ false
Tells more.Number v = (has_more v ≡ true) × (is_number v.val ≡ true) × (v.num + 1 < 2 ^ 63)
Tells more.Other v = (has_more v ≡ true) × (is_number v.val ≡ false) × (v.num + 1 < 2 ^ 64)
