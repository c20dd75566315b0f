-- For `Stack`: lent cells as the list of those that are live, the newest first.
use Rattle.std.proofs.Common.{arith, ◌≡◌, ◌∙◌, ◌+◌, ◌-◌, ◌<◌, ◌≤◌, ℕ, zero, suc, List, [], ◌∷◌, length, drop, take, set, get_or, map, reverse, refl, ap, sym}
use Rattle.std.proofs.lemmas.List.{length-map, length-reverse, get_or-set_other, length-set, length-take-le, reverse-append}
use Rattle.std.proofs.Math.Seq.{take-suc, take-suc-set}
use Rattle.std.proofs.Math.Numerals.{add-one}
use Rattle.tmpl_values.specs.declared.value.Cell as held
use Rattle.tmpl_values.specs.View.{val_of}
use Rattle.tmpl_engine.specs.Cell.{Cell, slot_cell}
use Rattle.tmpl_engine.specs.Machine.{top}
use Rattle.tmpl_engine.specs.computed.Held.{cell_at, cell_of, cells_in}

pub live-length : (top : ℕ) (cs : List held.Cell) → top ≤ length cs → length (cells_in top cs) ≡ top
live-length top cs h = length-map (reverse (take top cs)) cell_of ∙ length-reverse (take top cs) ∙ length-take-le top cs h

live-more : (top : ℕ) (cs : List held.Cell) (d : held.Cell) → top < length cs → cells_in (top + 1) cs ≡ cell_of (get_or cs top d) ∷ cells_in top cs
live-more top cs d h = grind (arith, add-one, take-suc cs top d h, reverse-append (take top cs) (get_or cs top d ∷ []))

pub live-push : (top : ℕ) (cs : List held.Cell) (c : held.Cell) → top < length cs → cells_in (top + 1) (set cs top c) ≡ cell_of c ∷ cells_in top cs
live-push top cs c h = grind (arith, add-one, take-suc-set cs top c h, reverse-append (take top cs) (c ∷ []))

pub live-same : (top : ℕ) (new old : List held.Cell) → take top new ≡ take top old → cells_in top new ≡ cells_in top old
live-same top new old e = ap (λ l. map cell_of (reverse l)) e

-- the newest one is taken
pub live-taken : (top : ℕ) (old new : List held.Cell) (c : held.Cell) → 1 ≤ top → top ≤ length old → c ≡ get_or old (top - 1) c
    → take (top - 1) new ≡ take (top - 1) old → cells_in top old ≡ cell_of c ∷ cells_in (top - 1) new
live-taken top old new c some within is left = let one : top ≡ top - 1 + 1 = omega arith in grind (arith, live-more, live-same)

-- this many of the oldest are those that are left when the others are forgotten
live-drop : (count top : ℕ) (cs : List held.Cell) → count ≤ top → top ≤ length cs → cells_in (top - count) cs ≡ drop count (cells_in top cs)
live-drop zero top cs h g = let same : top - 0 ≡ top = omega arith in ap (λ n. cells_in n cs) same
live-drop (suc k) zero cs h g = absurd (omega arith)
live-drop (suc k) (suc top) [] h g = absurd (omega arith)
live-drop (suc k) (suc top) (c ∷ cs) h g = let one : suc top ≡ top + 1 = omega arith in
    grind (arith, live-more top (c ∷ cs) c (omega arith), live-drop k top (c ∷ cs) (omega arith) (omega arith))

pub live-popped : (count top : ℕ) (old new : List held.Cell) → count ≤ top → top ≤ length old → take (top - count) new ≡ take (top - count) old
    → cells_in (top - count) new ≡ drop count (cells_in top old)
live-popped count top old new h g left = live-same (top - count) new old left ∙ live-drop count top old h g

pub cell_at-is : (cs : List held.Cell) (i : ℕ) (d : held.Cell) → i < length cs → cell_at cs i ≡ cell_of (get_or cs i d)
cell_at-is [] i d h = absurd (omega arith)
cell_at-is (c ∷ cs) zero d h = refl
cell_at-is (c ∷ cs) (suc i) d h = cell_at-is cs i d (omega arith)

-- a slot, counted from the newest cell
pub slot-at : (top k : ℕ) (cs : List held.Cell) → k < top → top ≤ length cs → slot_cell k (cells_in top cs) ≡ cell_at cs (top - 1 - k)
slot-at zero k cs h g = absurd (omega arith)
slot-at (suc top) k [] h g = absurd (omega arith)
slot-at (suc top) zero (c ∷ cs) h g = let one : suc top ≡ top + 1 = omega arith in
    grind (arith, live-more top (c ∷ cs) c (omega arith), cell_at-is (c ∷ cs) top c (omega arith))
slot-at (suc top) (suc k) (c ∷ cs) h g = let one : suc top ≡ top + 1 = omega arith in
    grind (arith, live-more top (c ∷ cs) c (omega arith), slot-at top k (c ∷ cs) (omega arith) (omega arith))

-- a write to it
pub live-set : (top k : ℕ) (cs : List held.Cell) (d : held.Cell) → k < top → top ≤ length cs
    → cells_in top (set cs (top - 1 - k) d) ≡ set (cells_in top cs) k (cell_of d)
live-set zero k cs d h g = absurd (omega arith)
live-set (suc top) zero cs d h g = let one : suc top ≡ top + 1 = omega arith in
    grind (arith, live-push top cs d (omega arith), live-more top cs d (omega arith))
live-set (suc top) (suc k) cs d h g =
    let one : suc top ≡ top + 1 = omega arith in
    let long = length-set cs (top - 1 - k) d in
    let other = get_or-set_other cs (top - 1 - k) top d d (λ e. absurd (omega arith)) in
    grind (
      arith,
      other,
      live-more top (set cs (top - 1 - k) d) d (omega (arith, long)),
      live-more top cs d (omega arith),
      live-set top k cs d (omega arith) (omega arith),
    )

pub ruleset pushes = (live-length, live-push)

pub ruleset takes = (live-length, live-taken)

pub ruleset stacks = (live-length, live-push, live-taken, live-popped, slot-at, live-set)

-- the newest one gives way to another
pub live-exchanged : (top : ℕ) (old new : List held.Cell) (c : Cell) → 1 ≤ top → top ≤ length old → cells_in (top - 1 + 1) new ≡ c ∷ cells_in (top - 1) old
    → cells_in top new ≡ c ∷ drop 1 (cells_in top old)
live-exchanged top old new c some within is = let one : top ≡ top - 1 + 1 = omega arith in grind (arith, live-drop 1 top old some within)

pub ruleset exchanges = (live-exchanged)

pub num_at-is : (cs : List held.Cell) (i : ℕ) (d : held.Cell) → i < length cs → (get_or cs i d).num ≡ (cell_at cs i).num
num_at-is cs i d h = ap (λ (c : Cell). c.num) (sym (cell_at-is cs i d h))

pub val_at-is : (cs : List held.Cell) (i : ℕ) (d : held.Cell) → i < length cs → val_of (get_or cs i d).val ≡ (cell_at cs i).val
val_at-is cs i d h = ap (λ (c : Cell). c.val) (sym (cell_at-is cs i d h))

pub ruleset cells = (num_at-is, val_at-is)

pub ruleset reads = (live-length, slot-at, num_at-is, val_at-is)
