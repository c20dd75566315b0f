-- For `LentPiece`: what waits in a lent piece of memory when bytes are kept, passed on or cleared.
use Rattle.std.proofs.Common.{arith, ◌≡◌, ◌∙◌, ◌+◌, ◌-◌, ◌≤◌, ℕ, List, ◌++◌, length, drop, take, sym, ap}
use Rattle.std.specs.List.{between}
use Rattle.std.proofs.lemmas.Slice.{between_is}
use Rattle.std.proofs.lemmas.List.{drop-append-le, drop-drop, length-append, length-take-le, take-take}
use Rattle.std.proofs.Math.Seq.{take-append-add, take-append_seam}

pub passed : (bytes : List ℕ) (start count end : ℕ) → between (start + count) end bytes ≡ drop count (between start end bytes)
passed bytes start count end = grind (arith, between_is, drop-drop count start (take end bytes))

-- a text is copied to after what waits
pub kept-beyond : (start end beyond : ℕ) (old new text : List ℕ) → start ≤ end → end ≤ length old → take beyond new ≡ take end old ++ text
    → between start beyond new ≡ between start end old ++ text
kept-beyond start end beyond old new text order within e =
    let long = length-take-le end old within in
    grind (arith, between_is, drop-append-le start (take end old) text (omega (arith, long)))

-- a text stands first in what is copied there
pub first-beyond : (end count : ℕ) (old new part text rest : List ℕ) → end ≤ length old → count ≡ length text → part ≡ text ++ rest
    → take (end + length part) new ≡ take end old ++ part → take (end + count) new ≡ take end old ++ text
first-beyond end count old new part text rest within is e copied =
    let long = ap length e ∙ length-append text rest in
    let here : end + count ≡ length (take end old) + length text = omega (arith, length-take-le end old within, is) in
    sym (take-take (end + count) (end + length part) new (omega (arith, long, is))) ∙ ap (take (end + count)) (copied ∙ ap (λ l. take end old ++ l) e)
    ∙ ap (λ n. take n (take end old ++ (text ++ rest))) here ∙ take-append-add (take end old) (text ++ rest) (length text)
    ∙ ap (λ l. take end old ++ l) (take-append_seam text rest)

pub first-part : (m : ℕ) (text blank seen : List ℕ) → length text ≤ m → seen ≡ text ++ blank → take m seen ≡ text ++ take (m - length text) blank
first-part m text blank seen h e =
    let whole : m ≡ length text + (m - length text) = omega arith in
    ap (take m) e ∙ ap (λ n. take n (text ++ blank)) whole ∙ take-append-add text blank (m - length text)

pub ruleset kept = kept-beyond
