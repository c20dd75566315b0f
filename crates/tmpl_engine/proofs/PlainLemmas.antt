-- For the clauses `plain`: live cells of which none holds a made text stay so, by which a run that makes no text is refused no memory.
use Rattle.std.proofs.Common.{arith, ◌≡◌, ◌∙◌, ◌+◌, ◌-◌, ◌<◌, ◌≤◌, ℕ, zero, suc, true, false, List, [], ◌∷◌, length, take, set, get_or, refl, ap, sym, subst}
use Rattle.std.proofs.Math.Numerals.{add-one}
use Rattle.std.proofs.lemmas.List.{take-take}
use Rattle.std.proofs.lemmas.List.Elements.{All-from_recursion, All-take, recursion_from_All}
use Rattle.tmpl_values.specs.View.{is_made}
use Rattle.tmpl_values.specs.declared.value.Cell as held
use Rattle.tmpl_funcs.specs.Answer.{AreBorrowed}
use Rattle.tmpl_engine.specs.computed.Held.{made_at}

-- none of fewer
pub borrowed-popped : (m n : ℕ) (old new : List held.Cell) → m ≤ n → take m new ≡ take m old → AreBorrowed (take n old) → AreBorrowed (take m new)
borrowed-popped m n old new h left p =
    let Plain : held.Cell → Type 0 = λ c. is_made c.val ≡ false in
    subst AreBorrowed (take-take m n old h ∙ sym left)
    (recursion_from_All Plain (take m (take n old)) (All-take Plain m (take n old) (All-from_recursion Plain (take n old) p)))

-- nor does one of them
pub borrowed-at : (n i : ℕ) (cs : List held.Cell) → i < n → AreBorrowed (take n cs) → made_at cs i ≡ false
borrowed-at n i [] h p = refl
borrowed-at zero i (c ∷ cs) h p = absurd (omega arith)
borrowed-at (suc n) zero (c ∷ cs) h p = p.0
borrowed-at (suc n) (suc i) (c ∷ cs) h p = borrowed-at n i cs (omega arith) p.1

pub made_at-is : (cs : List held.Cell) (i : ℕ) (d : held.Cell) → i < length cs → made_at cs i ≡ is_made (get_or cs i d).val
made_at-is [] i d h = absurd (omega arith)
made_at-is (c ∷ cs) zero d h = refl
made_at-is (c ∷ cs) (suc i) d h = made_at-is cs i d (omega arith)

pub made-at : (cs : List held.Cell) (i : ℕ) (d : held.Cell) → i < length cs → is_made (get_or cs i d).val ≡ true → made_at cs i ≡ false → ⊥
made-at cs i d h made plain = let same : true ≡ false = sym made ∙ sym (made_at-is cs i d h) ∙ plain in cc

-- the newest one is taken
pub borrowed-taken : (top : ℕ) (old new : List held.Cell) (c : held.Cell) → 1 ≤ top → top ≤ length old → c ≡ get_or old (top - 1) c
    → take (top - 1) new ≡ take (top - 1) old
    → AreBorrowed (take top old) → (is_made c.val ≡ false) × AreBorrowed (take (top - 1) new)
borrowed-taken top old new c some within is left p = (
  ap (λ (d : held.Cell). is_made d.val) is ∙ sym (made_at-is old (top - 1) c (omega arith)) ∙ borrowed-at top (top - 1) old (omega arith) p,
  borrowed-popped (top - 1) top old new (omega arith) left p,
)

-- a write of a value that is none
pub borrowed-set : (n i : ℕ) (cs : List held.Cell) (c : held.Cell) → is_made c.val ≡ false → AreBorrowed (take n cs) → AreBorrowed (take n (set cs i c))
borrowed-set zero i cs c h p = tt
borrowed-set (suc n) i [] c h p = tt
borrowed-set (suc n) zero (d ∷ cs) c h p = (h, p.1)
borrowed-set (suc n) (suc i) (d ∷ cs) c h p = (p.0, borrowed-set n i cs c h p.1)

-- .. after them
borrowed-more : (top : ℕ) (cs : List held.Cell) (c : held.Cell) → is_made c.val ≡ false → AreBorrowed (take top cs)
    → AreBorrowed (take (suc top) (set cs top c))
borrowed-more zero [] c h p = tt
borrowed-more zero (d ∷ cs) c h p = (h, tt)
borrowed-more (suc top) [] c h p = tt
borrowed-more (suc top) (d ∷ cs) c h p = (p.0, borrowed-more top cs c h p.1)

pub borrowed-push : (top : ℕ) (cs : List held.Cell) (c : held.Cell) → is_made c.val ≡ false → AreBorrowed (take top cs)
    → AreBorrowed (take (top + 1) (set cs top c))
borrowed-push top cs c h p = subst (λ n. AreBorrowed (take n (set cs top c))) (sym (add-one top)) (borrowed-more top cs c h p)

pub borrowed-same : (n : ℕ) (old new : List held.Cell) → new ≡ old → AreBorrowed (take n old) → AreBorrowed (take n new)
borrowed-same n old new e p = subst (λ cs. AreBorrowed (take n cs)) (sym e) p

pub ruleset pushes = borrowed-push

pub ruleset takes = borrowed-taken

pub ruleset plains = (borrowed-taken, borrowed-popped, borrowed-set, borrowed-push, borrowed-same)

pub ruleset looks = (borrowed-at, made_at-is, made-at, borrowed-set, borrowed-push)
