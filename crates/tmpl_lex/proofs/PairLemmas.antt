-- For `split_pair`, which skips by `memchr`: where two bytes first follow one another.
use Rattle.std.proofs.Common.{arith, ◌≡◌, ℕ, zero, suc, ◌+◌, ◌≤◌, List, [], ◌∷◌, ◌++◌, Option, Some, None, refl, sym, ap, length, take, drop, nat_eq}
use Rattle.std.proofs.Common.{length-append, length-drop, append_assoc, get_or, ◌<◌}
use Rattle.std.proofs.lemmas.Bool.{and_parts, false_from_ne_true}
use Rattle.std.proofs.Math.Seq.{take-add}
use lib.Seq.{drop-drop}
use Rattle.memchr.specs.Find.{Nowhere, Passes, is_byte}
use Rattle.tmpl_lex.specs.computed.Bytes.{split_pair, with_first, beyond, split_from}
use Rattle.tmpl_lex.proofs.PartLemmas.{split-is}

pub split_pair-short : (x y : ℕ) (bs : List ℕ) (i : ℕ) → length bs ≤ i + 1 → split_pair x y (drop i bs) ≡ None
split_pair-short x y bs i h = go (drop i bs) (omega (arith, length-drop i bs))
  where
    go : (s : List ℕ) → length s ≤ 1 → split_pair x y s ≡ None
    go [] h = refl
    go (a ∷ []) h = refl
    go (a ∷ b ∷ s) h = absurd (omega arith)

-- the bytes on both sides of the pair, and it, are as many as there are
pub split_pair-lengths : (x y : ℕ) (bs before after : List ℕ) → split_pair x y bs ≡ Some (before, after) → length before + length after + 2 ≡ length bs
split_pair-lengths x y bs before after e =
    let split = split-is x y bs (before, after) e in
    omega (arith, ap length split.is, length-append before (x ∷ y ∷ after))

-- ---- from one place of the first byte to the next

beyond-nil : (o : Option (List ℕ × List ℕ)) → beyond [] o ≡ o
beyond-nil o = grind arith

beyond-beyond : (a b : List ℕ) (o : Option (List ℕ × List ℕ)) → beyond a (beyond b o) ≡ beyond (a ++ b) o
beyond-beyond a b None = refl
beyond-beyond a b (Some p) = ap (λ (t : List ℕ). Some (t, p.1)) (sym (append_assoc a b p.0))

with_first-beyond : (a : ℕ) (t : List ℕ) (o : Option (List ℕ × List ℕ)) → with_first a (beyond t o) ≡ beyond (a ∷ t) o
with_first-beyond a t o = grind arith

-- the pair stands at no place before one up to which its first byte does not stand
split_pair-passed : (x y : ℕ) (bs : List ℕ) (k : ℕ) → k ≤ length bs → Nowhere (Passes (is_byte x) bs) 0 k
    → split_pair x y bs ≡ beyond (take k bs) (split_pair x y (drop k bs))
split_pair-passed x y bs zero within none = sym (beyond-nil (split_pair x y bs))
split_pair-passed x y [] (suc k) within none = absurd (omega arith)
split_pair-passed x y (a ∷ []) (suc zero) within none = refl
split_pair-passed x y (a ∷ []) (suc (suc k)) within none = absurd (omega arith)
split_pair-passed x y (a ∷ b ∷ bs) (suc k) within none =
    simp (
      false_from_ne_true (nat_eq a x) (none 0 (omega arith) (omega arith)),
      with_first-beyond,
      split_pair-passed x y (b ∷ bs) k (omega arith) (λ j low high. none (suc j) (omega arith) (omega arith)),
    )

-- so it stands where it stands from there on
pub split_from-passed : (x y : ℕ) (bs : List ℕ) (i k : ℕ) → k ≤ length (drop i bs) → Nowhere (Passes (is_byte x) (drop i bs)) 0 k
    → split_from x y i bs ≡ split_from x y (i + k) bs
split_from-passed x y bs i k within none = simp (split_pair-passed x y (drop i bs) k within none, beyond-beyond, take-add, drop-drop)

-- where the pair does not stand at a place, it stands where it stands from the next place on
split_from-suc : (x y : ℕ) (bs : List ℕ) (i : ℕ) → suc i < length bs → (get_or bs i 0 ≡ x → get_or bs (suc i) 0 ≡ y → ⊥)
    → split_from x y i bs ≡ split_from x y (suc i) bs
split_from-suc x y [] i h differ = absurd (omega arith)
split_from-suc x y (a ∷ []) i h differ = absurd (omega arith)
split_from-suc x y (a ∷ b ∷ bs) zero h differ = grind (arith, and_parts, beyond-nil, with_first-beyond)
split_from-suc x y (a ∷ b ∷ bs) (suc i) h differ = grind (arith, split_from-suc x y (b ∷ bs) i (omega arith) differ, with_first-beyond)

pub split_from-next : (x y : ℕ) (bs : List ℕ) (i : ℕ) → i + 1 < length bs → (get_or bs i 0 ≡ x → get_or bs (i + 1) 0 ≡ y → ⊥)
    → split_from x y i bs ≡ split_from x y (i + 1) bs
split_from-next x y bs i h differ =
    let one : i + 1 ≡ suc i = omega arith in
    rw one (split_from-suc x y bs i (omega arith) (rw one at differ))

pub ruleset pairs = (split_pair-short, split_pair-lengths, split_from-next)

pub ruleset passes = (split_from-passed)
