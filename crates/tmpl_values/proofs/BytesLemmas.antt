-- For `is_below` and `Made::part`: that `<` on slices is the order of bytes that `order` has, and that a part of a part is a part.
use Rattle.std.proofs.Common.{◌≡◌, ◌∙◌, ℕ, ◌+◌, ◌-◌, ◌≤◌, Bool, List, ◌∷◌, take, drop, slice_range, Some, refl, sym, ap, arith}
use Rattle.std.specs.Ordering.{nat_cmp, is_lt, is_some_and, MatchOrdering, ordering_then}
use Rattle.std.specs.Cmp.Lexicographic.{slice_cmp, slice_partial_cmp}
use Rattle.std.specs.declared.cmp.Ordering.{Ordering}
use Rattle.std.specs.declared.cmp.Ordering.TheVariants.{Less, Equal, Greater}
use Rattle.std.proofs.lemmas.Cmp.{same_from_slice_cmp_tested}
use Rattle.std.proofs.lemmas.List.{drop-take, drop-drop, take-take}

abbrev below : List ℕ → List ℕ → Bool
below xs ys = is_lt (slice_cmp nat_cmp xs ys)

slice_cmp-more : (x y : ℕ) (xs ys : List ℕ) (o : Ordering) → o ≡ nat_cmp x y
    → MatchOrdering o (below (x ∷ xs) (y ∷ ys) ≡ is_lt Less) (below (x ∷ xs) (y ∷ ys) ≡ below xs ys) (below (x ∷ xs) (y ∷ ys) ≡ is_lt Greater)
slice_cmp-more x y xs ys Less e = ap (λ o. is_lt (ordering_then o (slice_cmp nat_cmp xs ys))) (sym e)
slice_cmp-more x y xs ys Equal e = ap (λ o. is_lt (ordering_then o (slice_cmp nat_cmp xs ys))) (sym e)
slice_cmp-more x y xs ys Greater e = ap (λ o. is_lt (ordering_then o (slice_cmp nat_cmp xs ys))) (sym e)

pub slice_partial_cmp-is_lt : (xs ys : List ℕ) (r : Bool) → r ≡ is_some_and is_lt (slice_partial_cmp (λ x y. Some (nat_cmp x y)) xs ys) → r ≡ below xs ys
slice_partial_cmp-is_lt = same_from_slice_cmp_tested nat_cmp is_lt below refl (λ _ _. refl) (λ _ _. refl) slice_cmp-more

pub ruleset bytes_order = (slice_partial_cmp-is_lt)

-- a part of a part is a part
pub range-range : {A : Type 0} (xs : List A) (a b i j : ℕ) → i ≤ j → a + j ≤ b → slice_range xs (a + i) (a + j) ≡ slice_range (slice_range xs a b) i j
range-range xs a b i j h l =
    let wide : b - a ≡ i + (b - a - i) = omega arith in
    let narrow : j - i ≤ b - a - i = omega arith in
    let same : a + j - (a + i) ≡ j - i = omega arith in
    ap (λ n. take n (drop (a + i) xs)) same ∙
    sym (
    ap (λ n. take (j - i) (drop i (take n (drop a xs)))) wide ∙
    ap (take (j - i)) (drop-take i (b - a - i) (drop a xs)) ∙
    take-take (j - i) (b - a - i) (drop i (drop a xs)) narrow ∙
    ap (take (j - i)) (drop-drop i a xs)
    )
