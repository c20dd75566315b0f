-- For `Table::get`: a search by halves finds a key, since the keys rise.
use Rattle.std.proofs.Common.{◌≡◌, ◌∙◌, ℕ, zero, suc, ◌<◌, ◌≤◌, false, List, [], ◌∷◌, length, get_or}
use Rattle.std.proofs.Common.{Some, None, Err, refl, sym, ap, subst, arith, ◌⊎◌, inl, inr}
use Rattle.std.specs.declared.cmp.Ordering.{Ordering}
use Rattle.std.specs.Ordering.{nat_cmp, is_eq, ordering_index, ordering_reverse}
use Rattle.std.specs.Cmp.Lexicographic.{slice_cmp}
use Rattle.std.specs.List.Sorted.{IsNonDecreasingBy, IsBinarySearchResult}
use Rattle.std.specs.declared.cmp.Ordering.TheVariants.{Less, Equal, Greater}
use Rattle.std.proofs.Math.Nat.{eq-or-lt_of_le}
use Rattle.std.proofs.lemmas.Bool.{cond-true, cond-false}
use Rattle.std.proofs.lemmas.Cmp.{nat_list_cmp_total, alike_right}
use Rattle.std.proofs.lemmas.Map.Text.{is_eq-slice_cmp}
use Rattle.tmpl_values.specs.declared.data.Data.{Data}
use Rattle.tmpl_values.specs.Value.{IsBelow, AreRising}
use Rattle.tmpl_values.specs.row.View.{value_of, entries_of}
use Rattle.tmpl_values.specs.Field.{entry_at}

abbrev Entry : Type 0
Entry = List ℕ × Data

abbrev order : List ℕ → List ℕ → Ordering
order = slice_cmp nat_cmp

-- a key below the first is below all
IsBelow-all : (k : List ℕ) (es : List Entry) (i : ℕ) (d : Entry) → IsBelow k (entries_of es) → AreRising (entries_of es) → i < length es
    → order k (get_or es i d).0 ≡ Less
IsBelow-all k [] i d b r h = absurd (omega arith)
IsBelow-all k (e ∷ es) zero d b r h = b
IsBelow-all k (e ∷ es) (suc i) d b r h = nat_list_cmp_total.trans k e.0 _ b (IsBelow-all e.0 es i d r.0 r.1 (omega arith))

AreRising-places : (es : List Entry) (i j : ℕ) (d : Entry) → AreRising (entries_of es) → i < j → j < length es
    → order (get_or es i d).0 (get_or es j d).0 ≡ Less
AreRising-places [] i j d r l h = absurd (omega arith)
AreRising-places (e ∷ es) i zero d r l h = absurd (omega arith)
AreRising-places (e ∷ es) zero (suc j) d r l h = IsBelow-all e.0 es j d r.0 r.1 (omega arith)
AreRising-places (e ∷ es) (suc i) (suc j) d r l h = AreRising-places es i j d r.1 (omega arith) (omega arith)

-- the value of a key that is there
pub entry_at-there : (key : List ℕ) (es : List Entry) (i : ℕ) (d : Entry) → AreRising (entries_of es) → i < length es → order (get_or es i d).0 key ≡ Equal
    → entry_at key (entries_of es) ≡ Some (value_of (get_or es i d).1)
entry_at-there key [] i d r h same = absurd (omega arith)
entry_at-there key (e ∷ es) zero d r h same = cond-true _ _ _ (sym (is_eq-slice_cmp e.0 key) ∙ ap is_eq same)
entry_at-there key (e ∷ es) (suc i) d r h same =
    let below : order e.0 key ≡ Less = sym (alike_right nat_list_cmp_total (get_or es i d).0 key e.0 same) ∙ IsBelow-all e.0 es i d r.0 r.1 (omega arith) in
    cond-false _ _ _ (sym (is_eq-slice_cmp e.0 key) ∙ ap is_eq below) ∙ entry_at-there key es i d r.1 (omega arith) same

is_eq-differs : (o : Ordering) → (o ≡ Equal → ⊥) → is_eq o ≡ false
is_eq-differs Less h = refl
is_eq-differs Equal h = absurd (h refl)
is_eq-differs Greater h = refl

-- a key that is nowhere
pub entry_at-nowhere : (key : List ℕ) (es : List Entry) → ((i : ℕ) (d : Entry) → i < length es → order (get_or es i d).0 key ≡ Equal → ⊥)
    → entry_at key (entries_of es) ≡ None
entry_at-nowhere key [] h = refl
entry_at-nowhere key (e ∷ es) h =
    cond-false _ _ _ (sym (is_eq-slice_cmp e.0 key) ∙ is_eq-differs _ (h 0 e (omega arith))) ∙
    entry_at-nowhere key es (λ i d l. h (suc i) d (omega arith))

ordering_index-below : (x y k : List ℕ) (o : Ordering) → order x k ≡ o → order x y ≡ Less → ordering_index o ≤ ordering_index (order y k)
ordering_index-below x y k Less is h = omega arith
ordering_index-below x y k Equal is h =
    let back : order y k ≡ Greater = nat_list_cmp_total.antisymm y k ∙ ap ordering_reverse (sym (nat_list_cmp_total.congr x k y is) ∙ h) in
    subst (λ o. 1 ≤ ordering_index o) (sym back) (omega arith)
ordering_index-below x y k Greater is h =
    let up : order k x ≡ Less = nat_list_cmp_total.antisymm k x ∙ ap ordering_reverse is in
    let back : order y k ≡ Greater = nat_list_cmp_total.antisymm y k ∙ ap ordering_reverse (nat_list_cmp_total.trans k x y up h) in
    subst (λ o. 2 ≤ ordering_index o) (sym back) (omega arith)

ordering_index-rising : (key : List ℕ) (es : List Entry) (i j : ℕ) (d : Entry) → AreRising (entries_of es) → j < length es → (i ≡ j) ⊎ (i < j)
    → ordering_index (order (get_or es i d).0 key) ≤ ordering_index (order (get_or es j d).0 key)
ordering_index-rising key es i j d r h (inr l) = ordering_index-below _ _ key _ refl (AreRising-places es i j d r l h)
ordering_index-rising key es i j d r h (inl e) = subst (λ k. ordering_index (order (get_or es i d).0 key) ≤ ordering_index
    (order (get_or es k d).0 key)) e (omega arith)

IsNonDecreasingBy-order : (key : List ℕ) (es : List Entry) → AreRising (entries_of es) → IsNonDecreasingBy (λ e. ordering_index (order e.0 key)) es
IsNonDecreasingBy-order key es r = λ i j d l h. ordering_index-rising key es i j d r h (eq-or-lt_of_le l)

Ordering-apart : (o : Ordering) (i j : ℕ) → ((i < j) → o ≡ Less) → ((j ≤ i) → o ≡ Greater) → (i < j) ⊎ (j ≤ i) → o ≡ Equal → ⊥
Ordering-apart o i j low high (inl l) e = let is : o ≡ Less = low l in cc
Ordering-apart o i j low high (inr l) e = let is : o ≡ Greater = high l in cc

below_or_not : (i j : ℕ) → (i < j) ⊎ (j ≤ i)
below_or_not i zero = inr (omega arith)
below_or_not zero (suc j) = inl (omega arith)
below_or_not (suc i) (suc j) = elim (below_or_not i j) [ inl l ↦ inl (omega arith) | inr l ↦ inr (omega arith) ]

-- a key that the search does not find
pub entry_at-not_found : (key : List ℕ) (es : List Entry) (p : ℕ) → AreRising (entries_of es) → IsBinarySearchResult (λ e. order e.0 key) es (Err p)
    → entry_at key (entries_of es) ≡ None
entry_at-not_found key es p r search_found =
    let parts = search_found (IsNonDecreasingBy-order key es r) in
    entry_at-nowhere key es (λ i d h. Ordering-apart _ i p (λ l. parts.0 i d (omega arith) l) (λ l. parts.1 i d l h) (below_or_not i p))
