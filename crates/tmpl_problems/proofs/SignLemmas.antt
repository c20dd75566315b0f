-- The first place of a text at which something is found.
use Rattle.std.proofs.Common.{arith, ◌≡◌, ◌∙◌, ◌<◌, ℕ, ◌+◌, zero, suc, List, [], Option, Some, None, refl, ap, add-one}
use Rattle.std.specs.Prelude.{slice_get}
use Rattle.std.specs.List.{filter_map, range_with_len, cons_option}

module _ {A : Type 0} (f : ℕ → Option A) where
  none-front : (o : Option A) (rest : List A) → cons_option o rest ≡ [] → (o ≡ None) × (rest ≡ [])
  none-front None rest e = (refl, e)
  none-front (Some y) rest e = absurd (cc)

  none-next : (a i : ℕ) → filter_map f (range_with_len a i) ≡ [] → f (a + i) ≡ None → filter_map f (range_with_len a (suc i)) ≡ []
  none-next a zero e n = ap (λ o. cons_option o []) (ap f (omega arith) ∙ n)
  none-next a (suc i) e n =
      let parts = none-front (f a) (filter_map f (range_with_len (a + 1) i)) e in
      let at : a + 1 + i ≡ a + suc i = omega arith in
      ap (λ o. cons_option o (filter_map f (range_with_len (a + 1) (suc i)))) parts.0
      ∙ none-next (a + 1) i parts.1 (ap f at ∙ n)

  pub none-more : (i : ℕ) → filter_map f (range_with_len 0 i) ≡ [] → f i ≡ None → filter_map f (range_with_len 0 (i + 1)) ≡ []
  none-more i e n = rw add-one (none-next 0 i e (ap f (omega arith) ∙ n))

  found-from : (a i n : ℕ) (y : A) → i < n → filter_map f (range_with_len a i) ≡ [] → f (a + i) ≡ Some y
      → slice_get (filter_map f (range_with_len a n)) 0 ≡ Some y
  found-from a i zero y lt e s = absurd (omega arith)
  found-from a zero (suc n) y lt e s = ap (λ o. slice_get (cons_option o (filter_map f (range_with_len (a + 1) n))) 0) (ap f (omega arith) ∙ s)
  found-from a (suc i) (suc n) y lt e s =
      let parts = none-front (f a) (filter_map f (range_with_len (a + 1) i)) e in
      let at : a + 1 + i ≡ a + suc i = omega arith in
      ap (λ o. slice_get (cons_option o (filter_map f (range_with_len (a + 1) n))) 0) parts.0
      ∙ found-from (a + 1) i n y (omega arith) parts.1 (ap f at ∙ s)

  pub found-first : (i n : ℕ) (y : A) → i < n → filter_map f (range_with_len 0 i) ≡ [] → f i ≡ Some y → slice_get (filter_map f (range_with_len 0 n)) 0 ≡ Some y
  found-first i n y lt e s = found-from 0 i n y lt e (ap f (omega arith) ∙ s)
