-- For the law `runs_safely`: what names stand for is what their shapes say.
use Rattle.std.proofs.Common.{◌≡◌, ℕ, zero, suc, List, Option, Some, None, inl, inr, sym, subst}
use Rattle.tmpl_values.specs.Value.{Value, nothing, null, boolean, number, string, sequence, mapping, Items, no_item, item, Entries, no_entry, entry}
use Rattle.tmpl_shape.specs.Shape.{Shape, never, nothings, nulls, truths, numbers, texts, exactly, anything, list_of, record_of, either, named, Fields, no_field, others, field}
use Rattle.tmpl_shape.specs.Shape.{EachItem, EachEntry, HasShape, IsField, Names, Defs, IsOf, stands_in, stands_for}
use Rattle.tmpl_shape.specs.computed.Means.{Means}

-- what each value of N has, each value of M has
abbrev Below : Names → Names → Type 0
Below N M = (x : List ℕ) (v : Value) → N x v → M x v

items-on : (P Q : Value → Type 0) → ((v : Value) → P v → Q v) → (vs : Items) → EachItem P vs → EachItem Q vs
items-on P Q f no_item h = tt
items-on P Q f (item v vs) h = (f v h.0, items-on P Q f vs h.1)

entries-on : (P Q : List ℕ → Value → Type 0) → ((k : List ℕ) (v : Value) → P k v → Q k v) → (es : Entries) → EachEntry P es → EachEntry Q es
entries-on P Q f no_entry h = tt
entries-on P Q f (entry k v es) h = (f k v h.0, entries-on P Q f es h.1)

module _ (N M : Names) (below : Below N M) where
  mutual
    pub shape-on : (s : Shape) (v : Value) → HasShape N s v → HasShape M s v
    shape-on anything v h = tt
    shape-on nothings nothing h = tt
    shape-on nothings _ h = absurd h
    shape-on nulls null h = tt
    shape-on nulls _ h = absurd h
    shape-on truths (boolean b) h = tt
    shape-on truths _ h = absurd h
    shape-on numbers (number n) h = tt
    shape-on numbers _ h = absurd h
    shape-on texts (string t) h = tt
    shape-on texts _ h = absurd h
    shape-on (exactly c) v h = h
    shape-on (list_of n s) (sequence vs) h = (h.0, items-on (HasShape N s) (HasShape M s) (shape-on s) vs h.1)
    shape-on (list_of n s) _ h = absurd h
    shape-on (record_of fs) (mapping es) h = (h.0, entries-on (IsField N fs) (IsField M fs) (field-on fs) es h.1, h.2)
    shape-on (record_of fs) _ h = absurd h
    shape-on (either a b) v h = elim h [ inl x ↦ inl (shape-on a v x) | inr x ↦ inr (shape-on b v x) ]
    shape-on (named x) v h = below x v h
    shape-on never v h = absurd h

    field-on : (fs : Fields) (k : List ℕ) (v : Value) → IsField N fs k v → IsField M fs k v
    field-on no_field k v h = absurd h
    field-on (others s) k v h = shape-on s v h
    field-on (field name required s fs) k v h =
        elim h [ inl x ↦ inl (x.0, shape-on s v x.1) | inr x ↦ inr (x.0, field-on fs k v x.1) ]

more : ℕ → ℕ → ℕ
more zero n = n
more (suc k) n = suc (more k n)

of-on : (o : Option Shape) (P Q : Shape → Type 0) → ((s : Shape) → P s → Q s) → IsOf o P → IsOf o Q
of-on None P Q f h = h
of-on (Some s) P Q f h = f s h

module _ (defs : Defs) where
  one-more : (n : ℕ) → Below (stands_in defs n) (stands_in defs (suc n))
  one-more zero x v h = absurd h
  one-more (suc n) x v h = of-on (defs x) _ _ (λ s. shape-on (stands_in defs n) (stands_in defs (suc n)) (one-more n) s v) h

  right-below : (k n : ℕ) → Below (stands_in defs n) (stands_in defs (more k n))
  unfolding more
  right-below zero n x v h = h
  right-below (suc k) n x v h = one-more (more k n) x v (right-below k n x v h)

  left-below : (k n : ℕ) → Below (stands_in defs k) (stands_in defs (more k n))
  unfolding more
  left-below zero n x v h = absurd h
  left-below (suc k) n x v h = of-on (defs x) _ _ (λ s. shape-on (stands_in defs k) (stands_in defs (more k n)) (left-below k n) s v) h

  abbrev Bounded : (Names → Type 0) → Type 0
  Bounded P = (n : ℕ) × P (stands_in defs n)

  items-bounded : (s : Shape) → ((v : Value) → HasShape (stands_for defs) s v → Bounded (λ N. HasShape N s v)) → (vs : Items)
      → EachItem (HasShape (stands_for defs) s) vs → Bounded (λ N. EachItem (HasShape N s) vs)
  items-bounded s f no_item h = (0, tt)
  items-bounded s f (item v vs) h =
      let a = f v h.0 in let b = items-bounded s f vs h.1 in (
        more a.0 b.0,
        (
          shape-on (stands_in defs a.0) (stands_in defs (more a.0 b.0)) (left-below a.0 b.0) s v a.1,
          items-on (HasShape (stands_in defs b.0) s) (HasShape (stands_in defs (more a.0 b.0)) s)
              (shape-on (stands_in defs b.0) (stands_in defs (more a.0 b.0)) (right-below a.0 b.0) s) vs b.1,
        ),
      )

  entries-bounded : (fs : Fields) → ((k : List ℕ) (v : Value) → IsField (stands_for defs) fs k v → Bounded (λ N. IsField N fs k v)) → (es : Entries)
      → EachEntry (IsField (stands_for defs) fs) es → Bounded (λ N. EachEntry (IsField N fs) es)
  entries-bounded fs f no_entry h = (0, tt)
  entries-bounded fs f (entry k v es) h =
      let a = f k v h.0 in let b = entries-bounded fs f es h.1 in (
        more a.0 b.0,
        (
          field-on (stands_in defs a.0) (stands_in defs (more a.0 b.0)) (left-below a.0 b.0) fs k v a.1,
          entries-on (IsField (stands_in defs b.0) fs) (IsField (stands_in defs (more a.0 b.0)) fs)
              (field-on (stands_in defs b.0) (stands_in defs (more a.0 b.0)) (right-below a.0 b.0) fs) es b.1,
        ),
      )

  mutual
    bounded : (s : Shape) (v : Value) → HasShape (stands_for defs) s v → Bounded (λ N. HasShape N s v)
    bounded (list_of n s) (sequence vs) h = let b = items-bounded s (bounded s) vs h.1 in (b.0, (h.0, b.1))
    bounded (list_of n s) _ h = absurd h
    bounded (record_of fs) (mapping es) h = let b = entries-bounded fs (field-bounded fs) es h.1 in (b.0, (h.0, b.1, h.2))
    bounded (record_of fs) _ h = absurd h
    bounded (either a b) v h = elim h [ inl x ↦ let p = bounded a v x in (p.0, inl p.1) | inr x ↦ let p = bounded b v x in (p.0, inr p.1) ]
    bounded (named x) v h = h
    bounded anything v h = (0, tt)
    bounded nothings nothing h = (0, tt)
    bounded nothings _ h = absurd h
    bounded nulls null h = (0, tt)
    bounded nulls _ h = absurd h
    bounded truths (boolean b) h = (0, tt)
    bounded truths _ h = absurd h
    bounded numbers (number n) h = (0, tt)
    bounded numbers _ h = absurd h
    bounded texts (string t) h = (0, tt)
    bounded texts _ h = absurd h
    bounded (exactly c) v h = (0, h)
    bounded never v h = absurd h

    field-bounded : (fs : Fields) (k : List ℕ) (v : Value) → IsField (stands_for defs) fs k v → Bounded (λ N. IsField N fs k v)
    field-bounded no_field k v h = absurd h
    field-bounded (others s) k v h = bounded s v h
    field-bounded (field name required s fs) k v h =
        elim h [ inl x ↦ let p = bounded s v x.1 in (p.0, inl (x.0, p.1)) | inr x ↦ let p = field-bounded fs k v x.1 in (p.0, inr (x.0, p.1)) ]

  pub meant : Means defs (stands_for defs)
  meant = record { unfolds = unfolded; folds = λ x s v e h. let b = bounded s v h in (suc b.0, subst (λ (o : Option Shape). IsOf o (λ t. HasShape (stands_in defs b.0) t v)) (sym e) b.1) }
    where
      unfolded : (x : List ℕ) (s : Shape) (v : Value) → defs x ≡ Some s → stands_for defs x v → HasShape (stands_for defs) s v
      unfolded x s v e h = by h.0 h.1
        where
          by : (n : ℕ) → stands_in defs n x v → HasShape (stands_for defs) s v
          by zero k = absurd k
          by (suc n) k = shape-on (stands_in defs n) (stands_for defs) (λ y w j. (n, j)) s v (subst (λ (o : Option Shape). IsOf o (λ t. HasShape (stands_in defs n) t v)) e k)
