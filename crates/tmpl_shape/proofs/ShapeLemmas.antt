-- For the law `runs_safely`: what is computed with shapes holds of their values.
use Rattle.std.proofs.Common.{arith, ◌≡◌, ◌∙◌, ◌⊎◌, ℕ, zero, suc, nat_le, Bool, true, false, not, ◌&&◌, ◌||◌, List, Option, Some, None}
use Rattle.std.proofs.Common.{IsSome, inl, inr, ap, refl, sym, subst, if◌then◌else◌}
use Rattle.std.proofs.lemmas.Bool.{false≢true, and_parts, leb-true}
use Rattle.std.proofs.lemmas.Slice.Eq.{bytes_eq-Decides}
use Rattle.std.specs.Option.{option_map_or}
use Rattle.std.specs.Str.{bytes_eq}
use Rattle.tmpl_values.specs.Value.{Value, sequence, mapping, Items, no_item, item}
use Rattle.tmpl_values.specs.Value.{Entries, no_entry, entry}
use Rattle.tmpl_values.specs.Field.{entry_at}
use Rattle.tmpl_shape.specs.Shape.{Shape, never, nothings, nulls, truths, numbers, texts, exactly, anything, list_of, record_of}
use Rattle.tmpl_shape.specs.Shape.{either, named, Names, Fields, no_field, others, field}
use Rattle.tmpl_shape.specs.Shape.{EachItem, EachEntry, HasRequired, HasShape, IsField}
use Rattle.tmpl_shape.specs.computed.Means.{Means}
use Rattle.tmpl_shape.specs.computed.Shapes.{Base, shape_at, is_required, requires_all, is_listed, others_within}
use Rattle.tmpl_shape.specs.computed.Shapes.{fields_along, fields_within, record_within, each_along, has_name, if_more, plain_within, some_along, some_part, within_by}
use Rattle.tmpl_shape.specs.computed.Shapes.{blurred, spread, within, join}
use Rattle.tmpl_shape.proofs.ConstantLemmas.{constant-has, kind-has}

pub or_cases : (a c : Bool) → (a || c) ≡ true → (a ≡ true) ⊎ (c ≡ true)
or_cases true c e = inl refl
or_cases false c e = inr e

pub neither : (a c : Bool) → (a || c) ≡ false → (a ≡ false) × (c ≡ false)
neither true c e = absurd (false≢true (sym e))
neither false c e = (refl, e)

pub same_name : (k n : List ℕ) → bytes_eq k n ≡ true → k ≡ n
same_name k n e = (bytes_eq-Decides k n).0 e

-- a string equals what equals it
pub bytes-turned : (s t : List ℕ) → bytes_eq s t ≡ bytes_eq t s
bytes-turned s t = by (bytes_eq s t) refl (bytes_eq t s) refl
  where
    by : (a : Bool) → bytes_eq s t ≡ a → (b : Bool) → bytes_eq t s ≡ b → a ≡ b
    by true p true q = refl
    by true p false q = sym ((bytes_eq-Decides t s).1 (sym ((bytes_eq-Decides s t).0 p))) ∙ q
    by false p true q = sym p ∙ (bytes_eq-Decides s t).1 (sym ((bytes_eq-Decides t s).0 q))
    by false p false q = refl

pub items-has : (P Q : Value → Type 0) → ((v : Value) → P v → Q v) → (vs : Items) → EachItem P vs → EachItem Q vs
items-has P Q f no_item h = tt
items-has P Q f (item v vs) h = (f v h.0, items-has P Q f vs h.1)

pub entries-has : (P Q : List ℕ → Value → Type 0) → ((k : List ℕ) (v : Value) → P k v → Q k v) → (es : Entries) → EachEntry P es → EachEntry Q es
entries-has P Q f no_entry h = tt
entries-has P Q f (entry k v es) h = (f k v h.0, entries-has P Q f es h.1)

-- ---- fields

pub required-has : (n : List ℕ) (es : Entries) (fs : Fields) → is_required n fs ≡ true → HasRequired fs es → IsSome (entry_at n es)
required-has n es no_field e h = absurd (false≢true e)
required-has n es (others s) e h = absurd (false≢true e)
required-has n es (field m required s fs) e h = by (or_cases (bytes_eq n m && required) (is_required n fs) e) (λ f. required-has n es fs f h.1)
  where
    by : ((bytes_eq n m && required) ≡ true) ⊎ (is_required n fs ≡ true) → (is_required n fs ≡ true → IsSome (entry_at n es)) → IsSome (entry_at n es)
    by (inl x) f = let p = and_parts (bytes_eq n m) required x in subst (λ (k : List ℕ). IsSome (entry_at k es)) (sym (same_name n m p.0)) (h.0 p.1)
    by (inr x) f = f x

all-required : (es : Entries) (fs gs : Fields) → requires_all fs gs ≡ true → HasRequired fs es → HasRequired gs es
all-required es fs no_field e h = tt
all-required es fs (others s) e h = tt
all-required es fs (field n required s gs) e h =
    let p = and_parts (not required || is_required n fs) (requires_all fs gs) e in
    (by required p.0, all-required es fs gs p.1 h)
  where
    by : (r : Bool) → (not r || is_required n fs) ≡ true → r ≡ true → IsSome (entry_at n es)
    by false f is = absurd (false≢true is)
    by true f is = required-has n es fs f h

module _ (N : Names) where
  field-has : (p : Shape → Bool) (n : List ℕ) (v : Value) → ((t : Shape) → p t ≡ true → HasShape N t v) → (gs : Fields)
      → option_map_or p (shape_at n gs) false ≡ true → IsField N gs n v
  field-has p n v f no_field e = absurd (false≢true e)
  field-has p n v f (others t) e = f t e
  field-has p n v f (field m required t gs) e = by (bytes_eq n m) refl e (field-has p n v f gs)
    where
      by : (c : Bool) → bytes_eq n m ≡ c → option_map_or p (if c then Some t else shape_at n gs) false ≡ true
          → (option_map_or p (shape_at n gs) false ≡ true → IsField N gs n v) → IsField N (field m required t gs) n v
      by true is x more = inl (is, f t x)
      by false is x more = inr (is, more x)

  -- a field of none of the names is among the others
  others_within-has : (p : Shape → Bool) (all : Fields) (k : List ℕ) (v : Value) → ((t : Shape) → p t ≡ true → HasShape N t v)
      → is_listed k all ≡ false → (gs : Fields) → others_within p all gs ≡ true → IsField N gs k v
  others_within-has p all k v f new no_field e = absurd (false≢true e)
  others_within-has p all k v f new (others t) e = f t e
  others_within-has p all k v f new (field n required t gs) e =
      let q = and_parts (is_listed n all || p t) (others_within p all gs) e in
      by (bytes_eq k n) refl (or_cases (is_listed n all) (p t) q.0) (others_within-has p all k v f new gs q.1)
    where
      by : (c : Bool) → bytes_eq k n ≡ c → (is_listed n all ≡ true) ⊎ (p t ≡ true) → IsField N gs k v → IsField N (field n required t gs) k v
      by true is (inl x) more = absurd (false≢true (sym new ∙ subst (λ (i : List ℕ). is_listed i all ≡ true) (sym (same_name k n is)) x))
      by true is (inr x) more = inl (is, f t x)
      by false is x more = inr (is, more)

  fields_within-has : (w : Shape → Shape → Bool) → ((s t : Shape) (v : Value) → w s t ≡ true → HasShape N s v → HasShape N t v)
      → (all fs gs : Fields) (k : List ℕ) (v : Value) → is_listed k all ≡ is_listed k fs → fields_within w all fs gs ≡ true
      → IsField N fs k v → IsField N gs k v
  fields_within-has w f all no_field gs k v new e h = absurd h
  fields_within-has w f all (others s) gs k v new e h = others_within-has (w s) all k v (λ t y. f s t v y h) new gs e
  fields_within-has w f all (field n required s fs) gs k v new e h =
      let p = and_parts (option_map_or (w s) (shape_at n gs) false) (fields_within w all fs gs) e in
      elim h [
        | inl x ↦ subst (λ (i : List ℕ). IsField N gs i v) (sym (same_name k n x.0)) (field-has (w s) n v (λ t y. f s t v y x.1) gs p.0)
        | inr x ↦ fields_within-has w f all fs gs k v (new ∙ ap (λ (c : Bool). c || is_listed k fs) x.0) p.1 x.1
      ]

  whole : (w : Shape → Shape → Bool) → ((s t : Shape) (v : Value) → w s t ≡ true → HasShape N s v → HasShape N t v)
      → (fs gs : Fields) → record_within w fs gs ≡ true
      → ((k : List ℕ) (v : Value) → IsField N fs k v → IsField N gs k v) × ((es : Entries) → HasRequired fs es → HasRequired gs es)
  whole w f fs gs e =
      let p = and_parts (fields_within w fs fs gs) (requires_all fs gs) e in
      (λ k v. fields_within-has w f fs fs gs k v refl p.0, λ es. all-required es fs gs p.1)

  -- the same of the fields at the front, as long as both have the same names
  along-has : (w : Shape → Shape → Bool) → ((s t : Shape) (v : Value) → w s t ≡ true → HasShape N s v → HasShape N t v)
      → (fs gs : Fields) → fields_along w fs gs ≡ true
      → ((k : List ℕ) (v : Value) → IsField N fs k v → IsField N gs k v) × ((es : Entries) → HasRequired fs es → HasRequired gs es)
  along-has w f (field n r s fs) (field m q t gs) e = by (bytes_eq n m) refl e (along-has w f fs gs)
    where
      same : (x : List ℕ) (v : Value) → m ≡ n → (r : Bool) → ((k : List ℕ) (u : Value) → IsField N fs k u → IsField N gs k u)
          → (w s t ≡ true) → IsField N (field n r s fs) x v → IsField N (field m q t gs) x v
      same x v is r more y h =
          elim h [
            | inl i ↦ inl (subst (λ (j : List ℕ). bytes_eq x j ≡ true) (sym is) i.0, f s t v y i.1)
            | inr i ↦ inr (subst (λ (j : List ℕ). bytes_eq x j ≡ false) (sym is) i.0, more x v i.1)
          ]

      there : (es : Entries) → n ≡ m → (q r : Bool) → (not q || r) ≡ true → (r ≡ true → IsSome (entry_at n es)) → q ≡ true → IsSome (entry_at m es)
      there es is true true y h i = subst (λ (j : List ℕ). IsSome (entry_at j es)) is (h refl)
      there es is true false y h i = absurd (false≢true y)
      there es is false r y h i = absurd (false≢true i)

      by : (c : Bool) → bytes_eq n m ≡ c
          → (if c then (not q || r) && (w s t && fields_along w fs gs) else record_within w (field n r s fs) (field m q t gs)) ≡ true
          → (fields_along w fs gs ≡ true
          → ((k : List ℕ) (v : Value) → IsField N fs k v → IsField N gs k v) × ((es : Entries) → HasRequired fs es → HasRequired gs es))
          → ((k : List ℕ) (v : Value) → IsField N (field n r s fs) k v → IsField N (field m q t gs) k v)
          × ((es : Entries) → HasRequired (field n r s fs) es → HasRequired (field m q t gs) es)
      by true is y more =
          let p = and_parts (not q || r) (w s t && fields_along w fs gs) y in
          let u = and_parts (w s t) (fields_along w fs gs) p.1 in
          let a = more u.1 in
          let e = same_name n m is in
          (λ k v. same k v (sym e) r a.0 u.0, λ es h. (there es e q r p.0 h.0, a.1 es h.1))
      by false is y more = whole w f (field n r s fs) (field m q t gs) y
  along-has w f fs gs e = whole w f fs gs e

  record_within-has : (w : Shape → Shape → Bool) → ((s t : Shape) (v : Value) → w s t ≡ true → HasShape N s v → HasShape N t v)
      → (fs gs : Fields) (es : Entries) → fields_along w fs gs ≡ true → HasShape N (record_of fs) (mapping es) → HasShape N (record_of gs) (mapping es)
  record_within-has w f fs gs es e h =
      let p = along-has w f fs gs e in (h.0, entries-has (IsField N fs) (IsField N gs) p.0 es h.1, p.1 es h.2)

  -- ---- inclusion

  -- a shape of one kind
  abbrev IsPlain : Shape → Type 0
  IsPlain never = ⊥
  IsPlain anything = ⊥
  IsPlain (either s t) = ⊥
  IsPlain (named x) = ⊥
  IsPlain s = Unit {0}

  plain_within-has : (w : Shape → Shape → Bool) → ((s t : Shape) (v : Value) → w s t ≡ true → HasShape N s v → HasShape N t v)
      → (s t : Shape) (v : Value) → plain_within w s t ≡ true → HasShape N s v → HasShape N t v
  plain_within-has w f nothings nothings v e h = h
  plain_within-has w f nothings _ v e h = absurd (false≢true e)
  plain_within-has w f nulls nulls v e h = h
  plain_within-has w f nulls _ v e h = absurd (false≢true e)
  plain_within-has w f truths truths v e h = h
  plain_within-has w f truths _ v e h = absurd (false≢true e)
  plain_within-has w f numbers numbers v e h = h
  plain_within-has w f numbers _ v e h = absurd (false≢true e)
  plain_within-has w f texts texts v e h = h
  plain_within-has w f texts _ v e h = absurd (false≢true e)
  plain_within-has w f (exactly c) t v e h = subst (HasShape N t) (sym h) (constant-has N t c e)
  plain_within-has w f (list_of n s) (list_of m t) (sequence vs) e h =
      let p = and_parts (nat_le m n) (w s t) e in
      let fewer = leb-true m n p.0 in (omega (arith, h.0), items-has (HasShape N s) (HasShape N t) (λ v. f s t v p.1) vs h.1)
  plain_within-has w f (list_of n s) (list_of m t) _ e h = absurd h
  plain_within-has w f (list_of n s) _ v e h = absurd (false≢true e)
  plain_within-has w f (record_of fs) (record_of gs) (mapping es) e h = record_within-has w f fs gs es e h
  plain_within-has w f (record_of fs) (record_of gs) _ e h = absurd h
  plain_within-has w f (record_of fs) _ v e h = absurd (false≢true e)
  plain_within-has w f _ t v e h = absurd (false≢true e)

  has_name-has : (x : List ℕ) (v : Value) → N x v → (t : Shape) → has_name x t ≡ true → HasShape N t v
  has_name-has x v h (either s t) e =
      elim (or_cases (has_name x s) (has_name x t) e) [ inl y ↦ inl (has_name-has x v h s y) | inr y ↦ inr (has_name-has x v h t y) ]
  has_name-has x v h (named y) e = subst (λ (i : List ℕ). N i v) (same_name x y e) h
  has_name-has x v h _ e = absurd (false≢true e)

module _ (base : Base) (N : Names) (means : Means base.defs N) where
  -- what a name stands for, if that is known
  told : (x : List ℕ) (p : Shape → Bool) (P : Type 0) → ((s : Shape) → base.defs x ≡ Some s → p s ≡ true → P) → option_map_or p (base.defs x) false ≡ true → P
  told x p P f e = by (base.defs x) refl e
    where
      by : (o : Option Shape) → base.defs x ≡ o → option_map_or p o false ≡ true → P
      by None is e = absurd (false≢true e)
      by (Some s) is e = f s is e

  some_along-has : (f p : Shape → Bool) (v : Value) → ((t : Shape) → f t ≡ true → HasShape N t v) → ((t : Shape) → p t ≡ true → HasShape N t v)
      → (t : Shape) → some_along base f p t ≡ true → HasShape N t v
  some_along-has f p v g h (either s t) e =
      elim (or_cases (f s) (some_along base f p t) e) [ inl x ↦ inl (g s x) | inr x ↦ inr (some_along-has f p v g h t x) ]
  some_along-has f p v g h (named x) e = told x f (N x v) (λ s is y. means.folds x s v is (g s y)) e
  some_along-has f p v g h anything e = tt
  some_along-has f p v g h t e = h t e

  some_part-has : (p : Shape → Bool) (v : Value) → ((t : Shape) → p t ≡ true → HasShape N t v) → (n : ℕ) (t : Shape) → some_part base n p t ≡ true → HasShape N t v
  some_part-has p v h zero t e = absurd (false≢true e)
  some_part-has p v h (suc n) t e = some_along-has (some_part base n p) p v (some_part-has p v h n) h t e

  each_along-has : (f : Shape → Bool) (g : List ℕ → Bool) (p : Shape → Bool) (v : Value) (P : Type 0)
      → ((s : Shape) → f s ≡ true → HasShape N s v → P) → ((x : List ℕ) → g x ≡ true → N x v → P) → ((s : Shape) → p s ≡ true → HasShape N s v → P)
      → (s : Shape) → each_along f g p s ≡ true → HasShape N s v → P
  each_along-has f g p v P a b c (either s t) e h =
      let q = and_parts (f s) (each_along f g p t) e in
      elim h [ inl x ↦ a s q.0 x | inr x ↦ each_along-has f g p v P a b c t q.1 x ]
  each_along-has f g p v P a b c never e h = absurd h
  each_along-has f g p v P a b c (named x) e h = b x e h
  each_along-has f g p v P a b c s e h = c s e h

  name-has : (k : ℕ) (w : ℕ → Shape → Bool) (t : Shape) (v : Value) → ((i : ℕ) (s : Shape) → suc i ≡ k → w i s ≡ true → HasShape N s v → HasShape N t v)
      → (x : List ℕ) → (has_name x t || if_more (λ i. option_map_or (w i) (base.defs x) false) k) ≡ true → N x v → HasShape N t v
  name-has zero w t v f x e h =
      elim (or_cases (has_name x t) false e) [ inl y ↦ has_name-has N x v h t y | inr y ↦ absurd (false≢true y) ]
  name-has (suc k) w t v f x e h =
      elim (or_cases (has_name x t) (option_map_or (w k) (base.defs x) false) e) [
        | inl y ↦ has_name-has N x v h t y
        | inr y ↦ told x (w k) (HasShape N t v) (λ s is z. f k s refl z (means.unfolds x s v is h)) y
      ]

  within_by-has : (n k : ℕ) (s t : Shape) (v : Value) → within_by base k n s t ≡ true → HasShape N s v → HasShape N t v
  within_by-has zero k s t v e h = absurd (false≢true e)
  within_by-has (suc n) k s t v e h =
      each_along-has (λ u. within_by base k n u t) (λ x. has_name x t || if_more (λ i. option_map_or (λ u. within_by base i n u t) (base.defs x) false) k)
      (λ u. some_part base 64 (plain_within (within_by base k n) u) t) v (HasShape N t v) (λ u y z. within_by-has n k u t v y z)
      (λ x y z. name-has k (λ i u. within_by base i n u t) t v (λ i u is q r. within_by-has n i u t v q r) x y z)
      (λ u y z. some_part-has (plain_within (within_by base k n) u) v (λ o q. plain_within-has N (within_by base k n) (λ a b w. within_by-has n k a b w) u o v q z) 64 t y)
      s e h

  pub within-has : (s t : Shape) (v : Value) → within base s t ≡ true → HasShape N s v → HasShape N t v
  unfolding within
  within-has s t v e h = within_by-has base.limit base.names s t v e h

  -- ---- alternatives

  pub join-left : (s t : Shape) (v : Value) → HasShape N s v → HasShape N (join base s t) v
  unfolding join
  join-left s t v h = by (within base s t) refl (within base t s)
    where
      by : (p : Bool) → within base s t ≡ p → (q : Bool) → HasShape N (if p then t else if q then s else either s t) v
      by true e q = within-has s t v e h
      by false e true = h
      by false e false = inl h

  pub join-right : (s t : Shape) (v : Value) → HasShape N t v → HasShape N (join base s t) v
  unfolding join
  join-right s t v h = by (within base s t) (within base t s) refl
    where
      by : (p q : Bool) → within base t s ≡ q → HasShape N (if p then t else if q then s else either s t) v
      by true q e = h
      by false true e = within-has t s v e h
      by false false e = inr h

  spread-has : (s kind t : Shape) (v : Value) → HasShape N s v → HasShape N t v → HasShape N (spread base s kind t) v
  spread-has s kind t v h g = by (within base s kind) refl
    where
      by : (b : Bool) → within base s kind ≡ b → HasShape N (if b then kind else t) v
      by true e = within-has s kind v e h
      by false e = g

  pub blurred-has : (s : Shape) (v : Value) → HasShape N s v → HasShape N (blurred base s) v
  blurred-has (exactly c) v h = kind-has N c v h
  blurred-has (either s t) v h = spread-has (either s t) texts (spread base (either s t) numbers (spread base (either s t) truths (either s t))) v h
      (spread-has (either s t) numbers (spread base (either s t) truths (either s t)) v h (spread-has (either s t) truths (either s t) v h h))
  blurred-has s v h = h
