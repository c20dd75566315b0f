-- For code that meets shapes: what is computed for what a loop or a last arm takes; and that it has the values of both.
use Rattle.std.proofs.Common.{rules, ◌≡◌, ◌∙◌, ◌-◌, ℕ, zero, suc, Bool, true, false, Option, Some, None, List, Box, Global, inl, inr, refl, ap, sym, subst, arith, if◌then◌else◌}
use Rattle.std.proofs.Math.Nat.{max-le}
use Rattle.std.specs.Option.{option_map_or}
use Rattle.std.specs.Str.{bytes_eq}
use Rattle.std.proofs.lemmas.Bool.{false≢true}
use Rattle.tmpl_values.specs.Value.{Value, nothing, null, boolean, number, string, sequence, mapping, Items, no_item, item, Entries, no_entry, entry}
use Rattle.tmpl_shape.specs.Shape as spec
use Rattle.tmpl_shape.specs.Shape.{Shape, Names, Fields, no_field, others, field, EachItem, EachEntry, HasRequired, HasShape, IsField, value_of}
use Rattle.tmpl_shape.specs.View.{shape_of}
use Rattle.tmpl_shape.specs.computed.Meet.{each_part, is_first_open, is_open, leaf_within, meet, meet_forms, meet_leaf, meet_one, rest_shape, with_met, with_unlisted}
use Rattle.tmpl_shape.specs.computed.Meet.{meet_fields, meet_rest, or_shape}
use Rattle.tmpl_shape.specs.computed.Shapes.{has_constant, is_listed, is_never, is_required, is_same, shape_at}
use Rattle.tmpl_shape.proofs.ShapeLemmas.{neither, or_cases, required-has, same_name}
use Rattle.tmpl_shape.specs.declared.constant.Constant.{Constant}
use Rattle.tmpl_shape.specs.declared.constant.Constant.TheVariants as constant
use Rattle.tmpl_shape.proofs.ConstantLemmas.{is-same}
use Rattle.tmpl_shape.specs.declared.shape.Shape as held
use Rattle.tmpl_shape.specs.declared.shape.Shape.{the_lemmas}
use Rattle.tmpl_shape.specs.declared.shape.Fields as held_fields
use Rattle.tmpl_shape.proofs.StepLemmas.{IsEnd}
use Rattle.tmpl_shape.proofs.LeafLemmas.{box, NotEither, NotExactly, NotList, NotNamed, NotRecord}
use Rattle.tmpl_shape.proofs.ViewLemmas.{list_seen, record_seen, either_seen, named_seen, never_seen, nothings_seen, nulls_seen, truths_seen, numbers_seen, texts_seen, exactly_seen, anything_seen}

-- a step is left
pub meet-next : (n : ℕ) (s t : spec.Shape) → (n ≡ 0 → ⊥)
    → meet n s t ≡ each_part (λ a. meet (n - 1) a t) (λ a. each_part (meet (n - 1) a) (meet_one (meet (n - 1)) a) t) s
meet-next zero s t e = absurd (e refl)
meet-next (suc n) s t e = let same : suc n - 1 ≡ n = omega arith in rw same refl

-- the last alternative
pub each-ends : (f g : spec.Shape → spec.Shape) (s : held.Shape) → NotEither s → each_part f g (shape_of s) ≡ g (shape_of s)
each-ends f g (held.Either' p s q t) a = absurd (a (box p s) (box q t) refl)
each-ends f g (held.Named y) a = rw (named_seen y) refl
each-ends f g (held.List' n p s) a = rw (list_seen n (box p s)) refl
each-ends f g (held.Record fs) a = rw (record_seen fs) refl
each-ends f g (held.Exactly x) a = rw (exactly_seen x) refl
each-ends f g held.Never a = rw never_seen refl
each-ends f g held.Nothings a = rw nothings_seen refl
each-ends f g held.Nulls a = rw nulls_seen refl
each-ends f g held.Truths a = rw truths_seen refl
each-ends f g held.Numbers a = rw numbers_seen refl
each-ends f g held.Texts a = rw texts_seen refl
each-ends f g held.Anything a = rw anything_seen refl

-- ---- a last arm

pub not-open : (s : held.Shape) → (s ≡ held.Anything → ⊥) → NotNamed s → is_open (shape_of s) ≡ false
not-open held.Anything a b = absurd (a refl)
not-open (held.Named y) a b = absurd (b y refl)
not-open (held.Either' p s q t) a b = ap is_open (either_seen (box p s) (box q t))
not-open (held.List' n p s) a b = ap is_open (list_seen n (box p s))
not-open (held.Record fs) a b = ap is_open (record_seen fs)
not-open (held.Exactly x) a b = ap is_open (exactly_seen x)
not-open _ a b = search (rules, the_lemmas)

pub not-first : (s : held.Shape) (t : spec.Shape) → (s ≡ held.Anything → ⊥) → NotNamed s → is_first_open (shape_of s) t ≡ false
not-first held.Anything t a b = absurd (a refl)
not-first (held.Named y) t a b = absurd (b y refl)
not-first (held.Either' p s q u) t a b = rw (either_seen (box p s) (box q u)) refl
not-first (held.List' n p s) t a b = rw (list_seen n (box p s)) refl
not-first (held.Record fs) t a b = rw (record_seen fs) refl
not-first (held.Exactly x) t a b = rw (exactly_seen x) refl
not-first held.Never t a b = rw never_seen refl
not-first held.Nothings t a b = rw nothings_seen refl
not-first held.Nulls t a b = rw nulls_seen refl
not-first held.Truths t a b = rw truths_seen refl
not-first held.Numbers t a b = rw numbers_seen refl
not-first held.Texts t a b = rw texts_seen refl

pub not-leaf : (s : held.Shape) (t : spec.Shape) → (s ≡ held.Nothings → ⊥) → (s ≡ held.Nulls → ⊥) → (s ≡ held.Truths → ⊥) → (s ≡ held.Numbers → ⊥) → (s ≡ held.Texts → ⊥)
    → NotExactly s → leaf_within (shape_of s) t ≡ false
not-leaf held.Nothings t a b c d e f = absurd (a refl)
not-leaf held.Nulls t a b c d e f = absurd (b refl)
not-leaf held.Truths t a b c d e f = absurd (c refl)
not-leaf held.Numbers t a b c d e f = absurd (d refl)
not-leaf held.Texts t a b c d e f = absurd (e refl)
not-leaf (held.Exactly x) t a b c d e f = absurd (f x refl)
not-leaf (held.Either' p s q u) t a b c d e f = rw (either_seen (box p s) (box q u)) refl
not-leaf (held.List' n p s) t a b c d e f = rw (list_seen n (box p s)) refl
not-leaf (held.Record fs) t a b c d e f = rw (record_seen fs) refl
not-leaf (held.Named y) t a b c d e f = rw (named_seen y) refl
not-leaf held.Never t a b c d e f = rw never_seen refl
not-leaf held.Anything t a b c d e f = rw anything_seen refl

pub unlisted-ends : (fs gs rest : spec.Fields) → IsEnd gs → with_unlisted fs gs rest ≡ rest
unlisted-ends fs spec.no_field rest h = refl
unlisted-ends fs (spec.others t) rest h = refl
unlisted-ends fs (spec.field n r t gs) rest h = absurd h

pub met-ends : (m : spec.Shape → spec.Shape → spec.Shape) (gs fs rest : spec.Fields) → IsEnd fs → with_met m gs fs rest ≡ rest
met-ends m gs spec.no_field rest h = refl
met-ends m gs (spec.others t) rest h = refl
met-ends m gs (spec.field n r t fs) rest h = absurd h

-- ---- lists and maps

module _ (m : spec.Shape → spec.Shape → spec.Shape) (s t : held.Shape) where
  abbrev MeetsAsLeaf : Type 0
  MeetsAsLeaf = meet_forms m (shape_of s) (shape_of t) ≡ meet_leaf (shape_of s) (shape_of t)

pub list-alone : (m : spec.Shape → spec.Shape → spec.Shape) (n : ℕ) (x : Box held.Shape Global) (s t : held.Shape) → s ≡ held.List n x → NotList t → MeetsAsLeaf m s t
list-alone m n x s (held.List' k p t) is a = absurd (a k (box p t) refl)
list-alone m n x s (held.Either' p t q u) is a = rw (is, list_seen n x, either_seen (box p t) (box q u)) refl
list-alone m n x s (held.Named y) is a = rw (is, list_seen n x, named_seen y) refl
list-alone m n x s (held.Record fs) is a = rw (is, list_seen n x, record_seen fs) refl
list-alone m n x s (held.Exactly t) is a = rw (is, list_seen n x, exactly_seen t) refl
list-alone m n x s held.Never is a = rw (is, list_seen n x, never_seen) refl
list-alone m n x s held.Nothings is a = rw (is, list_seen n x, nothings_seen) refl
list-alone m n x s held.Nulls is a = rw (is, list_seen n x, nulls_seen) refl
list-alone m n x s held.Truths is a = rw (is, list_seen n x, truths_seen) refl
list-alone m n x s held.Numbers is a = rw (is, list_seen n x, numbers_seen) refl
list-alone m n x s held.Texts is a = rw (is, list_seen n x, texts_seen) refl
list-alone m n x s held.Anything is a = rw (is, list_seen n x, anything_seen) refl

pub record-alone : (m : spec.Shape → spec.Shape → spec.Shape) (fs : held_fields.Fields) (s t : held.Shape) → s ≡ held.Record fs → NotRecord t → MeetsAsLeaf m s t
record-alone m fs s (held.Record gs) is a = absurd (a gs refl)
record-alone m fs s (held.Either' p t q u) is a = rw (is, record_seen fs, either_seen (box p t) (box q u)) refl
record-alone m fs s (held.Named y) is a = rw (is, record_seen fs, named_seen y) refl
record-alone m fs s (held.List' n p t) is a = rw (is, record_seen fs, list_seen n (box p t)) refl
record-alone m fs s (held.Exactly t) is a = rw (is, record_seen fs, exactly_seen t) refl
record-alone m fs s held.Never is a = rw (is, record_seen fs, never_seen) refl
record-alone m fs s held.Nothings is a = rw (is, record_seen fs, nothings_seen) refl
record-alone m fs s held.Nulls is a = rw (is, record_seen fs, nulls_seen) refl
record-alone m fs s held.Truths is a = rw (is, record_seen fs, truths_seen) refl
record-alone m fs s held.Numbers is a = rw (is, record_seen fs, numbers_seen) refl
record-alone m fs s held.Texts is a = rw (is, record_seen fs, texts_seen) refl
record-alone m fs s held.Anything is a = rw (is, record_seen fs, anything_seen) refl

pub no-form : (m : spec.Shape → spec.Shape → spec.Shape) (s t : held.Shape) → NotList s → NotRecord s → MeetsAsLeaf m s t
no-form m (held.List' n p s) t a b = absurd (a n (box p s) refl)
no-form m (held.Record fs) t a b = absurd (b fs refl)
no-form m (held.Either' p s q u) t a b = rw (either_seen (box p s) (box q u)) refl
no-form m (held.Named y) t a b = rw (named_seen y) refl
no-form m (held.Exactly x) t a b = rw (exactly_seen x) refl
no-form m held.Never t a b = rw never_seen refl
no-form m held.Nothings t a b = rw nothings_seen refl
no-form m held.Nulls t a b = rw nulls_seen refl
no-form m held.Truths t a b = rw truths_seen refl
no-form m held.Numbers t a b = rw numbers_seen refl
no-form m held.Texts t a b = rw texts_seen refl
no-form m held.Anything t a b = rw anything_seen refl

pub ruleset meets = (not-open, not-first, not-leaf, list-alone, record-alone, no-form)

-- ---- the values

module _ (N : Names) where
  pub never-has : (s : Shape) (v : Value) → is_never s ≡ true → HasShape N s v → ⊥
  never-has spec.never v e h = h
  never-has s v e h = false≢true e

  pub or-one : (s t : Shape) (v : Value) → HasShape N s v → HasShape N (or_shape s t) v
  or-one s t v h = by (is_never s) refl (is_never t)
    where
      by : (a : Bool) → is_never s ≡ a → (b : Bool) → HasShape N (if a then t else if b then s else spec.either s t) v
      by true e b = absurd (never-has s v e h)
      by false e true = h
      by false e false = inl h

  pub or-other : (s t : Shape) (v : Value) → HasShape N t v → HasShape N (or_shape s t) v
  or-other s t v h = by (is_never s) (is_never t) refl
    where
      by : (a b : Bool) → is_never t ≡ b → HasShape N (if a then t else if b then s else spec.either s t) v
      by true b e = h
      by false true e = absurd (never-has t v e h)
      by false false e = inr h

  -- it has no alternatives
  abbrev IsOne : Shape → Type 0
  IsOne (spec.either s t) = ⊥
  IsOne s = Unit {0}

  each-has : (f g : Shape → Shape) (s : Shape) (v : Value) → HasShape N s v → ((a : Shape) → HasShape N a v → HasShape N (f a) v)
      → ((a : Shape) → IsOne a → HasShape N a v → HasShape N (g a) v) → HasShape N (each_part f g s) v
  each-has f g (spec.either s t) v h p q = elim h [
    | inl x ↦ or-one (f s) (each_part f g t) v (p s x)
    | inr x ↦ or-other (f s) (each_part f g t) v (each-has f g t v x p q)
  ]
  each-has f g s v h p q = q s tt h

  -- it is of one kind, and has the value
  abbrev Holds : Shape → Value → Type 0
  Holds (spec.either s t) v = ⊥
  Holds spec.anything v = ⊥
  Holds (spec.named x) v = ⊥
  Holds s v = HasShape N s v

  holds : (s : Shape) (v : Value) → IsOne s → is_open s ≡ false → HasShape N s v → Holds s v
  holds (spec.either s t) v one e h = absurd one
  holds spec.anything v one e h = absurd (false≢true (sym e))
  holds (spec.named x) v one e h = absurd (false≢true (sym e))
  holds s v one e h = h

  -- where the second is of one kind, so is the first
  first-closed : (s t : Shape) → is_first_open s t ≡ false → is_open t ≡ false → is_open s ≡ false
  first-closed spec.anything t e o = absurd (false≢true (sym e))
  first-closed (spec.named x) spec.anything e o = absurd (false≢true (sym o))
  first-closed (spec.named x) t e o = absurd (false≢true (sym e))
  first-closed s t e o = refl

  -- ---- fields

  at-field : (gs : Fields) (k : List ℕ) (v : Value) → IsField N gs k v → (t : Shape) × (shape_at k gs ≡ Some t) × HasShape N t v
  at-field no_field k v h = absurd h
  at-field (others s) k v h = (s, refl, h)
  at-field (field n r s fs) k v h = elim h [
    | inl x ↦ (s, rw x.0 refl, x.1)
    | inr x ↦ let p = at-field fs k v x.1 in (p.0, rw x.0 p.1, p.2)
  ]

  rest-has : (fs : Fields) (k : List ℕ) (v : Value) → is_listed k fs ≡ false → IsField N fs k v → (s : Shape) × (rest_shape fs ≡ Some s) × HasShape N s v
  rest-has no_field k v e h = absurd h
  rest-has (others s) k v e h = (s, refl, h)
  rest-has (field n r s fs) k v e h =
      let p = neither (bytes_eq k n) (is_listed k fs) e in
      elim h [ inl x ↦ absurd (false≢true (sym p.0 ∙ x.0)) | inr x ↦ rest-has fs k v p.1 x.1 ]

  unlisted-field : (fs gs rest : Fields) (k : List ℕ) (v : Value) → is_listed k fs ≡ false → IsField N gs k v → (is_listed k gs ≡ false → IsField N rest k v)
      → IsField N (with_unlisted fs gs rest) k v
  unlisted-field fs no_field rest k v e h f = absurd h
  unlisted-field fs (others t) rest k v e h f = f refl
  unlisted-field fs (field n r t gs) rest k v e h f =
      by (is_listed n fs) refl (λ apart is. unlisted-field fs gs rest k v e is (λ none. f (rw (apart, none) refl)))
    where
      by : (c : Bool) → is_listed n fs ≡ c → (bytes_eq k n ≡ false → IsField N gs k v → IsField N (with_unlisted fs gs rest) k v)
          → IsField N (if c then with_unlisted fs gs rest else field n r t (with_unlisted fs gs rest)) k v
      by true is later = elim h [
        | inl x ↦ absurd (false≢true (sym e ∙ subst (λ (i : List ℕ). is_listed i fs ≡ true) (sym (same_name k n x.0)) is))
        | inr x ↦ later x.0 x.1
      ]
      by false is later = elim h [ inl x ↦ inl x | inr x ↦ inr (x.0, later x.0 x.1) ]

  unlisted-required : (fs gs rest : Fields) (es : Entries) → HasRequired gs es → HasRequired rest es → HasRequired (with_unlisted fs gs rest) es
  unlisted-required fs no_field rest es h k = k
  unlisted-required fs (others t) rest es h k = k
  unlisted-required fs (field n r t gs) rest es h k = by (is_listed n fs) (unlisted-required fs gs rest es h.1 k)
    where
      by : (c : Bool) → HasRequired (with_unlisted fs gs rest) es → HasRequired (if c then with_unlisted fs gs rest else field n r t (with_unlisted fs gs rest)) es
      by true later = later
      by false later = (h.0, later)

  module _ (m : Shape → Shape → Shape) (ok : (s t : Shape) (v : Value) → HasShape N s v → HasShape N t v → HasShape N (m s t) v) where
    met-field : (gs fs rest : Fields) (k : List ℕ) (v : Value) → IsField N fs k v → IsField N gs k v → (is_listed k fs ≡ false → IsField N rest k v)
        → IsField N (with_met m gs fs rest) k v
    met-field gs no_field rest k v h g f = absurd h
    met-field gs (others s) rest k v h g f = f refl
    met-field gs (field n r s fs) rest k v h g f = elim h [
      | inl x ↦ inl (x.0, both x.0 x.1)
      | inr x ↦ inr (x.0, met-field gs fs rest k v x.1 g (λ none. f (rw (x.0, none) refl)))
    ]
      where
        both : bytes_eq k n ≡ true → HasShape N s v → HasShape N (option_map_or (m s) (shape_at n gs) spec.never) v
        both e x =
            let p = at-field gs k v g in
            let at : shape_at n gs ≡ Some p.0 = ap (λ (i : List ℕ). shape_at i gs) (sym (same_name k n e)) ∙ p.1 in
            rw at (ok s p.0 v x p.2)

    met-required : (gs fs rest : Fields) (es : Entries) → HasRequired gs es → HasRequired fs es → HasRequired rest es → HasRequired (with_met m gs fs rest) es
    met-required gs no_field rest es g h k = k
    met-required gs (others s) rest es g h k = k
    met-required gs (field n r s fs) rest es g h k = (
      λ e. elim (or_cases r (is_required n gs) e) [ inl x ↦ h.0 x | inr x ↦ required-has n es gs x g ],
      met-required gs fs rest es g h.1 k,
    )

    rest-field : (fs gs : Fields) (k : List ℕ) (v : Value) → IsField N fs k v → IsField N gs k v → is_listed k fs ≡ false → is_listed k gs ≡ false
        → IsField N (meet_rest m (rest_shape fs) (rest_shape gs)) k v
    rest-field fs gs k v h g a b =
        let p = rest-has fs k v a h in
        let q = rest-has gs k v b g in
        rw (p.1, q.1) (ok p.0 q.0 v p.2 q.2)

    rest-required : (o p : Option Shape) (es : Entries) → HasRequired (meet_rest m o p) es
    rest-required (Some s) (Some t) es = tt
    rest-required None p es = tt
    rest-required (Some s) None es = tt

    both-fields : (fs gs : Fields) (es : Entries) → EachEntry (IsField N fs) es → EachEntry (IsField N gs) es → EachEntry (IsField N (meet_fields m fs gs)) es
    both-fields fs gs no_entry h g = tt
    both-fields fs gs (entry k v es) h g = (
      met-field gs fs (with_unlisted fs gs (meet_rest m (rest_shape fs) (rest_shape gs))) k v h.0 g.0
          (λ a. unlisted-field fs gs (meet_rest m (rest_shape fs) (rest_shape gs)) k v a g.0 (rest-field fs gs k v h.0 g.0 a)),
      both-fields fs gs es h.1 g.1,
    )

    both-items : (s t : Shape) (vs : Items) → EachItem (HasShape N s) vs → EachItem (HasShape N t) vs → EachItem (HasShape N (m s t)) vs
    both-items s t no_item h k = tt
    both-items s t (item v vs) h k = (ok s t v h.0 k.0, both-items s t vs h.1 k.1)

    -- ---- shapes of one kind

    -- where one of the two is a constant
    held-constant : (t : Shape) (c : Constant) → Holds t (value_of c) → has_constant t c ≡ true
    held-constant spec.truths (constant.Bool b) h = refl
    held-constant spec.numbers (constant.Number n) h = refl
    held-constant spec.texts (constant.Text s) h = refl
    held-constant (spec.exactly d) c h = subst (λ (v : Value). is_same (value_of c) v ≡ true) h (is-same c)
    held-constant t (constant.Bool b) h = absurd h
    held-constant t (constant.Number n) h = absurd h
    held-constant t (constant.Text s) h = absurd h

    constant-met : (s : Shape) (d : Constant) (v : Value) → leaf_within s (spec.exactly d) ≡ false → Holds s v → v ≡ value_of d
        → HasShape N (meet_leaf s (spec.exactly d)) v
    constant-met s d v e h k = rw (e, held-constant s d (subst (Holds s) k h)) k

    forms-has : (s t : Shape) (v : Value) → Holds s v → Holds t v → HasShape N (meet_forms m s t) v
    forms-has (spec.exactly c) t v h k = rw (held-constant t c (subst (Holds t) h k)) h
    forms-has spec.nothings (spec.exactly d) v h k = constant-met spec.nothings d v refl h k
    forms-has spec.nulls (spec.exactly d) v h k = constant-met spec.nulls d v refl h k
    forms-has spec.truths (spec.exactly d) v h k = constant-met spec.truths d v refl h k
    forms-has spec.numbers (spec.exactly d) v h k = constant-met spec.numbers d v refl h k
    forms-has spec.texts (spec.exactly d) v h k = constant-met spec.texts d v refl h k
    forms-has (spec.list_of n s) (spec.exactly d) v h k = constant-met (spec.list_of n s) d v refl h k
    forms-has (spec.record_of fs) (spec.exactly d) v h k = constant-met (spec.record_of fs) d v refl h k
    forms-has spec.nothings spec.nothings v h k = h
    forms-has spec.nothings t nothing h k = absurd k
    forms-has spec.nothings t v h k = absurd h
    forms-has spec.nulls spec.nulls v h k = h
    forms-has spec.nulls t null h k = absurd k
    forms-has spec.nulls t v h k = absurd h
    forms-has spec.truths spec.truths v h k = h
    forms-has spec.truths t (boolean b) h k = absurd k
    forms-has spec.truths t v h k = absurd h
    forms-has spec.numbers spec.numbers v h k = h
    forms-has spec.numbers t (number n) h k = absurd k
    forms-has spec.numbers t v h k = absurd h
    forms-has spec.texts spec.texts v h k = h
    forms-has spec.texts t (string z) h k = absurd k
    forms-has spec.texts t v h k = absurd h
    forms-has (spec.list_of n s) (spec.list_of i t) (sequence vs) h k = (max-le h.0 k.0, both-items s t vs h.1 k.1)
    forms-has (spec.list_of n s) t (sequence vs) h k = absurd k
    forms-has (spec.list_of n s) t v h k = absurd h
    forms-has (spec.record_of fs) (spec.record_of gs) (mapping es) h k = (
      h.0,
      both-fields fs gs es h.1 k.1,
      met-required gs fs (with_unlisted fs gs (meet_rest m (rest_shape fs) (rest_shape gs))) es k.2 h.2
          (unlisted-required fs gs (meet_rest m (rest_shape fs) (rest_shape gs)) es k.2 (rest-required (rest_shape fs) (rest_shape gs) es)),
    )
    forms-has (spec.record_of fs) t (mapping es) h k = absurd k
    forms-has (spec.record_of fs) t v h k = absurd h
    forms-has s t v h k = absurd h

    one-has : (s t : Shape) (v : Value) → IsOne s → IsOne t → HasShape N s v → HasShape N t v → HasShape N (meet_one m s t) v
    one-has s t v a b h k = by (is_first_open s t) refl (is_open t) refl
      where
        by : (c : Bool) → is_first_open s t ≡ c → (d : Bool) → is_open t ≡ d → HasShape N (if c then t else if d then s else meet_forms m s t) v
        by true e d o = k
        by false e true o = h
        by false e false o = forms-has s t v (holds s v a (first-closed s t e o) h) (holds t v b o k)

  pub meet-has : (n : ℕ) (s t : Shape) (v : Value) → HasShape N s v → HasShape N t v → HasShape N (meet n s t) v
  meet-has zero s t v h k = h
  meet-has (suc n) s t v h k =
      each-has (λ a. meet n a t) (λ a. each_part (meet n a) (meet_one (meet n) a) t) s v h (λ a x. meet-has n a t v x k)
      (λ a one x. each-has (meet n a) (meet_one (meet n) a) t v k (λ b y. meet-has n a b v x y)
      (λ b other y. one-has (meet n) (meet-has n) a b v one other x y))
