-- For code that takes steps into shapes: what is computed where a step is left.
use Rattle.std.proofs.Common.{◌≡◌, ◌∙◌, ◌+◌, ◌-◌, ◌&&◌, ◌||◌, not, ℕ, zero, suc, Bool, true, false, List, Option, Some, None, refl, sym, subst, arith}
use Rattle.std.specs.Str.{bytes_eq}
use Rattle.tmpl_shape.specs.Shape.{Shape, never, either, named, Fields, no_field, others, field}
use Rattle.tmpl_shape.proofs.ViewLemmas.{count}
use Rattle.tmpl_shape.specs.computed.Shapes.{Base, first_in, onto, with_field, with_first, is_listed, is_required, requires_all, each_along, fields_along, record_within, plain_within, some_along, some_part, within_by, kind_step, may_be, gone_step, null_gone_by}
use Rattle.tmpl_shape.specs.computed.Shapes.{Test, refine_step, refine_by, field_step, field_shape_by, Key, index_step, index_shape_by, part_step, part_shape_by}
use Rattle.tmpl_shape.specs.computed.Shapes.{visit_step, visit_by}
use Rattle.tmpl_shape.specs.declared.kind.Kind.{Kind}
use Rattle.tmpl_grammar.specs.Tree.{Binding}
use Rattle.tmpl_shape.specs.declared.field.AbsentField.{AbsentField}
use Rattle.tmpl_shape.specs.computed.View.{name_within}

-- what holds of a number and one more holds where that is not zero
by_step : (P : ℕ → ℕ → Type 0) → ((n : ℕ) → P (suc n) n) → (n : ℕ) → (n ≡ 0 → ⊥) → P n (n - 1)
by_step P f zero e = absurd (e refl)
by_step P f (suc n) e = let same : suc n - 1 ≡ n = omega arith in subst (λ i. P (suc n) i) (sym same) (f n)

pub kind-next : (base : Base) (n : ℕ) (k : Kind) (s : Shape) → (n ≡ 0 → ⊥) → may_be base n k s ≡ kind_step base (may_be base (n - 1) k) k s
kind-next base n k s e = by_step (λ i j. may_be base i k s ≡ kind_step base (may_be base j k) k s) (λ i. refl) n e

pub gone-next : (base : Base) (n : ℕ) (s : Shape) → (n ≡ 0 → ⊥) → null_gone_by base n s ≡ gone_step base (null_gone_by base (n - 1)) s
gone-next base n s e = by_step (λ i j. null_gone_by base i s ≡ gone_step base (null_gone_by base j) s) (λ i. refl) n e

pub refine-next : (base : Base) (test : Test) (n : ℕ) (ns : List (List ℕ)) (s : Shape) → (n ≡ 0 → ⊥)
    → refine_by base test n ns s ≡ refine_step base test (refine_by base test (n - 1)) ns s
refine-next base test n ns s e =
    by_step (λ i j. refine_by base test i ns s ≡ refine_step base test (refine_by base test j) ns s) (λ i. refl) n e

pub field-next : (base : Base) (n : ℕ) (a : AbsentField) (x : List ℕ) (s : Shape) → (n ≡ 0 → ⊥)
    → field_shape_by base n a x s ≡ field_step base (field_shape_by base (n - 1) a x) a x s
field-next base n a x s e = by_step (λ i j. field_shape_by base i a x s ≡ field_step base (field_shape_by base j a x) a x s) (λ i. refl) n e

pub index-next : (base : Base) (n : ℕ) (x : Key) (s : Shape) → (n ≡ 0 → ⊥)
    → index_shape_by base n x s ≡ index_step base (index_shape_by base (n - 1) x) x s
index-next base n x s e = by_step (λ i j. index_shape_by base i x s ≡ index_step base (index_shape_by base j x) x s) (λ i. refl) n e

pub visit-next : (base : Base) (n : ℕ) (c : Binding) (s : Shape) → (n ≡ 0 → ⊥) → visit_by base n c s ≡ visit_step base (visit_by base (n - 1) c) c s
visit-next base n c s e = by_step (λ i j. visit_by base i c s ≡ visit_step base (visit_by base j c) c s) (λ i. refl) n e

pub slice-next : (base : Base) (n i : ℕ) (to : Option ℕ) (s : Shape) → (n ≡ 0 → ⊥)
    → part_shape_by base n i to s ≡ part_step base (part_shape_by base (n - 1) i to) i to s
slice-next base n i to s e = by_step (λ p q. part_shape_by base p i to s ≡ part_step base (part_shape_by base q i to) i to s) (λ p. refl) n e

pub ruleset steps = (kind-next, gone-next, refine-next, field-next, index-next, slice-next, visit-next)

-- ---- alternatives one by one

-- how many there are before the last
abbrev pub spine : Shape → ℕ
spine (either s t) = suc (spine t)
spine s = 0

-- how many there are, but for the last
abbrev pub branches : Shape → ℕ
branches (either s t) = suc (branches s + branches t)
branches s = 0

module _ (base : Base) (k : ℕ) where
  -- a shape of one kind, or any value
  abbrev pub IsLeaf : Shape → Type 0
  IsLeaf never = ⊥
  IsLeaf (either s t) = ⊥
  IsLeaf (named x) = ⊥
  IsLeaf s = Unit {0}

  -- each alternative of the second is within the first, where this many steps are left
  abbrev pub within_along : ℕ → Shape → Shape → Bool
  within_along n t s =
      each_along (λ u. within_by base k n u t) (λ x. name_within base k n x t) (λ u. some_part base 64 (plain_within (within_by base k n) u) t) s

  pub within-next : (n : ℕ) (s t : Shape) → (n ≡ 0 → ⊥) → within_by base k n s t ≡ within_along (n - 1) t s
  within-next n s t e = by_step (λ i j. within_by base k i s t ≡ within_along j t s) (λ i. refl) n e

  pub within-stops : (n : ℕ) (s u a b t : Shape) (r : Bool) → (n ≡ 0 → ⊥) → within_along (n - 1) t s ≡ within_along (n - 1) t u → u ≡ either a b
      → within_by base k (n - 1) a t ≡ false → r ≡ false → r ≡ within_by base k n s t
  within-stops n s u a b t r e kept is apart at = at ∙ sym (within-next n s t e ∙ kept ∙ rw is (rw apart refl))

  pub within-more : (m : ℕ) (s u a b t : Shape) → within_along m t s ≡ within_along m t u → u ≡ either a b → within_by base k m a t ≡ true
      → within_along m t s ≡ within_along m t b
  within-more m s u a b t kept is holds = kept ∙ rw is (rw holds refl)

  pub within-ends : (n : ℕ) (s u t : Shape) (r : Bool) → (n ≡ 0 → ⊥) → within_along (n - 1) t s ≡ within_along (n - 1) t u → r ≡ within_along (n - 1) t u
      → r ≡ within_by base k n s t
  within-ends n s u t r e kept at = at ∙ sym (within-next n s t e ∙ kept)

  pub leaf-along : (m : ℕ) (s t : Shape) → IsLeaf s → within_along m t s ≡ some_part base 64 (plain_within (within_by base k m) s) t
  leaf-along m never t h = absurd h
  leaf-along m (either s u) t h = absurd h
  leaf-along m (named x) t h = absurd h
  leaf-along m _ t h = refl

module _ (base : Base) (p : Shape → Bool) where
  pub part-next : (n : ℕ) (t : Shape) → (n ≡ 0 → ⊥) → some_part base n p t ≡ some_along base (some_part base (n - 1) p) p t
  part-next n t e = by_step (λ i j. some_part base i p t ≡ some_along base (some_part base j p) p t) (λ i. refl) n e

  pub part-found : (n : ℕ) (t u a b : Shape) (r : Bool) → (n ≡ 0 → ⊥)
      → some_along base (some_part base (n - 1) p) p t ≡ some_along base (some_part base (n - 1) p) p u → u ≡ either a b
      → some_part base (n - 1) p a ≡ true → r ≡ true → r ≡ some_part base n p t
  part-found n t u a b r e kept is holds at = at ∙ sym (part-next n t e ∙ kept ∙ rw is (rw holds refl))

  pub part-more : (f : Shape → Bool) (t u a b : Shape) → some_along base f p t ≡ some_along base f p u → u ≡ either a b → f a ≡ false
      → some_along base f p t ≡ some_along base f p b
  part-more f t u a b kept is apart = kept ∙ rw is (rw apart refl)

  pub part-ends : (n : ℕ) (t u : Shape) (r : Bool) → (n ≡ 0 → ⊥)
      → some_along base (some_part base (n - 1) p) p t ≡ some_along base (some_part base (n - 1) p) p u
      → r ≡ some_along base (some_part base (n - 1) p) p u → r ≡ some_part base n p t
  part-ends n t u r e kept at = at ∙ sym (part-next n t e ∙ kept)

-- ---- fields one by one

abbrev pub IsEnd : Fields → Type 0
IsEnd no_field = Unit {0}
IsEnd (others s) = Unit {0}
IsEnd (field n r s fs) = ⊥

-- the first field and those after it, if there is one
abbrev First : Type 0
First = List ℕ × Bool × Shape × Fields

onto-some : (fs gs : Fields) (p : First) → first_in fs ≡ Some p → onto fs gs ≡ onto p.3 (field p.0 p.1 p.2 gs)
onto-some no_field gs p e = cc
onto-some (others t) gs p e = cc
onto-some (field m q t fs) gs p e =
    let same : ◌≡◌ {A = First} (m, q, t, fs) p = cc in subst (λ (x : First). onto fs (field m q t gs) ≡ onto x.3 (field x.0 x.1 x.2 gs)) same refl

count-some : (fs : Fields) (p : First) → first_in fs ≡ Some p → count fs ≡ suc (count p.3)
count-some no_field p e = cc
count-some (others t) p e = cc
count-some (field m q t fs) p e = let same : ◌≡◌ {A = First} (m, q, t, fs) p = cc in subst (λ (x : First). suc (count fs) ≡ suc (count x.3)) same refl

pub onto-first : (fs gs us : Fields) (n : List ℕ) (r : Bool) (s : Shape) → first_in fs ≡ Some (n, r, s, us) → onto fs gs ≡ onto us (field n r s gs)
onto-first fs gs us n r s e = onto-some fs gs (n, r, s, us) e

pub count-first : (fs us : Fields) (n : List ℕ) (r : Bool) (s : Shape) → first_in fs ≡ Some (n, r, s, us) → count fs ≡ suc (count us)
count-first fs us n r s e = count-some fs (n, r, s, us) e

pub onto-last : (fs gs : Fields) → first_in fs ≡ None → onto fs gs ≡ gs
onto-last no_field gs e = refl
onto-last (others t) gs e = refl
onto-last (field m q t fs) gs e = cc

pub ruleset firsts = (onto-first, count-first, onto-last)

pub with-ends : (n : List ℕ) (t : Shape) (fs : Fields) → IsEnd fs → with_field n t fs ≡ with_first n t fs
with-ends n t no_field h = refl
with-ends n t (others s) h = refl
with-ends n t (field m r s fs) h = absurd h

pub with-found : (n m : List ℕ) (r : Bool) (s t : Shape) (fs us : Fields) → fs ≡ field m r s us → bytes_eq n m ≡ true → with_field n t fs ≡ with_first n t fs
with-found n m r s t fs us is same = rw is (rw same refl)

pub none-required : (n : List ℕ) (fs : Fields) → IsEnd fs → is_required n fs ≡ false
none-required n no_field h = refl
none-required n (others s) h = refl
none-required n (field m r s fs) h = absurd h

pub none-listed : (n : List ℕ) (fs : Fields) → IsEnd fs → is_listed n fs ≡ false
none-listed n no_field h = refl
none-listed n (others s) h = refl
none-listed n (field m r s fs) h = absurd h

pub none-asked : (fs gs : Fields) → IsEnd gs → requires_all fs gs ≡ true
none-asked fs no_field h = refl
none-asked fs (others s) h = refl
none-asked fs (field m r s gs) h = absurd h

module _ (w : Shape → Shape → Bool) where
  pub first-ends : (fs gs : Fields) (r : Bool) → IsEnd fs → r ≡ record_within w fs gs → r ≡ fields_along w fs gs
  first-ends no_field gs r h e = e
  first-ends (others s) gs r h e = e
  first-ends (field n q s fs) gs r h e = absurd h

  pub second-ends : (fs gs : Fields) (r : Bool) → IsEnd gs → r ≡ record_within w fs gs → r ≡ fields_along w fs gs
  second-ends no_field gs r h e = e
  second-ends (others s) gs r h e = e
  second-ends (field n q s fs) no_field r h e = e
  second-ends (field n q s fs) (others t) r h e = e
  second-ends (field n q s fs) (field m p t gs) r h e = absurd h

  pub names-agree : (fs gs : Fields) (n m : List ℕ) (q p : Bool) (s t : Shape) (us vs : Fields) → fs ≡ field n q s us → gs ≡ field m p t vs
      → bytes_eq n m ≡ true → (not p || q) ≡ true → fields_along w fs gs ≡ (w s t && fields_along w us vs)
  names-agree fs gs n m q p s t us vs is at same kept = rw (is, at) (rw same (rw kept refl))

  pub names-differ : (fs gs : Fields) (n m : List ℕ) (q p : Bool) (s t : Shape) (us vs : Fields) (r : Bool) → fs ≡ field n q s us → gs ≡ field m p t vs
      → bytes_eq n m ≡ false → r ≡ record_within w fs gs → r ≡ fields_along w fs gs
  names-differ fs gs n m q p s t us vs r is at apart e = e ∙ (rw (is, at) (rw apart refl))
