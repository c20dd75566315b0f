-- For code that leaves the shapes of one kind to a last arm: what is computed for what that arm takes.
use Rattle.std.proofs.Common.{rules, ◌≡◌, ℕ, Bool, false, List, Box, Global, refl, ap, sym, subst}
use Rattle.tmpl_grammar.specs.View.{binding_of}
use Rattle.tmpl_grammar.specs.declared.tree.Binding as held_binding
use Rattle.tmpl_grammar.specs.declared.tree.Binding.TheVariants as variants
use Rattle.tmpl_grammar.specs.declared.tree.Pair as held_pair
use Rattle.tmpl_shape.specs.Shape as spec
use Rattle.tmpl_shape.specs.View.{fields_of, shape_of}
use Rattle.tmpl_shape.specs.computed.Shapes.{Base, Test, blurred, gathered, gone_step, has_name, is_never, is_of_kind, kind_step, number_visit, plain_within, refine_step, some_along, has_constant, visit}
use Rattle.tmpl_shape.specs.declared.constant.Constant.{Constant}
use Rattle.tmpl_shape.specs.declared.kind.Kind.{Kind}
use Rattle.tmpl_shape.specs.declared.kind.Kind.TheVariants.{Many}
use Rattle.tmpl_shape.specs.declared.shape.Shape as held
use Rattle.tmpl_shape.specs.declared.shape.Shape.{the_lemmas}
use Rattle.tmpl_shape.specs.declared.shape.Fields as held_fields
use Rattle.tmpl_shape.specs.declared.shape.Field as held_field
use Rattle.tmpl_shape.proofs.StepLemmas.{IsLeaf, IsEnd}
use Rattle.tmpl_shape.proofs.ViewLemmas.{list_seen, record_seen, either_seen, named_seen, never_seen, nothings_seen, nulls_seen, truths_seen, numbers_seen, texts_seen, exactly_seen, anything_seen, closed_seen, others_seen}

abbrev pub box : Box (Unit {0}) Global → held.Shape → Box held.Shape Global
box p s = record { ptr = p.ptr; alloc = p.alloc; value = s }

module _ (s : held.Shape) where
  abbrev pub NotList : Type 0
  NotList = (n : ℕ) (x : Box held.Shape Global) → s ≡ held.List n x → ⊥

  abbrev pub NotExactly : Type 0
  NotExactly = (t : Constant) → s ≡ held.Exactly t → ⊥

  abbrev pub NotRecord : Type 0
  NotRecord = (fs : held_fields.Fields) → s ≡ held.Record fs → ⊥

  abbrev pub NotEither : Type 0
  NotEither = (x y : Box held.Shape Global) → s ≡ held.Either x y → ⊥

  abbrev pub NotNamed : Type 0
  NotNamed = (x : List ℕ) → s ≡ held.Named x → ⊥

-- ---- kinds

pub kind-leaf : (base : Base) (p : spec.Shape → Bool) (k : Kind) (s : held.Shape) → (s ≡ held.Never → ⊥) → (s ≡ held.Anything → ⊥) → NotEither s → NotNamed s
    → NotExactly s → kind_step base p k (shape_of s) ≡ is_of_kind k (shape_of s)
kind-leaf base p k held.Never a b c d x = absurd (a refl)
kind-leaf base p k held.Anything a b c d x = absurd (b refl)
kind-leaf base p k (held.Either' q s y t) a b c d x = absurd (c (box q s) (box y t) refl)
kind-leaf base p k (held.Named y) a b c d x = absurd (d y refl)
kind-leaf base p k (held.List' n q s) a b c d x = rw (list_seen n (box q s)) refl
kind-leaf base p k (held.Record fs) a b c d x = rw (record_seen fs) refl
kind-leaf base p k (held.Exactly t) a b c d x = absurd (x t refl)
kind-leaf base p k _ a b c d x = search (rules, the_lemmas)

pub not-many : (s : held.Shape) → NotList s → NotRecord s → is_of_kind Many (shape_of s) ≡ false
not-many (held.Either' x s y t) a b = ap (is_of_kind Many) (either_seen (box x s) (box y t))
not-many (held.Named x) a b = ap (is_of_kind Many) (named_seen x)
not-many (held.Exactly t) a b = ap (is_of_kind Many) (exactly_seen t)
not-many (held.List' n x s) a b = absurd (a n (box x s) refl)
not-many (held.Record fs) a b = absurd (b fs refl)
not-many _ a b = search (rules, the_lemmas)

pub ruleset kinds = (kind-leaf, not-many)

-- ---- inclusion

pub no-name : (x : List ℕ) (s : held.Shape) → NotEither s → NotNamed s → has_name x (shape_of s) ≡ false
no-name x (held.Either' p s q t) a b = absurd (a (box p s) (box q t) refl)
no-name x (held.Named y) a b = absurd (b y refl)
no-name x (held.List' n p s) a b = ap (has_name x) (list_seen n (box p s))
no-name x (held.Record fs) a b = ap (has_name x) (record_seen fs)
no-name x (held.Exactly t) a b = ap (has_name x) (exactly_seen t)
no-name x _ a b = search (rules, the_lemmas)

pub is-leaf : (base : Base) (k : ℕ) (s : held.Shape) → (s ≡ held.Never → ⊥) → NotEither s → NotNamed s → IsLeaf base k (shape_of s)
is-leaf base k held.Never a b c = absurd (a refl)
is-leaf base k (held.Either' p s q t) a b c = absurd (b (box p s) (box q t) refl)
is-leaf base k (held.Named y) a b c = absurd (c y refl)
is-leaf base k (held.List' n p s) a b c = subst (IsLeaf base k) (sym (list_seen n (box p s))) tt
is-leaf base k (held.Record fs) a b c = subst (IsLeaf base k) (sym (record_seen fs)) tt
is-leaf base k (held.Exactly t) a b c = subst (IsLeaf base k) (sym (exactly_seen t)) tt
is-leaf base k held.Nothings a b c = subst (IsLeaf base k) (sym nothings_seen) tt
is-leaf base k held.Nulls a b c = subst (IsLeaf base k) (sym nulls_seen) tt
is-leaf base k held.Truths a b c = subst (IsLeaf base k) (sym truths_seen) tt
is-leaf base k held.Numbers a b c = subst (IsLeaf base k) (sym numbers_seen) tt
is-leaf base k held.Texts a b c = subst (IsLeaf base k) (sym texts_seen) tt
is-leaf base k held.Anything a b c = subst (IsLeaf base k) (sym anything_seen) tt

pub part-leaf : (base : Base) (f p : spec.Shape → Bool) (s : held.Shape) → (s ≡ held.Anything → ⊥) → NotEither s → NotNamed s
    → some_along base f p (shape_of s) ≡ p (shape_of s)
part-leaf base f p held.Anything a b c = absurd (a refl)
part-leaf base f p (held.Either' x s y t) a b c = absurd (b (box x s) (box y t) refl)
part-leaf base f p (held.Named y) a b c = absurd (c y refl)
part-leaf base f p (held.List' m x s) a b c = rw (list_seen m (box x s)) refl
part-leaf base f p (held.Record fs) a b c = rw (record_seen fs) refl
part-leaf base f p (held.Exactly t) a b c = rw (exactly_seen t) refl
part-leaf base f p held.Never a b c = rw never_seen refl
part-leaf base f p held.Nothings a b c = rw nothings_seen refl
part-leaf base f p held.Nulls a b c = rw nulls_seen refl
part-leaf base f p held.Truths a b c = rw truths_seen refl
part-leaf base f p held.Numbers a b c = rw numbers_seen refl
part-leaf base f p held.Texts a b c = rw texts_seen refl

pub list-plain : (w : spec.Shape → spec.Shape → Bool) (n : ℕ) (x : Box held.Shape Global) (s t : held.Shape) → s ≡ held.List n x → NotList t
    → plain_within w (shape_of s) (shape_of t) ≡ false
list-plain w n x s (held.List' m p t) is a = absurd (a m (box p t) refl)
list-plain w n x s (held.Either' p t q u) is a = rw (is, list_seen n x, either_seen (box p t) (box q u)) refl
list-plain w n x s (held.Named y) is a = rw (is, list_seen n x, named_seen y) refl
list-plain w n x s (held.Record fs) is a = rw (is, list_seen n x, record_seen fs) refl
list-plain w n x s (held.Exactly t) is a = rw (is, list_seen n x, exactly_seen t) refl
list-plain w n x s _ is a = rw (is, list_seen n x) (search (rules, the_lemmas))

pub record-plain : (w : spec.Shape → spec.Shape → Bool) (fs : held_fields.Fields) (s t : held.Shape) → s ≡ held.Record fs → NotRecord t
    → plain_within w (shape_of s) (shape_of t) ≡ false
record-plain w fs s (held.Record gs) is a = absurd (a gs refl)
record-plain w fs s (held.Either' p t q u) is a = rw (is, record_seen fs, either_seen (box p t) (box q u)) refl
record-plain w fs s (held.Named y) is a = rw (is, record_seen fs, named_seen y) refl
record-plain w fs s (held.List' n p t) is a = rw (is, record_seen fs, list_seen n (box p t)) refl
record-plain w fs s (held.Exactly t) is a = rw (is, record_seen fs, exactly_seen t) refl
record-plain w fs s _ is a = rw (is, record_seen fs) (search (rules, the_lemmas))

pub not-plain : (w : spec.Shape → spec.Shape → Bool) (s t : held.Shape) → (s ≡ held.Nothings → ⊥) → (s ≡ held.Nulls → ⊥) → (s ≡ held.Truths → ⊥) → (s ≡ held.Numbers → ⊥)
    → (s ≡ held.Texts → ⊥) → NotExactly s → NotList s → NotRecord s → plain_within w (shape_of s) (shape_of t) ≡ false
not-plain w held.Nothings t a b c d e x f g = absurd (a refl)
not-plain w held.Nulls t a b c d e x f g = absurd (b refl)
not-plain w held.Truths t a b c d e x f g = absurd (c refl)
not-plain w held.Numbers t a b c d e x f g = absurd (d refl)
not-plain w held.Texts t a b c d e x f g = absurd (e refl)
not-plain w (held.Exactly y) t a b c d e x f g = absurd (x y refl)
not-plain w (held.List' n p s) t a b c d e x f g = absurd (f n (box p s) refl)
not-plain w (held.Record fs) t a b c d e x f g = absurd (g fs refl)
not-plain w (held.Either' p s q u) t a b c d e x f g = rw (either_seen (box p s) (box q u)) refl
not-plain w (held.Named y) t a b c d e x f g = rw (named_seen y) refl
not-plain w held.Never t a b c d e x f g = rw never_seen refl
not-plain w held.Anything t a b c d e x f g = rw anything_seen refl

pub no-constant : (x : Constant) (t : held.Shape) → NotExactly t → (t ≡ held.Truths → ⊥) → (t ≡ held.Numbers → ⊥) → (t ≡ held.Texts → ⊥)
    → has_constant (shape_of t) x ≡ false
no-constant x held.Truths a b c d = absurd (b refl)
no-constant x held.Numbers a b c d = absurd (c refl)
no-constant x held.Texts a b c d = absurd (d refl)
no-constant x (held.Exactly t) a b c d = absurd (a t refl)
no-constant x (held.Either' p s q u) a b c d = ap (λ s. has_constant s x) (either_seen (box p s) (box q u))
no-constant x (held.Named y) a b c d = ap (λ s. has_constant s x) (named_seen y)
no-constant x (held.List' n p s) a b c d = ap (λ s. has_constant s x) (list_seen n (box p s))
no-constant x (held.Record fs) a b c d = ap (λ s. has_constant s x) (record_seen fs)
no-constant x _ a b c d = search (rules, the_lemmas)

pub ruleset plain = (list-plain, record-plain, not-plain, no-constant)

pub is-end : (fs : held_fields.Fields) → ((f : Box held_field.Field Global) → fs ≡ held_fields.Field f → ⊥) → IsEnd (fields_of fs)
is-end held_fields.Closed a = subst IsEnd (sym closed_seen) tt
is-end (held_fields.Others' p s) a = subst IsEnd (sym (others_seen (box p s))) tt
is-end (held_fields.Field' p n r s fs) a =
    absurd (a (record { ptr = p.ptr; alloc = p.alloc; value = record { name = n; required = r; shape = s; rest = fs } }) refl)

-- ---- what shapes become

pub gathered-ends : (f : spec.Shape → spec.Shape → spec.Shape) (s : held.Shape) (t : spec.Shape) → NotEither s → gathered f (shape_of s) t ≡ t
gathered-ends f (held.Either' p s q u) t a = absurd (a (box p s) (box q u) refl)
gathered-ends f (held.Named y) t a = rw named_seen refl
gathered-ends f (held.List' n p s) t a = rw (list_seen n (box p s)) refl
gathered-ends f (held.Record fs) t a = rw (record_seen fs) refl
gathered-ends f (held.Exactly x) t a = rw (exactly_seen x) refl
gathered-ends f held.Never t a = rw never_seen refl
gathered-ends f held.Nothings t a = rw nothings_seen refl
gathered-ends f held.Nulls t a = rw nulls_seen refl
gathered-ends f held.Truths t a = rw truths_seen refl
gathered-ends f held.Numbers t a = rw numbers_seen refl
gathered-ends f held.Texts t a = rw texts_seen refl
gathered-ends f held.Anything t a = rw anything_seen refl

pub gone-leaf : (base : Base) (f : spec.Shape → spec.Shape) (s : held.Shape) → (s ≡ held.Nulls → ⊥) → NotEither s → NotNamed s
    → gone_step base f (shape_of s) ≡ shape_of s
gone-leaf base f held.Nulls a b c = absurd (a refl)
gone-leaf base f (held.Either' p s q t) a b c = absurd (b (box p s) (box q t) refl)
gone-leaf base f (held.Named y) a b c = absurd (c y refl)
gone-leaf base f (held.List' n p s) a b c = rw (list_seen n (box p s)) refl
gone-leaf base f (held.Record fs) a b c = rw (record_seen fs) refl
gone-leaf base f (held.Exactly t) a b c = rw (exactly_seen t) refl
gone-leaf base f _ a b c = search (rules, the_lemmas)

pub refine-leaf : (base : Base) (test : Test) (f : List (List ℕ) → spec.Shape → spec.Shape) (ns : List (List ℕ)) (s : held.Shape) → (s ≡ held.Nothings → ⊥)
    → (s ≡ held.Nulls → ⊥) → NotExactly s → NotList s → NotEither s → NotNamed s → NotRecord s → refine_step base test f ns (shape_of s) ≡ shape_of s
refine-leaf base test f ns held.Nothings a b x l c d e = absurd (a refl)
refine-leaf base test f ns held.Nulls a b x l c d e = absurd (b refl)
refine-leaf base test f ns (held.Exactly t) a b x l c d e = absurd (x t refl)
refine-leaf base test f ns (held.Either' p s q t) a b x l c d e = absurd (c (box p s) (box q t) refl)
refine-leaf base test f ns (held.Named y) a b x l c d e = absurd (d y refl)
refine-leaf base test f ns (held.Record fs) a b x l c d e = absurd (e fs refl)
refine-leaf base test f ns (held.List' n p s) a b x l c d e = absurd (l n (box p s) refl)
refine-leaf base test f ns _ a b x l c d e = search (rules, the_lemmas)

pub blur-leaf : (base : Base) (s : held.Shape) → NotExactly s → NotEither s → blurred base (shape_of s) ≡ shape_of s
blur-leaf base (held.Exactly t) a b = absurd (a t refl)
blur-leaf base (held.Either' p s q t) a b = absurd (b (box p s) (box q t) refl)
blur-leaf base (held.Named y) a b = rw (named_seen y) refl
blur-leaf base (held.List' n p s) a b = rw (list_seen n (box p s)) refl
blur-leaf base (held.Record fs) a b = rw (record_seen fs) refl
blur-leaf base _ a b = search (rules, the_lemmas)

pub some-value : (s : held.Shape) → (s ≡ held.Never → ⊥) → is_never (shape_of s) ≡ false
some-value held.Never a = absurd (a refl)
some-value (held.Exactly t) a = ap is_never (exactly_seen t)
some-value (held.Either' p s q t) a = ap is_never (either_seen (box p s) (box q t))
some-value (held.Named y) a = ap is_never (named_seen y)
some-value (held.List' n p s) a = ap is_never (list_seen n (box p s))
some-value (held.Record fs) a = ap is_never (record_seen fs)
some-value _ a = search (rules, the_lemmas)

-- ---- what a range visits

pub one-number : (b : held_binding.Binding) → ((x : Box held_pair.Pair Global) → b ≡ variants.DeclarePair x → ⊥) → number_visit (binding_of b) ≡ visit spec.numbers spec.numbers
one-number (variants.DeclarePair x) h = absurd (h x refl)
one-number _ h = refl

pub ruleset leaves = (no-name, part-leaf, gone-leaf, refine-leaf, some-value)

pub ruleset blurs = (blur-leaf)

pub ruleset visits = (one-number)
