-- For the law `runs_safely`: a value is of a kind that its shape may have.
use Rattle.std.proofs.Common.{◌≡◌, ◌||◌, ℕ, zero, suc, Bool, true, false, Option, Some, None, inl, inr, refl}
use Rattle.std.specs.Option.{option_map_or}
use Rattle.tmpl_values.specs.Value.{Value, nothing, null, boolean, number, string, sequence, mapping}
use Rattle.tmpl_shape.specs.Shape.{Shape, nothings, nulls, truths, numbers, texts, exactly, anything, list_of, record_of}
use Rattle.tmpl_shape.specs.Shape.{either, named, Names, HasShape}
use Rattle.tmpl_shape.specs.declared.kind.Kind.{Kind}
use Rattle.tmpl_shape.specs.declared.kind.Kind.TheVariants.{Blank, Truth, Number, Text, Many}
use Rattle.tmpl_shape.specs.computed.Means.{Means}
use Rattle.tmpl_shape.proofs.ConstantLemmas.{kind-has}
use Rattle.tmpl_shape.specs.computed.Shapes.{Base, kind_shape, may_be, has_kind}

abbrev pub kind_of : Value → Kind
kind_of nothing = Blank
kind_of null = Blank
kind_of (boolean b) = Truth
kind_of (number n) = Number
kind_of (string s) = Text
kind_of (sequence vs) = Many
kind_of (mapping es) = Many

or_true : (b : Bool) → (b || true) ≡ true
or_true true = refl
or_true false = refl

module _ (base : Base) (N : Names) (means : Means base.defs N) where
  may_be-has : (n : ℕ) (s : Shape) (v : Value) → HasShape N s v → may_be base n (kind_of v) s ≡ true
  may_be-has zero s v h = refl
  may_be-has (suc n) anything v h = refl
  may_be-has (suc n) nothings nothing h = refl
  may_be-has (suc n) nulls null h = refl
  may_be-has (suc n) truths (boolean b) h = refl
  may_be-has (suc n) numbers (number i) h = refl
  may_be-has (suc n) texts (string t) h = refl
  may_be-has (suc n) (exactly c) v h = may_be-has n (kind_shape c) v (kind-has N c v h)
  may_be-has (suc n) (list_of m s) (sequence vs) h = refl
  may_be-has (suc n) (record_of fs) (mapping es) h = refl
  may_be-has (suc n) (either s t) v h = elim h [
    | inl x ↦ rw (may_be-has n s v x) refl
    | inr x ↦ rw (may_be-has n t v x) (or_true (may_be base n (kind_of v) s))
  ]
  may_be-has (suc n) (named y) v h = by (base.defs y) refl (λ s. may_be-has n s v)
    where
      by : (o : Option Shape) → base.defs y ≡ o → ((s : Shape) → HasShape N s v → may_be base n (kind_of v) s ≡ true)
          → option_map_or (may_be base n (kind_of v)) o true ≡ true
      by None is f = refl
      by (Some s) is f = f s (means.unfolds y s v is h)
  may_be-has (suc n) _ v h = absurd h

  pub has_kind-has : (s : Shape) (v : Value) → HasShape N s v → has_kind base (kind_of v) s ≡ true
  unfolding has_kind
  has_kind-has s v h = may_be-has base.limit s v h
