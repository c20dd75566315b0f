-- A value whose null is taken for nothing has the shape whose nulls are.
use Rattle.std.proofs.Common.{◌≡◌, ◌∙◌, ℕ, zero, suc, Bool, true, false, Option, Some, None, inl, inr, ap, refl, sym, if◌then◌else◌}
use Rattle.std.proofs.lemmas.Bool.{false≢true}
use Rattle.std.specs.Option.{option_map_or}
use Rattle.tmpl_values.specs.Value.{Value, null}
use Rattle.tmpl_meaning.specs.Pipeline.{without_null}
use Rattle.tmpl_shape.specs.Shape.{Shape, nothings, nulls, exactly, anything, either, named, Names, HasShape, value_of}
use Rattle.tmpl_shape.specs.declared.constant.Constant.{Constant}
use Rattle.tmpl_shape.specs.declared.constant.Constant.TheVariants as constant
use Rattle.tmpl_shape.specs.computed.Means.{Means}
use Rattle.tmpl_shape.specs.computed.Shapes.{Base, has_kind, null_gone_by, null_gone}
use Rattle.tmpl_shape.specs.declared.kind.Kind.TheVariants.{Blank}
use Rattle.tmpl_shape.proofs.KindLemmas.{has_kind-has}
use Rattle.tmpl_schema.proofs.FieldLemmas.{join-has}

no_null : (c : Constant) → without_null (value_of c) ≡ value_of c
no_null (constant.Bool b) = refl
no_null (constant.Number n) = refl
no_null (constant.Text s) = refl

module _ (base : Base) (N : Names) (means : Means base.defs N) where
  never_null : (s : Shape) → has_kind base Blank s ≡ false → HasShape N s null → ⊥
  never_null s e h = false≢true (sym e ∙ has_kind-has base N means s null h)

  null_gone_by-has : (n : ℕ) (s : Shape) (v : Value) → HasShape N s v → HasShape N (null_gone_by base n s) (without_null v)
  null_gone_by-has zero s null h = inr tt
  null_gone_by-has zero s _ h = inl h
  null_gone_by-has (suc n) nulls null h = tt
  null_gone_by-has (suc n) nulls _ h = absurd h
  null_gone_by-has (suc n) anything v h = tt
  null_gone_by-has (suc n) (either s t) v h =
      join-has base N means (null_gone_by base n s) (null_gone_by base n t) (without_null v)
      (elim h [ inl x ↦ inl (null_gone_by-has n s v x) | inr x ↦ inr (null_gone_by-has n t v x) ])
  null_gone_by-has (suc n) (named x) v h = by (has_kind base Blank (named x)) refl (λ s. null_gone_by-has n s v)
    where
      known : (w : Value) → N x w → HasShape N (either (named x) nothings) (without_null w)
      known null k = inr tt
      known _ k = inl k

      at : (o : Option Shape) → base.defs x ≡ o → ((s : Shape) → HasShape N s v → HasShape N (null_gone_by base n s) (without_null v))
          → HasShape N (option_map_or (null_gone_by base n) o (either (named x) nothings)) (without_null v)
      at None is f = known v h
      at (Some s) is f = f s (means.unfolds x s v is h)

      kept : (w : Value) → has_kind base Blank (named x) ≡ false → N x w → N x (without_null w)
      kept null is k = absurd (never_null (named x) is k)
      kept _ is k = k

      by : (c : Bool) → has_kind base Blank (named x) ≡ c
          → ((s : Shape) → HasShape N s v → HasShape N (null_gone_by base n s) (without_null v))
          → HasShape N (if c then option_map_or (null_gone_by base n) (base.defs x) (either (named x) nothings) else named x) (without_null v)
      by true is f = at (base.defs x) refl f
      by false is f = kept v is h
  null_gone_by-has (suc n) (exactly c) v h = ap without_null h ∙ no_null c
  null_gone_by-has (suc n) s null h = absurd h
  null_gone_by-has (suc n) s _ h = h

  pub null_gone-has : (s : Shape) (v : Value) → HasShape N s v → HasShape N (null_gone base s) (without_null v)
  null_gone-has s v h = null_gone_by-has base.limit s v h
