-- Constants: they are of their kind, and those that are the same are equal.
use Rattle.std.proofs.Common.{◌≡◌, Bool, true, false, refl, ap, sym, subst}
use Rattle.std.proofs.lemmas.Bool.{false≢true}
use Rattle.std.proofs.lemmas.Bool.Decides.{Decides-int_eq}
use Rattle.std.proofs.lemmas.Slice.Eq.{bytes_eq-Decides}
use Rattle.std.specs.Bool.{beq}
use Rattle.tmpl_values.specs.Value.{Value, boolean, number, string}
use Rattle.tmpl_shape.specs.Shape.{Shape, truths, numbers, texts, exactly, Names, HasShape, value_of}
use Rattle.tmpl_shape.specs.computed.Shapes.{has_constant, is_same, kind_shape}
use Rattle.tmpl_shape.specs.declared.constant.Constant.{Constant}
use Rattle.tmpl_shape.specs.declared.constant.Constant.TheVariants as constant

same_bool : (b c : Bool) → beq b c ≡ true → b ≡ c
same_bool true true e = refl
same_bool false false e = refl
same_bool true false e = absurd (false≢true e)
same_bool false true e = absurd (false≢true e)

pub same-value : (c d : Constant) → is_same (value_of c) (value_of d) ≡ true → value_of c ≡ value_of d
same-value (constant.Bool b) (constant.Bool c) e = ap boolean (same_bool b c e)
same-value (constant.Number m) (constant.Number n) e = ap number ((Decides-int_eq m n).0 e)
same-value (constant.Text s) (constant.Text t) e = ap string ((bytes_eq-Decides s t).0 e)
same-value (constant.Bool b) (constant.Number n) e = absurd (false≢true e)
same-value (constant.Bool b) (constant.Text t) e = absurd (false≢true e)
same-value (constant.Number n) (constant.Bool b) e = absurd (false≢true e)
same-value (constant.Number n) (constant.Text t) e = absurd (false≢true e)
same-value (constant.Text s) (constant.Bool b) e = absurd (false≢true e)
same-value (constant.Text s) (constant.Number n) e = absurd (false≢true e)

pub is-same : (c : Constant) → is_same (value_of c) (value_of c) ≡ true
is-same (constant.Bool true) = refl
is-same (constant.Bool false) = refl
is-same (constant.Number n) = (Decides-int_eq n n).1 refl
is-same (constant.Text s) = (bytes_eq-Decides s s).1 refl

module _ (N : Names) where
  pub kind-has : (c : Constant) (v : Value) → v ≡ value_of c → HasShape N (kind_shape c) v
  kind-has (constant.Bool b) v e = subst (HasShape N truths) (sym e) tt
  kind-has (constant.Number n) v e = subst (HasShape N numbers) (sym e) tt
  kind-has (constant.Text s) v e = subst (HasShape N texts) (sym e) tt

  pub constant-has : (t : Shape) (c : Constant) → has_constant t c ≡ true → HasShape N t (value_of c)
  constant-has (exactly d) c e = same-value c d e
  constant-has truths (constant.Bool b) e = tt
  constant-has numbers (constant.Number n) e = tt
  constant-has texts (constant.Text s) e = tt
  constant-has _ c e = absurd (false≢true e)
