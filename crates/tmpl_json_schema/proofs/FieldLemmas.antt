-- For the call `read_schema`: the fields that are computed are those of the maps that conform.
use Rattle.std.proofs.Common.{◌≡◌, Bool, true, false, List, ℕ, Option, Some, IfSome, IsSome, is_some, inl, inr, refl, sym, subst, if◌then◌else◌}
use Rattle.std.specs.Option.{option_and_then}
use Rattle.std.specs.Str.{bytes_eq}
use Rattle.std.proofs.lemmas.Bool.{false≢true}
use Rattle.serde_json.specs.Data as json
use Rattle.serde_json.specs.Data.{Data, Items, no_items}
use Rattle.serde_json.specs.Find.{get}
use Rattle.tmpl_values.specs.Value.{Value, Entries, mapping}
use Rattle.tmpl_values.specs.Field.{entry_at}
use Rattle.tmpl_shape.specs.Shape.{Shape, Names, Fields, no_field, others, field, HasRequired, HasShape, IsField}
use Rattle.tmpl_shape.specs.computed.Shapes.{is_never}
use Rattle.tmpl_shape.proofs.MeetLemmas.{never-has}
use Rattle.tmpl_shape.proofs.ShapeLemmas.{or_cases, same_name}
use Rattle.tmpl_json_schema.specs.Document.{EachKey, HasKeys}
use Rattle.tmpl_json_schema.specs.computed.Reading.{fold, rest_of, shape_of_rest, with_required, is_key, is_required}
use Rattle.tmpl_json_schema.proofs.KindLemmas.{is-some, not-some}

module _ (N : Names) where
  -- ---- the rest

  pub rest-field : (s : Shape) (k : List ℕ) (v : Value) → HasShape N s v → IsField N (rest_of s) k v
  rest-field s k v h = by (is_never s) refl
    where
      by : (c : Bool) → is_never s ≡ c → IsField N (if c then no_field else others s) k v
      by true e = absurd (never-has N s v e h)
      by false e = h

  pub rest-shape : (s : Shape) (v : Value) → HasShape N s v → HasShape N (shape_of_rest (rest_of s)) v
  rest-shape s v h = by (is_never s) refl
    where
      by : (c : Bool) → is_never s ≡ c → HasShape N (shape_of_rest (if c then no_field else others s)) v
      by true e = absurd (never-has N s v e h)
      by false e = h

  pub rest-required : (s : Shape) (es : Entries) → HasRequired (rest_of s) es
  rest-required s es = by (is_never s)
    where
      by : (c : Bool) → HasRequired (if c then no_field else others s) es
      by true = tt
      by false = tt

  -- ---- what is required

  put-required : (c : Bool) (r : Shape) (k l : List ℕ) (fs : Fields) (v : Value) → HasShape N r v → IsField N fs k v
      → IsField N (if c then fs else field l true r fs) k v
  put-required true r k l fs v h is = is
  put-required false r k l fs v h is = by (bytes_eq k l) refl
    where
      by : (c : Bool) → bytes_eq k l ≡ c → IsField N (field l true r fs) k v
      by true e = inl (e, h)
      by false e = inr (e, is)

  pub required-fields : (ps : Option Data) (r : Shape) (ds : Items) (fs gs : Fields) (k : List ℕ) (v : Value) → fold (with_required ps r) fs ds ≡ Some gs
      → HasShape N r v → IsField N fs k v → IsField N gs k v
  required-fields ps r no_items fs gs k v e h is = is-some (λ f. IsField N f k v) fs gs e is
  required-fields ps r (json.item (json.string l) ds) fs gs k v e h is =
      required-fields ps r ds _ gs k v e h (put-required (is_some (option_and_then (get l) ps)) r k l fs v h is)
  required-fields ps r (json.item d ds) fs gs k v e h is = absurd (not-some gs e)

  put-required-has : (c : Bool) (r : Shape) (l : List ℕ) (fs : Fields) (es : Entries) → IsSome (entry_at l es) → HasRequired fs es
      → HasRequired (if c then fs else field l true r fs) es
  put-required-has true r l fs es is h = h
  put-required-has false r l fs es is h = (λ x. is, h)

  pub required-has : (ps : Option Data) (r : Shape) (ds : Items) (fs gs : Fields) (es : Entries) → fold (with_required ps r) fs ds ≡ Some gs
      → EachKey es ds → HasRequired fs es → HasRequired gs es
  required-has ps r no_items fs gs es e k h = is-some (λ f. HasRequired f es) fs gs e h
  required-has ps r (json.item (json.string l) ds) fs gs es e k h =
      required-has ps r ds _ gs es e k.1 (put-required-has (is_some (option_and_then (get l) ps)) r l fs es k.0 h)
  required-has ps r (json.item d ds) fs gs es e k h = absurd (not-some gs e)

  is_key-has : (k : List ℕ) (ds : Items) (es : Entries) → is_key k ds ≡ true → EachKey es ds → IsSome (entry_at k es)
  is_key-has k no_items es e h = absurd (false≢true e)
  is_key-has k (json.item (json.string l) ds) es e h = elim (or_cases (bytes_eq k l) (is_key k ds) e) [
    | inl x ↦ subst (λ (i : List ℕ). IsSome (entry_at i es)) (sym (same_name k l x)) h.0
    | inr x ↦ is_key-has k ds es x h.1
  ]
  is_key-has k (json.item d ds) es e h = is_key-has k ds es e h.1

  pub required-key-has : (k : List ℕ) (req : Option Data) (es : Entries) → is_required k req ≡ true → IfSome req (HasKeys (mapping es)) → IsSome (entry_at k es)
  required-key-has k (Some (json.array ds)) es e h = is_key-has k ds es e h
  required-key-has k req es e h = absurd (false≢true e)
