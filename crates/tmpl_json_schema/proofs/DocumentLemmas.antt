-- For the call `read_schema`: a value that conforms to a document fits the shape that is read of it.
use Rattle.std.proofs.Common.{arith, IsUtf8, drop, get_or, ◌<◌, ◌+◌, ◌≡◌, ◌∙◌, ap, ◌⊎◌, ◌≤◌, ◌&&◌, length, Bool, true, false, not, List, [], ◌∷◌, ℕ, zero, suc, Option, Some, None, All, IfSome, IsSome, is_some, inl, inr, refl, sym, subst, if◌then◌else◌, codes}
use Rattle.std.specs.Option.{option_map_or, option_map, option_and_then}
use Rattle.std.specs.Str.{bytes_eq, is_utf8}
use Rattle.std.proofs.lemmas.Bool.{false≢true, and_parts}
use Rattle.std.proofs.lemmas.Str.{is_utf8-from_IsUtf8, IsUtf8-from_is_utf8}
use Rattle.std.proofs.lemmas.List.{drop_more}
use Rattle.std.proofs.lemmas.List.Elements.{All-head, All-tail}
use Rattle.serde_json.specs.Data as json
use Rattle.serde_json.specs.Data.{Data, Items, Members, no_members, member}
use Rattle.serde_json.specs.Find.{get}
use Rattle.serde_json.specs.Read.{read}
use Rattle.serde_json.specs.View.{items_view, view}
use Rattle.serde_json.specs.declared.value.Value as tree
use Rattle.tmpl_values.specs.Value.{Value, Entries, no_entry, entry, nothing, null, boolean, number, string, sequence, mapping, item, no_item}
use Rattle.tmpl_values.specs.Value as value
use Rattle.tmpl_values.specs.Elements.{values_of_items}
use Rattle.tmpl_shape.specs.Shape.{Shape, named, Names, Defs, Fields, field, EachEntry, EachItem, HasRequired, HasShape, IsField, stands_for}
use Rattle.tmpl_shape.specs.View.{defs_in, shape_of}
use Rattle.tmpl_shape.specs.declared.shape.Definition.{Definition}
use Rattle.tmpl_shape.specs.computed.Meet.{or_shape}
use Rattle.tmpl_shape.proofs.MeetLemmas.{or-one, or-other}
use Rattle.tmpl_shape.proofs.NameLemmas.{meant, shape-on}
use Rattle.tmpl_shape.proofs.ShapeLemmas.{same_name, or_cases, items-has}
use Rattle.tmpl_json_schema.specs.Document.{IsInstance, IsOfType, IsConstant, IsOneOf, HasKeys, SomeItem, EachItemOf, SomeMember, in_properties, is_property, FitsProperty, FitsProperties, FitsAdditional}
use Rattle.tmpl_json_schema.specs.Document.{HasItems, FitsItems, FitsEach, FitsPattern, fragment_of, refer, referent, ConformsBy, conforms_in, document_of, draft_of, draft_in, has_const, is_alone}
use Rattle.tmpl_json_schema.specs.Document.{base_of, draft_alone, has_inner_base, is_since_2019, items_in}
use Rattle.tmpl_json_schema.specs.declared.draft.Draft.{Draft}
use Rattle.tmpl_json_schema.specs.declared.draft.Draft.TheVariants.{Draft2020}
use Rattle.tmpl_json_schema.specs.declared.kinds.Kinds.{Kinds}
use Rattle.tmpl_json_schema.specs.computed.Reading.{every_kind, both_kinds, types_in, const_in, enum_in, kinds_in, type_kinds, enum_kinds, constant_kind}
use Rattle.tmpl_json_schema.specs.computed.Reading.{by_kinds, count_of, least_in, rest_of, shape_of_rest, is_listed, leaves_in}
use Rattle.tmpl_json_schema.specs.computed.Reading.{if_listed, is_required, is_unread, listed_in, required_fields, required_in}
use Rattle.tmpl_json_schema.specs.computed.Fitting.{Adds, Additional, AreShared, At, Conforms, Context, Has, HasFields, HasKind, IsBeside, IsDefinition, IsReadOf, IsSound, ItemOf, Keeps, NamesIn}
use Rattle.tmpl_json_schema.specs.computed.Fitting.{Plain, PlainOf, Referred, Whole, WithEachOf, WithEachProperty, WithProperties}
use Rattle.tmpl_json_schema.specs.computed.Defined.{AreLookedUp, are_defined}
use Rattle.tmpl_json_schema.proofs.KindLemmas.{HasParts, is-some, not-some, both-kinds, type_kinds-has, constant_kind-has, enum_kinds-has, leaves_in-has, by_kinds-has}
use Rattle.tmpl_json_schema.proofs.FieldLemmas.{rest-field, rest-shape, rest-required, required-fields, required-has, required-key-has}

-- ---- kinds

every-kind : (v : Value) → IsInstance v → HasKind every_kind v
every-kind nothing i = i
every-kind null i = refl
every-kind (boolean b) i = refl
every-kind (number n) i = refl
every-kind (string s) i = refl
every-kind (sequence vs) i = refl
every-kind (mapping es) i = refl

types-has : (o : Option Data) (ks : Kinds) (v : Value) → option_map_or type_kinds o (Some every_kind) ≡ Some ks → IsInstance v → IfSome o (IsOfType v) → HasKind ks v
types-has None ks v e i h = is-some (λ k. HasKind k v) every_kind ks e (every-kind v i)
types-has (Some d) ks v e i h = type_kinds-has d ks v e i h

const-has : (o : Option Data) (v : Value) → IsInstance v → IfSome o (IsConstant v) → HasKind (option_map_or constant_kind o every_kind) v
const-has None v i h = every-kind v i
const-has (Some d) v i h = constant_kind-has v d h

enum-has : (o : Option Data) (ks : Kinds) (v : Value) → option_map_or enum_kinds o (Some every_kind) ≡ Some ks → IsInstance v → IfSome o (IsOneOf v) → HasKind ks v
enum-has None ks v e i h = is-some (λ k. HasKind k v) every_kind ks e (every-kind v i)
enum-has (Some d) ks v e i h = enum_kinds-has d ks v e h

kinds-has : (d : Data) (ks : Kinds) (v : Value) → kinds_in d ≡ Some ks → IsInstance v → IfSome (get (codes "type") d) (IsOfType v)
    → IfSome (get (codes "const") d) (IsConstant v) → IfSome (get (codes "enum") d) (IsOneOf v) → HasKind ks v
kinds-has d ks v e i t c n = by (types_in d) refl (enum_in d) refl e
  where
    by : (o : Option Kinds) → types_in d ≡ o → (p : Option Kinds) → enum_in d ≡ p
        → option_and_then (λ a. option_map (λ b. both_kinds a (both_kinds b (const_in d))) p) o ≡ Some ks → HasKind ks v
    by None x p y f = absurd (not-some ks f)
    by (Some a) x None y f = absurd (not-some ks f)
    by (Some a) x (Some b) y f = is-some (λ k. HasKind k v) (both_kinds a (both_kinds b (const_in d))) ks f
        (both-kinds a (both_kinds b (const_in d)) v (types-has (get (codes "type") d) a v x i t)
        (both-kinds b (const_in d) v (enum-has (get (codes "enum") d) b v y i n) (const-has (get (codes "const") d) v i c)))

-- ---- how many items there are

counted : (d : Data) (vs : value.Items) → HasItems (sequence vs) d → count_of d ≤ length (values_of_items vs)
counted (json.number (json.unsigned n)) vs h = h
counted (json.number (json.negative z)) vs h = omega arith
counted (json.number (json.float x)) vs h = omega arith
counted json.null vs h = omega arith
counted (json.boolean b) vs h = omega arith
counted (json.string s) vs h = omega arith
counted (json.array ds) vs h = omega arith
counted (json.object ms) vs h = omega arith

least-has : (o : Option Data) (vs : value.Items) → IfSome o (HasItems (sequence vs)) → option_map_or count_of o 0 ≤ length (values_of_items vs)
least-has None vs h = omega arith
least-has (Some d) vs h = counted d vs h

-- ---- names

-- a name that stands for a value still does where more are followed
names-more : (c : Context) (n : ℕ) (p : List ℕ) (v : Value) → NamesIn c n p v → NamesIn c (suc n) p v
names-more c n p v h = (h.0, omega (arith, h.1), h.2, h.3)

pub inside : (c : Context) (d : Data) (s : Shape) → IsReadOf c d s → Has c (λ C v. C d v) s
inside c d s h = λ sound n v x. shape-on (NamesIn c n) (NamesIn c (suc n)) (names-more c n) s v (h sound n v x)

-- ---- a schema

-- a `const` that the draft does not have is not there
const-read : (o : Option Data) (b : Bool) (v : Value) → (is_some o && not b) ≡ false → (b ≡ true → IfSome o (IsConstant v)) → IfSome o (IsConstant v)
const-read None b v e h = tt
const-read (Some d) true v e h = h refl
const-read (Some d) false v e h = absurd (false≢true (sym e))

plainly : (C : Data → Value → Type 0) (root : Data) (draft : Draft) (ms : Members) (v : Value) → draft_of root ≡ Some draft
    → is_alone root (get (codes "$ref") (json.object ms)) ≡ false → is_unread draft (json.object ms) ≡ false → ConformsBy root C (json.object ms) v → Plain (json.object ms) C v
plainly C root draft ms v is alone unread h =
    let all = h.2 alone in
    let const = const-read (get (codes "const") (json.object ms)) (has_const draft) v unread (λ e. all.1 (ap (λ o. option_map_or has_const o true) is ∙ e)) in
    (h.0, all.0, const, all.2, all.3, all.4, all.5, all.6, all.7, all.8, all.9, all.10)

-- the document that says its draft alone is of the same
alone-draft : (root : Data) → draft_of (draft_alone root) ≡ draft_of root
alone-draft root = by (get (codes "$schema") root)
  where
    by : (o : Option Data) → draft_of (json.object (option_map_or (λ uri. member (codes "$schema") uri no_members) o no_members)) ≡ option_map_or draft_in o (Some Draft2020)
    by None = refl
    by (Some d) = refl

base-draft : (root : Data) → draft_of (base_of root) ≡ draft_of root
base-draft root = by (has_inner_base root)
  where
    by : (c : Bool) → draft_of (if c then draft_alone root else root) ≡ draft_of root
    by true = alone-draft root
    by false = refl

whole-of : (c : Context) (ms : Members) (C : Data → Value → Type 0) (v : Value) → IsSound c → ConformsBy (base_of c.root) C (json.object ms) v → Whole c (json.object ms) C v
whole-of c ms C v sound h = (h.1, beside)
  where
    is : draft_of (base_of c.root) ≡ Some c.draft
    is = base-draft c.root ∙ sound.0

    beside : IsBeside c (json.object ms) → Plain (json.object ms) C v
    beside b =
        let reference = get (codes "$ref") (json.object ms) in
        plainly C (base_of c.root) c.draft ms v is (ap (λ o. is_some reference && not (option_map_or is_since_2019 o true)) is ∙ b.1) b.0 h

object-has : (c : Context) (ms : Members) (s : Shape) → Has c (Whole c (json.object ms)) s → IsSound c → (n : ℕ) (v : Value) → Conforms c n (json.object ms) v → HasShape (NamesIn c n) s v
object-has c ms s h sound zero v x = absurd x
object-has c ms s h sound (suc n) v x = h sound n v (whole-of c ms (Conforms c n) v sound x)

pub read-object : (c : Context) (d : Data) (ms : Members) (s : Shape) → d ≡ json.object ms → Has c (Whole c d) s → IsReadOf c d s
read-object c d ms s e h = subst (λ (x : Data). IsReadOf c x s) (sym e) (object-has c ms s (subst (λ (x : Data). Has c (Whole c x) s) e h))

-- ---- a reference

-- a value of which there is a `$ref` is one of what that points to
refers-to : (names : List (List ℕ)) (root : Data) (P : Data → Type 0) (r : Data) (q : List ℕ) → listed_in names r ≡ Some q → IfSome (refer root r) P
    → (is_listed names q ≡ true) × IfSome (referent q root) P
refers-to names root P (json.string t) q e h = by (fragment_of t) e h
  where
    at : (p : List ℕ) → IfSome (referent p root) P → (b : Bool) → is_listed names p ≡ b → (if b then Some p else None) ≡ Some q → (is_listed names q ≡ true) × IfSome (referent q root) P
    at p k true is f = is-some (λ x. (is_listed names x ≡ true) × IfSome (referent x root) P) p q f (is, k)
    at p k false is f = absurd (not-some q f)

    by : (o : Option (List ℕ)) → option_and_then (if_listed names) o ≡ Some q → IfSome (option_and_then (λ p. referent p root) o) P → (is_listed names q ≡ true) × IfSome (referent q root) P
    by None f k = absurd (not-some q f)
    by (Some p) f k = at p k (is_listed names p) refl f
refers-to names root P r q e h = absurd (not-some q e)

pub referred : (c : Context) (d : Data) (p : List ℕ) (s : Shape) → option_and_then (listed_in c.names) (get (codes "$ref") d) ≡ Some p → Has c (Referred c d p) s → Has c (Whole c d) s
referred c d p s e h = λ sound n v x. h sound n v (by (Conforms c n) (get (codes "$ref") d) v e x.0, x.1)
  where
    by : (C : Data → Value → Type 0) (o : Option Data) (v : Value) → option_and_then (listed_in c.names) o ≡ Some p → IfSome o (λ r. IfSome (refer (base_of c.root) r) (λ t. C t v)) → At c p C v
    by C None v e x = absurd (not-some p e)
    by C (Some r) v e x = refers-to c.names (base_of c.root) (λ t. C t v) r p e x

-- a name has what conforms to what it stands for
pub name-has : (c : Context) (p : List ℕ) → Has c (At c p) (named p)
name-has c p sound n v h = (n, omega arith, h.0, h.1)

pub looked-up : (c : Context) (p : List ℕ) (d : Data) (s : Shape) → referent p c.root ≡ Some d → IsReadOf c d s → Has c (At c p) s
looked-up c p d s e h = λ sound n v x. inside c d s h sound n v (at (Conforms c n) v sound.1 x)
  where
    at : (C : Data → Value → Type 0) (v : Value) → AreLookedUp c.root c.names → At c p C v → C d v
    at C v (inl same) x = let is : referent p (base_of c.root) ≡ Some d = ap (λ r. referent p r) same ∙ e in subst (λ (o : Option Data). IfSome o (λ t. C t v)) is x.1
    at C v (inr none) x = absurd (false≢true (ap (λ ns. is_listed ns p) (sym none) ∙ x.0))

-- ---- what stands in an object

pub kinds-of : (d : Data) (ks : Kinds) (C : Data → Value → Type 0) (v : Value) → kinds_in d ≡ Some ks → Plain d C v → HasKind ks v
kinds-of d ks C v e h = kinds-has d ks v e h.0 h.1 h.2 h.3

pub all-of : (d l : Data) (C : Data → Value → Type 0) (v : Value) → get (codes "allOf") d ≡ Some l → Plain d C v → FitsEach C v l
all-of d l C v e h = subst (λ (o : Option Data). IfSome o (FitsEach C v)) e h.11

any-items : (vs : value.Items) → EachItem (λ v. Unit {0}) vs
any-items no_item = tt
any-items (item v vs) = (tt, any-items vs)

items-of : (C : Data → Value → Type 0) (o : Option Data) (vs : value.Items) → IfSome o (FitsItems C (sequence vs)) → EachItem (λ v. IfSome o (λ d. C d v)) vs
items-of C None vs h = any-items vs
items-of C (Some d) vs h = h

pub content-has : (c : Context) (d : Data) (ks : Kinds) (i : Shape) (fs : Fields) → Has c (ItemOf d) i → HasFields c d fs → Has c (PlainOf ks d) (by_kinds ks (leaves_in d) (least_in d) i fs)
content-has c d ks i fs items fields = λ sound n v h. by_kinds-has (NamesIn c (suc n)) ks (leaves_in d) (least_in d) i fs v h.0 (parts sound n v h.1)
  where
    parts : IsSound c → (n : ℕ) (w : Value) → Plain d (Conforms c n) w → HasParts (NamesIn c (suc n)) (leaves_in d) (least_in d) i fs w
    parts sound n (boolean b) k = leaves_in-has (NamesIn c (suc n)) (boolean b) d tt k.2 k.3
    parts sound n (number m) k = leaves_in-has (NamesIn c (suc n)) (number m) d tt k.2 k.3
    parts sound n (string s) k = leaves_in-has (NamesIn c (suc n)) (string s) d tt k.2 k.3
    parts sound n (sequence vs) k = (
      least-has (get (codes "minItems") d) vs k.8,
      items-has (λ w. IfSome (items_in d) (λ x. Conforms c n x w)) (HasShape (NamesIn c (suc n)) i) (λ w x. items sound n w x) vs (items-of (Conforms c n) (items_in d) vs k.7),
    )
    parts sound n (mapping es) k = fields sound n es k.0 k.4 k.5 k.6
    parts sound n w k = tt

-- ---- alternatives and parts, one after the other

pub items-next : (vs : List tree.Value) (i : ℕ) (x : tree.Value) → i < length vs → x ≡ get_or vs i x → items_view (drop i vs) ≡ json.item (view x) (items_view (drop (i + 1) vs))
items-next vs i x lt is = ap items_view (drop_more vs i x lt ∙ ap (λ n. n ∷ drop (i + 1) vs) (sym is))

pub add-one : (c : Context) (d : Data) (ds : Items) (a s t : Shape) → IsReadOf c d s → Adds c (λ C v. SomeItem (λ x. C x v) ds) (or_shape s a) t
    → Adds c (λ C v. SomeItem (λ x. C x v) (json.item d ds)) a t
add-one c d ds a s t r h = λ sound n v x. h sound n v (elim x [
  | inl y ↦ inl (or-other (NamesIn c (suc n)) s a v y)
  | inr y ↦ elim y [ inl z ↦ inl (or-one (NamesIn c (suc n)) s a v (inside c d s r sound n v z)) | inr z ↦ inr z ]
])

pub add-pattern : (c : Context) (k : List ℕ) (d : Data) (ms : Members) (a s t : Shape) → IsReadOf c d s → Adds c (λ C v. SomeMember (λ x. C x v) ms) (or_shape s a) t
    → Adds c (λ C v. SomeMember (λ x. C x v) (member k d ms)) a t
add-pattern c k d ms a s t r h = λ sound n v x. h sound n v (elim x [
  | inl y ↦ inl (or-other (NamesIn c (suc n)) s a v y)
  | inr y ↦ elim y [ inl z ↦ inl (or-one (NamesIn c (suc n)) s a v (inside c d s r sound n v z)) | inr z ↦ inr z ]
])

pub keep-one : (c : Context) (d : Data) (ds : Items) (a s b t : Shape) → IsReadOf c d s → AreShared c a s b → Keeps c (λ C v. EachItemOf (λ x. C x v) ds) b t
    → Keeps c (λ C v. EachItemOf (λ x. C x v) (json.item d ds)) a t
keep-one c d ds a s b t r both h = λ sound n v x y. h sound n v (both (suc n) v x (inside c d s r sound n v y.0)) y.1

-- ---- fields

-- what both entries are
entries-both : (P Q R : List ℕ → Value → Type 0) → ((k : List ℕ) (v : Value) → P k v → Q k v → R k v) → (es : Entries) → EachEntry P es → EachEntry Q es → EachEntry R es
entries-both P Q R f no_entry h g = tt
entries-both P Q R f (entry k v es) h g = (f k v h.0 g.0, entries-both P Q R f es h.1 g.1)

any-entries : (P : List ℕ → Value → Type 0) → ((k : List ℕ) (v : Value) → P k v) → (es : Entries) → EachEntry P es
any-entries P f no_entry = tt
any-entries P f (entry k v es) = (f k v, any-entries P f es)

pub additional-has : (c : Context) (d a : Data) (s t : Shape) → get (codes "additionalProperties") d ≡ Some a → IsReadOf c a s
    → Adds c (λ C v. FitsPattern C (get (codes "patternProperties") d) v) s t → Has c (Additional d) t
additional-has c d a s t e r h = λ sound n v x. h sound n v (by sound n v (subst (λ (o : Option Data). IfSome o (λ a. FitsPattern (Conforms c n) (get (codes "patternProperties") d) v ⊎ Conforms c n a v)) e x))
  where
    by : IsSound c → (n : ℕ) (v : Value) → FitsPattern (Conforms c n) (get (codes "patternProperties") d) v ⊎ Conforms c n a v
        → HasShape (NamesIn c (suc n)) s v ⊎ FitsPattern (Conforms c n) (get (codes "patternProperties") d) v
    by sound n v (inl x) = inr x
    by sound n v (inr x) = inl (inside c a s r sound n v x)

module _ (N : Names) (s : Shape) (gs : Fields) (d : Data) (e : required_in d (rest_of s) ≡ Some gs) where
  -- before the properties
  before-field : (k : List ℕ) (v : Value) → HasShape N s v → IsField N gs k v
  before-field k v h = by (get (codes "required") d) e
    where
      by : (o : Option Data) → option_map_or (required_fields (get (codes "properties") d) (rest_of s)) o (Some (rest_of s)) ≡ Some gs → IsField N gs k v
      by None e = is-some (λ f. IsField N f k v) (rest_of s) gs e (rest-field N s k v h)
      by (Some (json.array ds)) e = required-fields N (get (codes "properties") d) (shape_of_rest (rest_of s)) ds (rest_of s) gs k v e (rest-shape N s v h) (rest-field N s k v h)
      by (Some d) e = absurd (not-some gs e)

  before-required : (es : Entries) → IfSome (get (codes "required") d) (HasKeys (mapping es)) → HasRequired gs es
  before-required es keys = by (get (codes "required") d) e keys
    where
      by : (o : Option Data) → option_map_or (required_fields (get (codes "properties") d) (rest_of s)) o (Some (rest_of s)) ≡ Some gs → IfSome o (HasKeys (mapping es)) → HasRequired gs es
      by None e k = is-some (λ f. HasRequired f es) (rest_of s) gs e (rest-required N s es)
      by (Some (json.array ds)) e k = required-has N (get (codes "properties") d) (shape_of_rest (rest_of s)) ds (rest_of s) gs es e k (rest-required N s es)
      by (Some d) e k = absurd (not-some gs e)

-- a key that is no property has the shape of the others
abbrev IsOther : Data → (Data → Value → Type 0) → List ℕ → Value → Type 0
IsOther d C k v = in_properties k (get (codes "properties") d) ≡ false → Additional d C v

others-of : (d : Data) (C : Data → Value → Type 0) (o : Option Data) (es : Entries) → IfSome o (FitsAdditional C (get (codes "properties") d) (get (codes "patternProperties") d) (mapping es))
    → EachEntry (λ k v. in_properties k (get (codes "properties") d) ≡ false → IfSome o (λ a. FitsPattern C (get (codes "patternProperties") d) v ⊎ C a v)) es
others-of d C None es h = any-entries _ (λ k v x. tt) es
others-of d C (Some a) es h = h

pub fields-has : (c : Context) (d : Data) (s : Shape) (gs fs : Fields) → Has c (Additional d) s → required_in d (rest_of s) ≡ Some gs → WithEachProperty c d gs fs → HasFields c d fs
fields-has c d s gs fs additional e each = λ sound n es once keys fits others.
    let N = NamesIn c (suc n) in
    let other = entries-both (IsOther d (Conforms c n)) (λ k v. Unit {0}) (λ k v. in_properties k (get (codes "properties") d) ≡ false → IsField N gs k v)
    (λ k v x y none. before-field N s gs d e k v (additional sound n v (x none))) es (others-of d (Conforms c n) (get (codes "additionalProperties") d) es others)
    (any-entries (λ k v. Unit {0}) (λ k v. tt) es) in
    let both = by sound n es (get (codes "properties") d) each keys fits other in
    (once, both.0, both.1 (before-required N s gs d e es keys))
  where
    by : IsSound c → (n : ℕ) (es : Entries) (o : Option Data) → WithEachOf c (get (codes "required") d) o gs fs → IfSome (get (codes "required") d) (HasKeys (mapping es))
        → IfSome o (FitsProperties (Conforms c n) (mapping es)) → EachEntry (λ k v. in_properties k o ≡ false → IsField (NamesIn c (suc n)) gs k v) es
        → EachEntry (IsField (NamesIn c (suc n)) fs) es × (HasRequired gs es → HasRequired fs es)
    by sound n es None w keys fits other = (
      entries-both (λ k v. in_properties k None ≡ false → IsField (NamesIn c (suc n)) gs k v) (λ k v. Unit {0}) (IsField (NamesIn c (suc n)) fs)
          (λ k v x y. subst (λ (f : Fields). IsField (NamesIn c (suc n)) f k v) (sym w) (x refl)) es other (any-entries (λ k v. Unit {0}) (λ k v. tt) es),
      λ h. subst (λ (f : Fields). HasRequired f es) (sym w) h,
    )
    by sound n es (Some (json.object ms)) w keys fits other = (
      entries-both (FitsProperty (Conforms c n) ms) (λ k v. is_property k ms ≡ false → IsField (NamesIn c (suc n)) gs k v) (IsField (NamesIn c (suc n)) fs)
          (λ k v x y. (w sound n).0 k v x y) es fits other,
      λ h. (w sound n).1 es keys h,
    )
    by sound n es (Some x) w keys fits other = absurd w

pub put-none : (c : Context) (req : Option Data) (fs : Fields) → WithProperties c req no_members fs fs
put-none c req fs = λ sound n. (λ k v fits is. is refl, λ es keys h. h)

pub put-one : (c : Context) (req : Option Data) (l : List ℕ) (d : Data) (ms : Members) (s : Shape) (gs fs : Fields) → IsReadOf c d s
    → WithProperties c req ms (field l (is_required l req) s gs) fs → WithProperties c req (member l d ms) gs fs
put-one c req l d ms s gs fs r h = λ sound n. (
  λ k v fits is. (h sound n).0 k v fits.1 (put sound n k v fits.0 is (bytes_eq k l) refl),
  λ es keys x. (h sound n).1 es keys (λ e. required-key-has (NamesIn c (suc n)) l req es e keys, x),
)
  where
    put : IsSound c → (n : ℕ) (k : List ℕ) (v : Value) → (bytes_eq k l ≡ true → Conforms c n d v) → (is_property k (member l d ms) ≡ false → IsField (NamesIn c (suc n)) gs k v)
        → (b : Bool) → bytes_eq k l ≡ b → is_property k ms ≡ false → IsField (NamesIn c (suc n)) (field l (is_required l req) s gs) k v
    put sound n k v fits is true same none = inl (same, inside c d s r sound n v (fits same))
    put sound n k v fits is false other none = inr (other, is (rw (other, none) refl))

-- ---- a document

listed-defined : (defs : Defs) (names : List (List ℕ)) (p : List ℕ) → are_defined defs names ≡ true → is_listed names p ≡ true → IsSome (defs p)
listed-defined defs [] p e is = absurd (false≢true is)
listed-defined defs (x ∷ xs) p e is =
    let both = and_parts (is_some (defs x)) (are_defined defs xs) e in
    elim (or_cases (bytes_eq p x) (is_listed xs p) is) [
      | inl same ↦ subst (λ (k : List ℕ). IsSome (defs k)) (sym (same_name p x same)) both.0
      | inr more ↦ listed-defined defs xs p both.1 more
    ]

find-definition : (c : Context) (ds : List Definition) → All (IsDefinition c) ds → (p : List ℕ) → IsSome (defs_in ds p)
    → (d : Data) × (s : Shape) × (referent p c.root ≡ Some d) × (defs_in ds p ≡ Some s) × IsReadOf c d s
find-definition c [] all p is = absurd (false≢true is)
find-definition c (x ∷ ds) all p is = by (bytes_eq p x.name) refl is (find-definition c ds (All-tail (IsDefinition c) x ds all) p)
  where
    by : (b : Bool) → bytes_eq p x.name ≡ b → IsSome (if b then Some (shape_of x.shape) else defs_in ds p)
        → (IsSome (defs_in ds p) → (d : Data) × (s : Shape) × (referent p c.root ≡ Some d) × (defs_in ds p ≡ Some s) × IsReadOf c d s)
        → (d : Data) × (s : Shape) × (referent p c.root ≡ Some d) × ((if b then Some (shape_of x.shape) else defs_in ds p) ≡ Some s) × IsReadOf c d s
    by true e i more =
        let at = All-head (IsDefinition c) x ds all in
        (at.0, shape_of x.shape, subst (λ (q : List ℕ). referent q c.root ≡ Some at.0) (sym (same_name p x.name e)) at.1, refl, at.2)
    by false e i more = more i

module _ (c : Context) (sound : IsSound c) (ds : List Definition) (all : All (IsDefinition c) ds) (defined : are_defined (defs_in ds) c.names ≡ true) where
  abbrev N : Names
  N = stands_for (defs_in ds)

  -- what a name stands for is of its definition
  stands : (n : ℕ) (p : List ℕ) (v : Value) → NamesIn c n p v → N p v
  stands zero p v h = absurd (omega (arith, h.1))
  stands (suc n) p v h =
      let at = find-definition c ds all p (listed-defined (defs_in ds) c.names p defined h.2) in
      (meant (defs_in ds)).folds p at.1 v at.3
      (shape-on (NamesIn c n) N (stands n) at.1 v (fewer at.0 at.1 at.2 at.4 sound.1))
    where
      fewer : (d : Data) (s : Shape) → referent p c.root ≡ Some d → IsReadOf c d s → AreLookedUp c.root c.names → HasShape (NamesIn c n) s v
      fewer d s at r (inl same) =
          let is : referent p (base_of c.root) ≡ Some d = ap (λ x. referent p x) same ∙ at in
          more s (r sound h.0 v (subst (λ (o : Option Data). IfSome o (λ x. Conforms c h.0 x v)) is h.3))
        where
          more : (s : Shape) → HasShape (NamesIn c h.0) s v → HasShape (NamesIn c n) s v
          more s x = shape-on (NamesIn c h.0) (NamesIn c n) (λ q w y. (y.0, omega (arith, y.1, h.1), y.2, y.3)) s v x
      fewer d s at r (inr none) = absurd (false≢true (ap (λ ns. is_listed ns p) (sym none) ∙ h.2))

  pub document-fits : (s : Shape) → IsReadOf c c.root s → (n : ℕ) (v : Value) → conforms_in (base_of c.root) n c.root v → HasShape N s v
  document-fits s r n v h = shape-on (NamesIn c n) N (stands n) s v (r sound n v h)

-- ---- the document that bytes are

pub document-read : (text : List ℕ) (root : Data) → IsUtf8 text → read text ≡ Some root → document_of text ≡ Some root
document-read text root u r = rw (is_utf8-from_IsUtf8 text u) r

document-none-by : (text : List ℕ) (b : Bool) → is_utf8 text ≡ b → (IsUtf8 text → read text ≡ None) → (if b then read text else None) ≡ None
document-none-by text true e h = h (IsUtf8-from_is_utf8 text e)
document-none-by text false e h = refl

pub document-none : (text : List ℕ) → (IsUtf8 text → read text ≡ None) → document_of text ≡ None
document-none text h = document-none-by text (is_utf8 text) refl h
