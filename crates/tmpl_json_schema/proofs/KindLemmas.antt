-- For the call `read_schema`: what is computed of kinds holds of the values that have them.
use Rattle.std.proofs.Common.{◌≡◌, ◌⊎◌, Bool, true, false, ◌||◌, ◌&&◌, List, [], ◌∷◌, length, ℕ, ℤ, suc, Option, Some, None, IfSome, inl, inr, ap, refl, subst, unwrap_or, if◌then◌else◌, codes}
use Rattle.std.specs.Option.{option_map, option_map_or, option_and_then}
use Rattle.std.proofs.lemmas.Bool.{false≢true}
use Rattle.serde_json.specs.Data as json
use Rattle.serde_json.specs.Data.{Data, Items, no_items}
use Rattle.serde_json.specs.Find.{as_i64, get}
use Rattle.serde_json.specs.View.{items_view}
use Rattle.serde_json.specs.declared.value.Value as tree
use Rattle.tmpl_values.specs.Value.{Value, nothing, null, boolean, number, string, sequence, mapping}
use Rattle.tmpl_shape.specs.Shape.{Shape, never, nothings, nulls, truths, numbers, texts, exactly, anything, list_of, record_of, either, named, Names, Fields}
use Rattle.tmpl_shape.specs.Shape.{HasShape, value_of}
use Rattle.tmpl_shape.specs.declared.constant.Constant.{Constant}
use Rattle.tmpl_shape.specs.declared.constant.Constant.TheVariants as constant
use Rattle.tmpl_shape.specs.computed.Meet.{or_shape}
use Rattle.tmpl_shape.proofs.MeetLemmas.{or-one, or-other}
use Rattle.tmpl_json_schema.specs.Document.{IsInstance, HasType, type_of, SomeItem, IsNameOfType, IsOfType, IsConstant, IsOneOf}
use Rattle.tmpl_json_schema.specs.declared.kinds.Kinds.{Kinds}
use Rattle.tmpl_json_schema.specs.computed.Fitting.{HasKind}
use Rattle.tmpl_json_schema.specs.computed.Reading.{fold, either_kinds, both_kinds, no_kind, kind_named, kind_with, type_kinds}
use Rattle.tmpl_json_schema.specs.computed.Reading.{leaf_with, leaves, const_leaves, item_count, is_short, enum_leaves, leaves_in, constant_kind, constant_with, enum_kinds, or_if, by_kinds, has_kind, if_kind, keep_kinds}

or-left : (a b : Bool) → a ≡ true → (a || b) ≡ true
or-left true b e = refl
or-left false b e = absurd (false≢true e)

or-right : (a b : Bool) → b ≡ true → (a || b) ≡ true
or-right true b e = refl
or-right false b e = e

and-both : (a b : Bool) → a ≡ true → b ≡ true → (a && b) ≡ true
and-both true b e f = f
and-both false b e f = absurd (false≢true e)

-- what there is of one option, where another says which
pub is-some : {A : Type 0} → (P : A → Type 0) → (a b : A) → ◌≡◌ {A = Option A} (Some a) (Some b) → P a → P b
is-some P a b e h = let same : a ≡ b = cc in subst P same h

pub not-some : {A : Type 0} → (a : A) → ◌≡◌ {A = Option A} None (Some a) → ⊥
not-some a e = cc

pub left-kind : (a b : Kinds) (v : Value) → HasKind a v → HasKind (either_kinds a b) v
left-kind a b nothing h = h
left-kind a b null h = or-left a.null b.null h
left-kind a b (boolean c) h = or-left a.truth b.truth h
left-kind a b (number n) h = or-left a.number b.number h
left-kind a b (string s) h = or-left a.text b.text h
left-kind a b (sequence vs) h = or-left a.list b.list h
left-kind a b (mapping es) h = or-left a.map b.map h

pub right-kind : (a b : Kinds) (v : Value) → HasKind b v → HasKind (either_kinds a b) v
right-kind a b nothing h = h
right-kind a b null h = or-right a.null b.null h
right-kind a b (boolean c) h = or-right a.truth b.truth h
right-kind a b (number n) h = or-right a.number b.number h
right-kind a b (string s) h = or-right a.text b.text h
right-kind a b (sequence vs) h = or-right a.list b.list h
right-kind a b (mapping es) h = or-right a.map b.map h

pub both-kinds : (a b : Kinds) (v : Value) → HasKind a v → HasKind b v → HasKind (both_kinds a b) v
both-kinds a b nothing h k = h
both-kinds a b null h k = and-both a.null b.null h k
both-kinds a b (boolean c) h k = and-both a.truth b.truth h k
both-kinds a b (number n) h k = and-both a.number b.number h k
both-kinds a b (string s) h k = and-both a.text b.text h k
both-kinds a b (sequence vs) h k = and-both a.list b.list h k
both-kinds a b (mapping es) h k = and-both a.map b.map h k

-- ---- `type`

named-as : (v : Value) (ks : Kinds) → IsInstance v → kind_named (type_of v) ≡ Some ks → HasKind ks v
named-as nothing ks i e = absurd i
named-as null ks i e = is-some (λ k. HasKind k null) _ ks e refl
named-as (boolean b) ks i e = is-some (λ k. HasKind k (boolean b)) _ ks e refl
named-as (number n) ks i e = is-some (λ k. HasKind k (number n)) _ ks e refl
named-as (string s) ks i e = is-some (λ k. HasKind k (string s)) _ ks e refl
named-as (sequence vs) ks i e = is-some (λ k. HasKind k (sequence vs)) _ ks e refl
named-as (mapping es) ks i e = is-some (λ k. HasKind k (mapping es)) _ ks e refl

-- a whole number is a number
any-number : (v : Value) (ks : Kinds) → codes "integer" ≡ type_of v → kind_named (codes "number") ≡ Some ks → IsInstance v → HasKind ks v
any-number v ks same e i = named-as v ks i (subst (λ w. kind_named w ≡ Some ks) same e)

kind_named-has : (w : List ℕ) (ks : Kinds) (v : Value) → kind_named w ≡ Some ks → IsInstance v → HasType w v → HasKind ks v
kind_named-has w ks v e i h =
    elim h [
      | inl same ↦ named-as v ks i (subst (λ x. kind_named x ≡ Some ks) same e)
      | inr both ↦ any-number v ks both.1 (subst (λ x. kind_named x ≡ Some ks) both.0 e) i
    ]

kinds_with-has : (ds : Items) (a ks : Kinds) (v : Value) → fold kind_with a ds ≡ Some ks → IsInstance v
    → HasKind a v ⊎ SomeItem (IsNameOfType v) ds → HasKind ks v
kinds_with-has no_items a ks v e i h = elim h [ inl x ↦ is-some (λ k. HasKind k v) a ks e x | inr x ↦ absurd x ]
kinds_with-has (json.item (json.string w) ds) a ks v e i h = by (kind_named w) refl e (λ k f x. kinds_with-has ds (either_kinds a k) ks v f i x)
  where
    by : (o : Option Kinds) → kind_named w ≡ o → option_and_then (λ b. fold kind_with b ds) (option_map (either_kinds a) o) ≡ Some ks
        → ((k : Kinds) → fold kind_with (either_kinds a k) ds ≡ Some ks → HasKind (either_kinds a k) v ⊎ SomeItem (IsNameOfType v) ds → HasKind ks v)
        → HasKind ks v
    by None is f more = absurd (not-some ks f)
    by (Some k) is f more = more k f (elim h [
      | inl x ↦ inl (left-kind a k v x)
      | inr x ↦ elim x [ inl y ↦ inl (right-kind a k v (kind_named-has w k v is i y)) | inr y ↦ inr y ]
    ])
kinds_with-has (json.item d ds) a ks v e i h = absurd (not-some ks e)

pub type_kinds-has : (d : Data) (ks : Kinds) (v : Value) → type_kinds d ≡ Some ks → IsInstance v → IsOfType v d → HasKind ks v
type_kinds-has (json.string w) ks v e i h = kind_named-has w ks v e i h
type_kinds-has (json.array ds) ks v e i h = kinds_with-has ds no_kind ks v e i (inr h)
type_kinds-has d ks v e i h = absurd (not-some ks e)

-- ---- `const` and `enum`

pub constant_kind-has : (v : Value) (d : Data) → IsConstant v d → HasKind (constant_kind d) v
constant_kind-has null json.null h = refl
constant_kind-has (boolean b) (json.boolean c) h = refl
constant_kind-has (number n) (json.number m) h = refl
constant_kind-has (string s) (json.string t) h = refl
constant_kind-has (sequence vs) (json.array ds) h = refl
constant_kind-has (mapping es) (json.object ms) h = refl
constant_kind-has v d h = absurd h

constants-has : (ds : Items) (a ks : Kinds) (v : Value) → fold constant_with a ds ≡ Some ks → HasKind a v ⊎ SomeItem (IsConstant v) ds → HasKind ks v
constants-has no_items a ks v e h = elim h [ inl x ↦ is-some (λ k. HasKind k v) a ks e x | inr x ↦ absurd x ]
constants-has (json.item d ds) a ks v e h = constants-has ds (either_kinds a (constant_kind d)) ks v e (elim h [
  | inl x ↦ inl (left-kind a (constant_kind d) v x)
  | inr x ↦ elim x [ inl y ↦ inl (right-kind a (constant_kind d) v (constant_kind-has v d y)) | inr y ↦ inr y ]
])

pub enum_kinds-has : (d : Data) (ks : Kinds) (v : Value) → enum_kinds d ≡ Some ks → IsOneOf v d → HasKind ks v
enum_kinds-has (json.array ds) ks v e h = constants-has ds no_kind ks v e (inr h)
enum_kinds-has d ks v e h = absurd (not-some ks e)

pub items-count : (vs : List tree.Value) → item_count (items_view vs) ≡ length vs
items-count [] = refl
items-count (v ∷ vs) = ap suc (items-count vs)

pub ruleset item_counts = (items-count)

-- ---- shapes

module _ (N : Names) where
  or_if-one : (c : Bool) (s t : Shape) (v : Value) → c ≡ true → HasShape N s v → HasShape N (or_if c s t) v
  or_if-one true s t v e h = or-one N s t v h
  or_if-one false s t v e h = absurd (false≢true e)

  or_if-other : (c : Bool) (s t : Shape) (v : Value) → HasShape N t v → HasShape N (or_if c s t) v
  or_if-other true s t v h = or-other N s t v h
  or_if-other false s t v h = h

  -- ---- strings, numbers and booleans

  abbrev pub IsLeaf : Value → Type 0
  IsLeaf (boolean b) = Unit {0}
  IsLeaf (number n) = Unit {0}
  IsLeaf (string s) = Unit {0}
  IsLeaf v = ⊥

  leaves-has : (v : Value) → IsLeaf v → HasShape N leaves v
  leaves-has (boolean b) l = inl tt
  leaves-has (number n) l = inr (inl tt)
  leaves-has (string s) l = inr (inr tt)
  leaves-has v l = absurd l

  const_leaves-has : (v : Value) (d : Data) → IsLeaf v → IsConstant v d → HasShape N (const_leaves d) v
  const_leaves-has (boolean b) (json.boolean c) l h = ap boolean h
  const_leaves-has (number n) (json.number m) l h = by (as_i64 m) h
    where
      by : (o : Option ℤ) → IfSome o (λ i. n ≡ i) → HasShape N (option_map_or (λ i. exactly (constant.Number i)) o numbers) (number n)
      by (Some i) e = ap number e
      by None e = tt
  const_leaves-has (string s) (json.string t) l h = ap string h
  const_leaves-has nothing d l h = absurd l
  const_leaves-has null d l h = absurd l
  const_leaves-has (sequence vs) d l h = absurd l
  const_leaves-has (mapping es) d l h = absurd l
  const_leaves-has v d l h = absurd h

  leaves_with-has : (v : Value) (ds : Items) (a b : Shape) → IsLeaf v → fold leaf_with a ds ≡ Some b → HasShape N a v ⊎ SomeItem (IsConstant v) ds
      → HasShape N b v
  leaves_with-has v no_items a b l e h = elim h [ inl x ↦ is-some (λ t. HasShape N t v) a b e x | inr x ↦ absurd x ]
  leaves_with-has v (json.item d ds) a b l e h = leaves_with-has v ds (or_shape (const_leaves d) a) b l e (elim h [
    | inl x ↦ inl (or-other N (const_leaves d) a v x)
    | inr x ↦ elim x [ inl y ↦ inl (or-one N (const_leaves d) a v (const_leaves-has v d l y)) | inr y ↦ inr y ]
  ])

  enum_leaves-has : (v : Value) (d : Data) → IsLeaf v → IsOneOf v d → HasShape N (enum_leaves d) v
  enum_leaves-has v (json.array ds) l h = by (is_short ds) (fold leaf_with never ds) refl
    where
      by : (c : Bool) (o : Option Shape) → fold leaf_with never ds ≡ o → HasShape N (if c then unwrap_or o leaves else leaves) v
      by false o e = leaves-has v l
      by true None e = leaves-has v l
      by true (Some t) e = leaves_with-has v ds never t l e (inr h)
  enum_leaves-has v d l h = leaves-has v l

  pub leaves_in-has : (v : Value) (d : Data) → IsLeaf v → IfSome (get (codes "const") d) (IsConstant v) → IfSome (get (codes "enum") d) (IsOneOf v)
      → HasShape N (leaves_in d) v
  leaves_in-has v d l c n = by (get (codes "const") d) c (get (codes "enum") d) n
    where
      by : (o : Option Data) → IfSome o (IsConstant v) → (p : Option Data) → IfSome p (IsOneOf v)
          → HasShape N (option_map_or const_leaves o (option_map_or enum_leaves p leaves)) v
      by (Some x) h p k = const_leaves-has v x l h
      by None h (Some x) k = enum_leaves-has v x l k
      by None h None k = leaves-has v l

  if_kind-has : (c : Bool) (s : Shape) (v : Value) → c ≡ true → HasShape N s v → HasShape N (if_kind c s) v
  if_kind-has true s v e h = h
  if_kind-has false s v e h = absurd (false≢true e)

  constant-kept : (ks : Kinds) (c : Constant) → HasKind ks (value_of c) → has_kind ks c ≡ true
  constant-kept ks (constant.Bool b) h = h
  constant-kept ks (constant.Number n) h = h
  constant-kept ks (constant.Text s) h = h

  pub kept-has : (ks : Kinds) (s : Shape) (v : Value) → HasKind ks v → HasShape N s v → HasShape N (keep_kinds ks s) v
  kept-has ks never v k h = h
  kept-has ks nothings nothing k h = k
  kept-has ks nothings v k h = absurd h
  kept-has ks nulls null k h = if_kind-has ks.null nulls null k h
  kept-has ks nulls v k h = absurd h
  kept-has ks truths (boolean b) k h = if_kind-has ks.truth truths (boolean b) k h
  kept-has ks truths v k h = absurd h
  kept-has ks numbers (number n) k h = if_kind-has ks.number numbers (number n) k h
  kept-has ks numbers v k h = absurd h
  kept-has ks texts (string s) k h = if_kind-has ks.text texts (string s) k h
  kept-has ks texts v k h = absurd h
  kept-has ks (exactly c) v k h = if_kind-has (has_kind ks c) (exactly c) v (constant-kept ks c (subst (HasKind ks) h k)) h
  kept-has ks (list_of n s) (sequence vs) k h = if_kind-has ks.list (list_of n s) (sequence vs) k h
  kept-has ks (list_of n s) v k h = absurd h
  kept-has ks (record_of fs) (mapping es) k h = if_kind-has ks.map (record_of fs) (mapping es) k h
  kept-has ks (record_of fs) v k h = absurd h
  kept-has ks (either s t) v k h = elim h [
    | inl x ↦ or-one N (keep_kinds ks s) (keep_kinds ks t) v (kept-has ks s v k x)
    | inr x ↦ or-other N (keep_kinds ks s) (keep_kinds ks t) v (kept-has ks t v k x)
  ]
  kept-has ks anything v k h = h
  kept-has ks (named x) v k h = h

  -- strings, numbers and booleans have this shape, and what is inside has the shapes of items, of which there are at least as many, and of fields
  abbrev pub HasParts : Shape → ℕ → Shape → Fields → Value → Type 0
  HasParts ls n i fs (sequence vs) = HasShape N (list_of n i) (sequence vs)
  HasParts ls n i fs (mapping es) = HasShape N (record_of fs) (mapping es)
  HasParts ls n i fs nothing = Unit {0}
  HasParts ls n i fs null = Unit {0}
  HasParts ls n i fs v = HasShape N ls v

  module _ (ks : Kinds) (ls : Shape) (n : ℕ) (i : Shape) (fs : Fields) (v : Value) where
    abbrev maps : Shape
    maps = or_if ks.map (record_of fs) never

    abbrev lists : Shape
    lists = or_if ks.list (list_of n i) maps

    from-lists : HasShape N lists v → HasShape N (by_kinds ks ls n i fs) v
    from-lists h = or_if-other ks.null nulls (or_shape (keep_kinds ks ls) lists) v (or-other N (keep_kinds ks ls) lists v h)

    from-leaves : HasKind ks v → HasShape N ls v → HasShape N (by_kinds ks ls n i fs) v
    from-leaves k h = or_if-other ks.null nulls (or_shape (keep_kinds ks ls) lists) v (or-one N (keep_kinds ks ls) lists v (kept-has ks ls v k h))

  pub by_kinds-has : (ks : Kinds) (ls : Shape) (n : ℕ) (i : Shape) (fs : Fields) (v : Value) → HasKind ks v → HasParts ls n i fs v → HasShape N (by_kinds ks ls n i fs) v
  by_kinds-has ks ls n i fs nothing h p = absurd h
  by_kinds-has ks ls n i fs null h p = or_if-one ks.null nulls (or_shape (keep_kinds ks ls) (lists ks ls n i fs null)) null h tt
  by_kinds-has ks ls n i fs (boolean b) h p = from-leaves ks ls n i fs (boolean b) h p
  by_kinds-has ks ls n i fs (number m) h p = from-leaves ks ls n i fs (number m) h p
  by_kinds-has ks ls n i fs (string s) h p = from-leaves ks ls n i fs (string s) h p
  by_kinds-has ks ls n i fs (sequence vs) h p = from-lists ks ls n i fs (sequence vs) (or_if-one ks.list (list_of n i) (maps ks ls n i fs (sequence vs)) (sequence vs) h p)
  by_kinds-has ks ls n i fs (mapping es) h p =
      from-lists ks ls n i fs (mapping es) (or_if-other ks.list (list_of n i) (maps ks ls n i fs (mapping es)) (mapping es) (or_if-one ks.map (record_of fs) never (mapping es) h p))
