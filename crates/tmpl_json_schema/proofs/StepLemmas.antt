-- For the loops of `infer.rt`: what one more sample, item, map or type adds.
use Rattle.std.proofs.Common.{◌≡◌, inl, inr, ◌<◌, ◌+◌, ◌++◌, ℕ, List, [], ◌∷◌, length, take, get_or, map, flat_map, filter_map, Option, Some, None, IfSome, String, Global, BTreeMap, refl, sym, subst, ap, ◌∙◌, arith}
use Rattle.std.proofs.Common.{zero, suc, ◌≤◌}
use Rattle.std.proofs.lemmas.Slice.Eq.{bytes_eq-Decides}
use Rattle.std.proofs.Common.{true, false, Bool, ◌||◌, ◌⊎◌}
use Rattle.std.proofs.lemmas.Bool.{false≢true}
use Rattle.std.specs.Borrow.{Bor}
use Rattle.std.specs.List.{AllByRecursion, list_any}
use Rattle.std.proofs.lemmas.Grind.{flat_map-append}
use Rattle.std.proofs.lemmas.List.{append-nil, map-append, take_more}
use Rattle.std.proofs.lemmas.List.Elements.{filter_map-append}
use Rattle.serde_json.specs.declared.value.Value.{Value}
use Rattle.serde_json.specs.Data as json
use Rattle.serde_json.specs.Data.{no_items, depth, items_depth, Data, null, boolean, number, string, array, object, Items, Members}
use Rattle.serde_json.specs.Find.{as_array, as_object, get_member}
use Rattle.serde_json.specs.View.{view, items_view, members_view}
use Rattle.tmpl_values.specs.Value as value
use Rattle.tmpl_values.specs.Json.{tree_value}
use Rattle.tmpl_json_schema.specs.Document.{IsNameOfType, IsOfType, SomeItem, type_of}
use Rattle.tmpl_shape.proofs.ShapeLemmas.{or_cases}
use Rattle.tmpl_json_schema.specs.Inferred.{AreDistinct, AreTexts, NamesTypes}
use Rattle.tmpl_json_schema.specs.computed.Inferred.{seen, maps_seen, items_among, items_of_list, values_among, EachValue, IsOnlyOrList, is_text}

abbrev Map : Type 0
Map = BTreeMap (String Global) Value

-- ---- one more sample

pub seen-more : (xs : List (Bor Value)) (i : ℕ) (x : Bor Value) → i < length xs → x ≡ get_or xs i x
    → seen (take (i + 1) xs) ≡ seen (take i xs) ++ view x.now ∷ []
seen-more xs i x within is =
    ap seen (take_more xs i x within ∙ ap (λ y. take i xs ++ y ∷ []) (sym is)) ∙ map-append (λ (s : Bor Value). view s.now) (take i xs) (x ∷ [])

pub maps-more : (xs : List (Bor Map)) (i : ℕ) (x : Bor Map) → i < length xs → x ≡ get_or xs i x
    → maps_seen (take (i + 1) xs) ≡ maps_seen (take i xs) ++ members_view x.now.entries ∷ []
maps-more xs i x within is =
    ap maps_seen (take_more xs i x within ∙ ap (λ y. take i xs ++ y ∷ []) (sym is)) ∙ map-append (λ (m : Bor Map). members_view m.now.entries) (take i xs) (x ∷ [])

pub all-more : {A : Type 0} (P : A → Type 0) (xs : List A) (x : A) → AllByRecursion P xs → P x → AllByRecursion P (xs ++ x ∷ [])
all-more P [] x h p = (p, tt)
all-more P (y ∷ xs) x h p = (h.0, all-more P xs x h.1 p)

-- ---- maps

pub map-found : (maps : List (Bor Map)) (before : List Data) (d : Data) (m : Bor Map) → maps_seen maps ≡ filter_map as_object before
    → Some (members_view m.now.entries) ≡ as_object d → maps_seen (maps ++ m ∷ []) ≡ filter_map as_object (before ++ d ∷ [])
map-found maps before d m so is =
    map-append (λ (m : Bor Map). members_view m.now.entries) maps (m ∷ []) ∙ rw (so, filter_map-append as_object before (d ∷ []), ← is) refl

pub map-not_found : (maps : List (Bor Map)) (before : List Data) (d : Data) → maps_seen maps ≡ filter_map as_object before
    → None ≡ as_object d → maps_seen maps ≡ filter_map as_object (before ++ d ∷ [])
map-not_found maps before d so is = rw (so, filter_map-append as_object before (d ∷ []), ← is) (sym (append-nil _))

-- ---- items

items-among : (vs : List Value) → items_among (items_view vs) ≡ map view vs
items-among [] = refl
items-among (v ∷ vs) = ap (λ ds. view v ∷ ds) (items-among vs)

items-of : (d : Data) (vs : List Value) → Some (items_view vs) ≡ as_array d → items_of_list d ≡ map view vs
items-of null vs is = cc
items-of (boolean b) vs is = cc
items-of (number n) vs is = cc
items-of (string s) vs is = cc
items-of (array ds) vs is = let same : items_view vs ≡ ds = cc in rw (← same) (items-among vs)
items-of (object ms) vs is = cc

no-items-of : (d : Data) → None ≡ as_array d → items_of_list d ≡ []
no-items-of null is = refl
no-items-of (boolean b) is = refl
no-items-of (number n) is = refl
no-items-of (string s) is = refl
no-items-of (array ds) is = cc
no-items-of (object ms) is = refl

pub items-found : (all new : List (Bor Value)) (before : List Data) (d : Data) (vs : List Value) → seen all ≡ flat_map items_of_list before
    → Some (items_view vs) ≡ as_array d → seen new ≡ seen all ++ map view vs → seen new ≡ flat_map items_of_list (before ++ d ∷ [])
items-found all new before d vs so is added =
    added ∙ rw (so, flat_map-append items_of_list before (d ∷ []), items-of d vs is, append-nil (map view vs)) refl

pub items-not_found : (all : List (Bor Value)) (before : List Data) (d : Data) → seen all ≡ flat_map items_of_list before
    → None ≡ as_array d → seen all ≡ flat_map items_of_list (before ++ d ∷ [])
items-not_found all before d so is = rw (so, flat_map-append items_of_list before (d ∷ []), no-items-of d is) (sym (append-nil _))

pub values-more : (before : List Members) (ms : Members) → flat_map values_among before ++ values_among ms ≡ flat_map values_among (before ++ ms ∷ [])
values-more before ms = sym (rw (flat_map-append values_among before (ms ∷ []), append-nil (values_among ms)) refl)

-- ---- what maps have under a key

pub value-found : (values : List (Bor Value)) (before : List Members) (k : List ℕ) (ms : Members) (x : Bor Value) → seen values ≡ filter_map (get_member k) before
    → Some (view x.now) ≡ get_member k ms → seen (values ++ x ∷ []) ≡ filter_map (get_member k) (before ++ ms ∷ [])
value-found values before k ms x so is =
    map-append (λ (s : Bor Value). view s.now) values (x ∷ []) ∙ rw (so, filter_map-append (get_member k) before (ms ∷ []), ← is) refl

pub value-not_found : (values : List (Bor Value)) (before : List Members) (k : List ℕ) (ms : Members) → seen values ≡ filter_map (get_member k) before
    → None ≡ get_member k ms → seen values ≡ filter_map (get_member k) (before ++ ms ∷ [])
value-not_found values before k ms so is = rw (so, filter_map-append (get_member k) before (ms ∷ []), ← is) (sym (append-nil _))

-- ---- types

pub some-at : (P : Data → Type 0) (vs : List Value) (i : ℕ) (v : Value) → i < length vs → v ≡ get_or vs i v → P (view v) → SomeItem P (items_view vs)
some-at P [] i v within is p = absurd (omega arith)
some-at P (w ∷ vs) zero v within is p = inl (subst (λ x. P (view x)) is p)
some-at P (w ∷ vs) (suc i) v within is p = inr (some-at P vs i v (omega arith) is p)

some-as : (P Q : Data → Type 0) (ds : Items) → ((d : Data) → P d → Q d) → SomeItem P ds → SomeItem Q ds
some-as P Q no_items next h = h
some-as P Q (json.item d ds) next (inl p) = inl (next d p)
some-as P Q (json.item d ds) next (inr h) = inr (some-as P Q ds next h)

some-left : (P : Data → Type 0) (vs ws : List Value) → SomeItem P (items_view vs) → SomeItem P (items_view (vs ++ ws))
some-left P [] ws h = absurd h
some-left P (v ∷ vs) ws (inl p) = inl p
some-left P (v ∷ vs) ws (inr h) = inr (some-left P vs ws h)

some-last : (P : Data → Type 0) (vs : List Value) (v : Value) → P (view v) → SomeItem P (items_view (vs ++ v ∷ []))
some-last P [] v p = inl p
some-last P (w ∷ vs) v p = inr (some-last P vs v p)

abbrev pub AreNamed : List Value → List Data → Type 0
AreNamed types samples = EachValue (λ v. SomeItem (IsNameOfType v) (items_view types)) samples

named-more : (types more : List Value) (samples : List Data) → AreNamed types samples → AreNamed (types ++ more) samples
named-more types more [] h = tt
named-more types more (d ∷ samples) h = (by (tree_value d) h.0, named-more types more samples h.1)
  where
    by : (o : Option value.Value) → IfSome o (λ v. SomeItem (IsNameOfType v) (items_view types)) → IfSome o (λ v. SomeItem (IsNameOfType v) (items_view (types ++ more)))
    by None h = tt
    by (Some v) h = some-left (IsNameOfType v) types more h

named-so : (d : Data) (name : List ℕ) (ds : Items) → IfSome (tree_value d) (λ v. name ≡ type_of v) → SomeItem (λ t. t ≡ string name) ds
    → IfSome (tree_value d) (λ v. SomeItem (IsNameOfType v) ds)
named-so d name ds is h = by (tree_value d) is
  where
    by : (o : Option value.Value) → IfSome o (λ v. name ≡ type_of v) → IfSome o (λ v. SomeItem (IsNameOfType v) ds)
    by None is = tt
    by (Some v) is = some-as (λ t. t ≡ string name) (IsNameOfType v) ds (λ t e. rw e (inl is)) h

pub type-known : (types : List Value) (samples : List Data) (d : Data) (name : List ℕ) → AreNamed types samples → IfSome (tree_value d) (λ v. name ≡ type_of v)
    → SomeItem (λ t. t ≡ string name) (items_view types) → AreNamed types (samples ++ d ∷ [])
type-known types samples d name so is h =
    all-more (λ d. IfSome (tree_value d) (λ v. SomeItem (IsNameOfType v) (items_view types))) samples d so (named-so d name (items_view types) is h)

pub type-added : (types : List Value) (samples : List Data) (d : Data) (name : List ℕ) (t : Value) → AreNamed types samples → IfSome (tree_value d) (λ v. name ≡ type_of v)
    → view t ≡ string name → AreNamed (types ++ t ∷ []) (samples ++ d ∷ [])
type-added types samples d name t so is e =
    type-known (types ++ t ∷ []) samples d name (named-more types (t ∷ []) samples so) is (some-last (λ t. t ≡ string name) types t e)

pub flat-more : (vs : List Value) (v : Value) (name : List ℕ) → items_depth (items_view vs) ≤ 0 → view v ≡ string name → items_depth (items_view (vs ++ v ∷ [])) ≤ 0
flat-more [] v name h e = rw e (omega arith)
flat-more (w ∷ vs) v name h e = let rest = flat-more vs v name (omega arith) e in omega arith

-- .. as a value that is told
one-named : (v : value.Value) (t : Data) → IsNameOfType v t → IsOfType v t
one-named v null h = absurd h
one-named v (boolean b) h = absurd h
one-named v (number n) h = absurd h
one-named v (string s) h = h
one-named v (array ds) h = absurd h
one-named v (object ms) h = absurd h

only-named : (v : value.Value) (ds : Items) (t : Data) → IsOnlyOrList ds t → SomeItem (IsNameOfType v) ds → IsOfType v t
only-named v ds t (inl e) h = by (rw e at h)
  where
    by : SomeItem (IsNameOfType v) (json.item t no_items) → IsOfType v t
    by (inl p) = one-named v t p
    by (inr p) = absurd p
only-named v ds t (inr e) h = rw e h

pub types-told : (types : List Value) (t : Data) (samples : List Data) → IsOnlyOrList (items_view types) t → AreNamed types samples → EachValue (λ v. IsOfType v t) samples
types-told types t [] e h = tt
types-told types t (d ∷ samples) e h = (by (tree_value d) h.0, types-told types t samples e h.1)
  where
    by : (o : Option value.Value) → IfSome o (λ v. SomeItem (IsNameOfType v) (items_view types)) → IfSome o (λ v. IsOfType v t)
    by None h = tt
    by (Some v) h = only-named v (items_view types) t e h

pub types-flat : (ds : Items) (t : Data) → IsOnlyOrList ds t → items_depth ds ≤ 0 → depth t ≤ 1
types-flat ds t (inl e) flat = let h : items_depth (json.item t no_items) ≤ 0 = rw e at flat in omega arith
types-flat ds t (inr e) flat = rw e (omega arith)

text-is : (t : List ℕ) (d : Data) → is_text t d ≡ true → d ≡ string t
text-is t (string s) e = ap string ((bytes_eq-Decides s t).0 e)
text-is t d e = absurd (false≢true e)

is-text : (t : List ℕ) (d : Data) → d ≡ string t → is_text t d ≡ true
is-text t d e = rw e ((bytes_eq-Decides t t).1 refl)

-- one of these values is this text
pub text-there : (t : List ℕ) (vs : List Value) → list_any (λ v. is_text t (view v)) vs ≡ true → SomeItem (λ d. d ≡ string t) (items_view vs)
text-there t [] e = absurd (false≢true e)
text-there t (v ∷ vs) e = elim (or_cases (is_text t (view v)) (list_any (λ v. is_text t (view v)) vs) e) [
  | inl x ↦ inl (text-is t (view v) x)
  | inr x ↦ inr (text-there t vs x)
]

-- .. or none is
pub text-absent : (t : List ℕ) (vs : List Value) → list_any (λ v. is_text t (view v)) vs ≡ false → SomeItem (λ d. d ≡ string t) (items_view vs) → ⊥
text-absent t [] e h = h
text-absent t (v ∷ vs) e (inl is) =
    let there : is_text t (view v) ≡ true = is-text t (view v) is in
    false≢true (sym e ∙ ap (λ b. b || list_any (λ v. is_text t (view v)) vs) there)
text-absent t (v ∷ vs) e (inr h) = text-absent t vs (rest (is_text t (view v)) e) h
  where
    rest : (b : Bool) → (b || list_any (λ v. is_text t (view v)) vs) ≡ false → list_any (λ v. is_text t (view v)) vs ≡ false
    rest true e = absurd (false≢true (sym e))
    rest false e = e

-- ---- names, each of them once

pub texts-more : (vs : List Value) (v : Value) (name : List ℕ) → AreTexts (items_view vs) → view v ≡ string name → AreTexts (items_view (vs ++ v ∷ []))
texts-more [] v name h is = ((name, is), tt)
texts-more (w ∷ vs) v name h is = (h.0, texts-more vs v name h.1 is)

some-before : (P : Data → Type 0) (vs : List Value) (v : Value) → SomeItem P (items_view (vs ++ v ∷ [])) → SomeItem P (items_view vs) ⊎ P (view v)
some-before P [] v (inl p) = inr p
some-before P [] v (inr h) = absurd h
some-before P (w ∷ vs) v (inl p) = inl (inl p)
some-before P (w ∷ vs) v (inr h) = elim (some-before P vs v h) [ inl q ↦ inl (inr q) | inr p ↦ inr p ]

pub distinct-more : (vs : List Value) (v : Value) (name : List ℕ) → AreDistinct (items_view vs) → view v ≡ string name
    → (SomeItem (λ d. d ≡ string name) (items_view vs) → ⊥) → AreDistinct (items_view (vs ++ v ∷ []))
distinct-more [] v name h is new = (λ none. none, tt)
distinct-more (w ∷ vs) v name h is new = (
  λ again. elim (some-before (λ other. other ≡ view w) vs v again) [ inl q ↦ h.0 q | inr e ↦ new (inl (sym e ∙ is)) ],
  distinct-more vs v name h.1 is (λ there. new (inr there)),
)

pub types-named : (ds : Items) (t : Data) → IsOnlyOrList ds t → AreTexts ds → AreDistinct ds → NamesTypes t
types-named ds t (inl e) texts apart = by t (rw e at texts)
  where
    by : (t : Data) → AreTexts (json.item t no_items) → NamesTypes t
    by t h = let is = h.0.1 in rw is tt
types-named ds t (inr e) texts apart = rw e (texts, apart)
