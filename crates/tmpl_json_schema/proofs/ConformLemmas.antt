-- For `schema_of`: a sample conforms to what is told of all samples.
use Rattle.std.proofs.Common.{◌≡◌, ◌⊎◌, inl, inr, ◌≤◌, ◌++◌, ℕ, zero, suc, List, [], ◌∷◌, flat_map, filter_map, Bool, true, false, Option, Some, None, IfSome, IsSome, option_map, option_and_then, codes, refl, sym, subst, ap, ◌∙◌, arith, bytes_eq}
use Rattle.std.specs.Bool.{if◌then◌else◌}
use Rattle.std.specs.Cmp.Lexicographic.{slice_cmp}
use Rattle.std.specs.Ordering.{match_ordering, is_eq}
use Rattle.std.proofs.Common.{Ordering, Less, Equal, Greater, nat_cmp}
use Rattle.std.specs.Borrow.{Bor}
use Rattle.std.proofs.Common.{length}
use Rattle.serde_json.specs.declared.value.Value as tree
use Rattle.serde_json.specs.View.{view, items_view}
use Rattle.serde_json.proofs.Views.{get_member-put_other}
use Rattle.tmpl_json_schema.specs.Inferred.{AreTexts, Conforms, EachInferred, HasInferred, IsInferred, NamesTypes}
use Rattle.tmpl_json_schema.specs.computed.Inferred.{seen}
use Rattle.std.specs.List.{AllByRecursion, cons_option}
use Rattle.std.proofs.lemmas.Map.Text.{is_eq-slice_cmp}
use Rattle.std.proofs.lemmas.Slice.Eq.{bytes_eq-Decides}
use Rattle.serde_json.specs.Data as json
use Rattle.serde_json.specs.Data.{Data, null, boolean, number, string, array, object, Items, no_items, Members, no_members, member, put, depth, items_depth, members_depth}
use Rattle.serde_json.specs.Find.{as_i64, as_object, get_member}
use Rattle.tmpl_values.specs.Value as value
use Rattle.tmpl_values.specs.Value.{Value, sequence, mapping, item, Entries, no_entry, entry}
use Rattle.tmpl_values.specs.Field.{entry_at}
use Rattle.tmpl_values.specs.Json.{tree_value, tree_items, tree_entries}
use Rattle.tmpl_shape.specs.Shape.{EachItem, EachEntry, AreDistinct}
use Rattle.tmpl_shape.proofs.ShapeLemmas.{bytes-turned}
use Rattle.tmpl_json_schema.specs.Document.{IsInstance, IsOfType, HasKeys, EachKey, FitsProperty, FitsProperties, FitsAdditional, FitsItems, ConformsBy, base_of, conforms_in, of_each}
use Rattle.tmpl_json_schema.specs.computed.Inferred.{items_among, items_of_list, values_among, EachValue, Fits, room, AddsItems, AddsOthers, ArePropertiesOf, AreSharedBy, AreTold, AddsProperties}

-- ---- what is among a list

abbrev pub Member : {A : Type 0} → A → List A → Type 0
Member x [] = ⊥
Member x (y ∷ ys) = (y ≡ x) ⊎ Member x ys

pub all-at : {A : Type 0} (P : A → Type 0) (x : A) (ys : List A) → AllByRecursion P ys → Member x ys → P x
all-at P x [] h m = absurd m
all-at P x (y ∷ ys) h (inl e) = subst P e h.0
all-at P x (y ∷ ys) h (inr m) = all-at P x ys h.1 m

pub all-from : {A : Type 0} (P : A → Type 0) (ys : List A) → ((x : A) → Member x ys → P x) → AllByRecursion P ys
all-from P [] h = tt
all-from P (y ∷ ys) h = (h y (inl refl), all-from P ys (λ x m. h x (inr m)))

member-left : {A : Type 0} (x : A) (ys zs : List A) → Member x ys → Member x (ys ++ zs)
member-left x [] zs m = absurd m
member-left x (y ∷ ys) zs (inl e) = inl e
member-left x (y ∷ ys) zs (inr m) = inr (member-left x ys zs m)

member-right : {A : Type 0} (x : A) (ys zs : List A) → Member x zs → Member x (ys ++ zs)
member-right x [] zs m = m
member-right x (y ∷ ys) zs m = inr (member-right x ys zs m)

member-flat_map : {A B : Type 0} (f : A → List B) (x : B) (s : A) (ss : List A) → Member s ss → Member x (f s) → Member x (flat_map f ss)
member-flat_map f x s [] m n = absurd m
member-flat_map f x s (y ∷ ss) (inl e) n = member-left x (f y) (flat_map f ss) (subst (λ z. Member x (f z)) (sym e) n)
member-flat_map f x s (y ∷ ss) (inr m) n = member-right x (f y) (flat_map f ss) (member-flat_map f x s ss m n)

member-cons_option : {B : Type 0} (x : B) (o : Option B) (ys : List B) → Member x ys → Member x (cons_option o ys)
member-cons_option x None ys m = m
member-cons_option x (Some y) ys m = inr m

member-filter_map : {A B : Type 0} (h : A → Option B) (x : B) (s : A) (ss : List A) → Member s ss → h s ≡ Some x → Member x (filter_map h ss)
member-filter_map h x s [] m is = absurd m
member-filter_map h x s (y ∷ ss) (inl e) is = let here : h y ≡ Some x = ap h e ∙ is in rw here (inl refl)
member-filter_map h x s (y ∷ ss) (inr m) is = member-cons_option x (h y) (filter_map h ss) (member-filter_map h x s ss m is)

-- ---- what is there is built of what is there

pub if-all : {A : Type 0} (P : A → Type 0) (o : Option A) → ((a : A) → o ≡ Some a → P a) → IfSome o P
if-all P None h = tt
if-all P (Some a) h = h a refl

pub if-some : {A : Type 0} (P : A → Type 0) (o : Option A) (a : A) → IfSome o P → o ≡ Some a → P a
if-some P None a h is = cc
if-some P (Some b) a h is = let e : b ≡ a = cc in subst P e h

pub mapped : {A B : Type 0} (Q : B → Type 0) (f : A → B) {P : A → Type 0} (o : Option A) → IfSome o P → ((a : A) → P a → Q (f a)) → IfSome (option_map f o) Q
mapped Q f None h next = tt
mapped Q f (Some a) h next = next a h

pub chained : {A B : Type 0} (Q : B → Type 0) (f : A → Option B) {P : A → Type 0} (o : Option A) → IfSome o P → ((a : A) → P a → IfSome (f a) Q)
    → IfSome (option_and_then f o) Q
chained Q f None h next = tt
chained Q f (Some a) h next = next a h

-- ---- items

each-item : (P : Value → Type 0) (ds : Items) → ((x : Data) → Member x (items_among ds) → IfSome (tree_value x) P) → IfSome (tree_items ds) (EachItem P)
each-item P no_items h = tt
each-item P (json.item d ds) h = chained _ (λ v. option_map (item v) (tree_items ds)) (tree_value d) (h d (inl refl)) (λ v p.
    mapped _ (item v) (tree_items ds) (each-item P ds (λ x m. h x (inr m))) (λ vs ps. (p, ps)))

pub always : {A : Type 0} (o : Option A) → IfSome o (λ a. Unit {0})
always None = tt
always (Some a) = tt

module _ (C : Data → Value → Type 0) where
  fits-items : (d s : Data) → ((x : Data) → Member x (items_of_list s) → IfSome (tree_value x) (C d)) → IfSome (tree_value s) (λ v. FitsItems C v d)
  fits-items d null h = tt
  fits-items d (boolean b) h = tt
  fits-items d (number x) h = mapped _ value.number (as_i64 x) (always _) (λ z _. tt)
  fits-items d (string t) h = tt
  fits-items d (array ds) h = mapped _ sequence (tree_items ds) (each-item (C d) ds h) (λ vs all. all)
  fits-items d (object ms) h = mapped _ mapping (tree_entries ms) (always _) (λ es _. tt)

-- ---- the values of maps

each-value : (P : Value → Type 0) (ms : Members) → ((x : Data) → Member x (values_among ms) → IfSome (tree_value x) P)
    → IfSome (tree_entries ms) (EachEntry (λ k v. P v))
each-value P no_members h = tt
each-value P (member k d ms) h = chained _ (λ v. option_map (entry k v) (tree_entries ms)) (tree_value d) (h d (inl refl)) (λ v p.
    mapped _ (entry k v) (tree_entries ms) (each-value P ms (λ x m. h x (inr m))) (λ es ps. (p, ps)))

each-weaker : (P Q : List ℕ → Value → Type 0) (es : Entries) → ((k : List ℕ) (v : Value) → P k v → Q k v) → EachEntry P es → EachEntry Q es
each-weaker P Q no_entry w h = tt
each-weaker P Q (entry k v es) w h = (w k v h.0, each-weaker P Q es w h.1)

module _ (C : Data → Value → Type 0) where
  fits-others : (d s : Data) → ((ms : Members) → as_object s ≡ Some ms → (x : Data) → Member x (values_among ms) → IfSome (tree_value x) (C d))
      → IfSome (tree_value s) (λ v. FitsAdditional C None None v d)
  fits-others d null h = tt
  fits-others d (boolean b) h = tt
  fits-others d (number x) h = mapped _ value.number (as_i64 x) (always _) (λ z _. tt)
  fits-others d (string t) h = tt
  fits-others d (array ds) h = mapped _ sequence (tree_items ds) (always _) (λ vs _. tt)
  fits-others d (object ms) h = mapped _ mapping (tree_entries ms) (each-value (C d) ms (h ms refl)) (λ es all.
      each-weaker (λ k v. C d v) _ es (λ k v c _. inr c) all)

-- ---- entries

-- what an object has under a key, and the entry of that key in its value
abbrev pub AreAlike : List ℕ → Option Data → Option Value → Type 0
AreAlike k None found = found ≡ None
AreAlike k (Some d) found = (w : Value) × (tree_value d ≡ Some w) × (found ≡ Some w)

alike-more : (k l : List ℕ) (o : Ordering) (d : Data) (w : Value) (found : Option Data) (rest : Option Value) → is_eq o ≡ bytes_eq l k
    → tree_value d ≡ Some w → AreAlike k found rest → AreAlike k (match_ordering o found (Some d) found) (if bytes_eq l k then Some w else rest)
alike-more k l Less d w found rest e is h = rw (sym e) h
alike-more k l Equal d w found rest e is h = rw (sym e) (w, is, refl)
alike-more k l Greater d w found rest e is h = rw (sym e) h

pub alike : (k : List ℕ) (ms : Members) → IfSome (tree_entries ms) (λ es. AreAlike k (get_member k ms) (entry_at k es))
alike k no_members = refl
alike k (member l d ms) = chained _ (λ v. option_map (entry l v) (tree_entries ms)) (tree_value d) (if-all (λ w. tree_value d ≡ Some w) (tree_value d) (λ w is. is)) (λ w is.
    mapped _ (entry l w) (tree_entries ms) (alike k ms) (λ es h.
    alike-more k l (slice_cmp nat_cmp k l) d w (get_member k ms) (entry_at k es)
    (is_eq-slice_cmp k l ∙ bytes-turned k l) is h))

-- a fact of each value that is found under a key is one of each entry, where no key comes twice
each-named : (P : List ℕ → Value → Type 0) (es : Entries) → AreDistinct es → ((k : List ℕ) (w : Value) → entry_at k es ≡ Some w → P k w) → EachEntry P es
each-named P no_entry apart h = tt
each-named P (entry k v es) apart h = (
  h k v (let same = (bytes_eq-Decides k k).1 refl in rw same refl),
  each-named P es apart.1 (λ l w is. h l w (by l w is (bytes_eq k l) refl)),
)
  where
    by : (l : List ℕ) (w : Value) → entry_at l es ≡ Some w → (b : Bool) → bytes_eq k l ≡ b → (if b then Some v else entry_at l es) ≡ Some w
    by l w is true e = let same = (bytes_eq-Decides k l).0 e in let none = apart.0 in let there : entry_at k es ≡ Some w = ap (λ n. entry_at n es) same ∙ is in cc
    by l w is false e = is

-- what is told of each key fits a map
abbrev pub EachKeyFits : (Data → Value → Type 0) → Members → Members → Type 0
EachKeyFits C ms no_members = Unit {0}
EachKeyFits C ms (member k d ps) = IfSome (get_member k ms) (λ x. IfSome (tree_value x) (C d)) × EachKeyFits C ms ps

-- each of these is a key of a map
abbrev pub HasEach : Members → Items → Type 0
HasEach ms no_items = Unit {0}
HasEach ms (json.item d ds) = ((k : List ℕ) × (d ≡ json.string k) × IsSome (get_member k ms)) × HasEach ms ds

pub there : (k : List ℕ) (o : Option Data) (p : Option Value) → AreAlike k o p → IsSome o → IsSome p
there k None p l i = cc
there k (Some x) p l i = let is = l.2 in rw is refl

found-fits : (C : Value → Type 0) (k : List ℕ) (o : Option Data) (w : Value) → AreAlike k o (Some w) → IfSome o (λ x. IfSome (tree_value x) C) → C w
found-fits C k None w like fits = cc
found-fits C k (Some x) w like fits =
    let same : like.0 ≡ w = let e = like.2 in cc in
    subst C same (if-some C (tree_value x) like.0 fits like.1)

module _ (C : Data → Value → Type 0) where
  fits-property : (ms : Members) (ps : Members) (k : List ℕ) (w : Value) (es : Entries) → ((l : List ℕ) → AreAlike l (get_member l ms) (entry_at l es))
      → entry_at k es ≡ Some w → EachKeyFits C ms ps → FitsProperty C ps k w
  fits-property ms no_members k w es like is h = tt
  fits-property ms (member l d ps) k w es like is h = (
    λ e. let same = (bytes_eq-Decides k l).0 e in
        let there : entry_at l es ≡ Some w = ap (λ n. entry_at n es) (sym same) ∙ is in
        found-fits (C d) l (get_member l ms) w (subst (AreAlike l (get_member l ms)) there (like l)) h.0,
    fits-property ms ps k w es like is h.1,
  )

  has-key : (ms : Members) (es : Entries) → ((l : List ℕ) → AreAlike l (get_member l ms) (entry_at l es)) → (ks : Items) → HasEach ms ks → EachKey es ks
  has-key ms es like no_items h = tt
  has-key ms es like (json.item d ks) h =
      (rw (h.0.1) (has-one ms es h.0.0 (like h.0.0) h.0.2), has-key ms es like ks h.1)
    where
      has-one : (ms : Members) (es : Entries) (k : List ℕ) → AreAlike k (get_member k ms) (entry_at k es) → IsSome (get_member k ms) → IsSome (entry_at k es)
      has-one ms es k l i = there k (get_member k ms) (entry_at k es) l i

  fits-properties : (ps : Members) (s : Data) → IfSome (tree_value s) IsInstance → ((ms : Members) → as_object s ≡ Some ms → EachKeyFits C ms ps)
      → IfSome (tree_value s) (λ v. FitsProperties C v (object ps))
  fits-properties ps null apart h = tt
  fits-properties ps (boolean b) apart h = tt
  fits-properties ps (number x) apart h = mapped _ value.number (as_i64 x) (always _) (λ z _. tt)
  fits-properties ps (string t) apart h = tt
  fits-properties ps (array ds) apart h = mapped _ sequence (tree_items ds) (always _) (λ vs _. tt)
  fits-properties ps (object ms) apart h = by (tree_entries ms) (alike-all ms) apart
    where
      alike-all : (ms : Members) → IfSome (tree_entries ms) (λ es. (l : List ℕ) → AreAlike l (get_member l ms) (entry_at l es))
      alike-all ms = if-all _ (tree_entries ms) (λ es is l. if-some _ (tree_entries ms) es (alike l ms) is)

      by : (o : Option Entries) → IfSome o (λ es. (l : List ℕ) → AreAlike l (get_member l ms) (entry_at l es)) → IfSome (option_map mapping o) IsInstance
          → IfSome (option_map mapping o) (λ v. FitsProperties C v (object ps))
      by None like apart = tt
      by (Some es) like apart = each-named (FitsProperty C ps) es apart (λ k w is. fits-property ms ps k w es like is (h ms refl))

  has-keys : (ks : Items) (s : Data) → ((ms : Members) → as_object s ≡ Some ms → HasEach ms ks) → IfSome (tree_value s) (λ v. HasKeys v (array ks))
  has-keys ks null h = tt
  has-keys ks (boolean b) h = tt
  has-keys ks (number x) h = mapped _ value.number (as_i64 x) (always _) (λ z _. tt)
  has-keys ks (string t) h = tt
  has-keys ks (array ds) h = mapped _ sequence (tree_items ds) (always _) (λ vs _. tt)
  has-keys ks (object ms) h = by (tree_entries ms) (alike-all ms)
    where
      alike-all : (ms : Members) → IfSome (tree_entries ms) (λ es. (l : List ℕ) → AreAlike l (get_member l ms) (entry_at l es))
      alike-all ms = if-all _ (tree_entries ms) (λ es is l. if-some _ (tree_entries ms) es (alike l ms) is)

      by : (o : Option Entries) → IfSome o (λ es. (l : List ℕ) → AreAlike l (get_member l ms) (entry_at l es)) → IfSome (option_map mapping o) (λ v. HasKeys v (array ks))
      by None like = tt
      by (Some es) like = has-key ms es like ks (h ms refl)

-- ---- all of it

-- what is told in a schema of values: their types, a schema of their items, and schemas of what they have under keys
abbrev pub with_items : Option Data → Members → Members
with_items None ms = ms
with_items (Some i) ms = put (codes "items") i ms

abbrev pub with_properties : Option (Members × Items) → Members → Members
with_properties None ms = ms
with_properties (Some p) ms = put (codes "required") (array p.1) (put (codes "properties") (object p.0) ms)

abbrev pub told : Data → Option Data → Option (Members × Items) → Members
told t i p = with_properties p (with_items i (put (codes "type") t no_members))

-- .. or, in place of that, a schema of all values that they have
abbrev pub told_others : Data → Option Data → Data → Members
told_others t i o = put (codes "additionalProperties") o (with_items i (put (codes "type") t no_members))

module _ (root : Data) (C : Data → Value → Type 0) (t : Data) (v : Value) (inst : IsInstance v) (type : IsOfType v t) where
  of-each : (i : Data) → FitsItems C v i → IfSome (of_each false i) (FitsItems C v)
  of-each (array ds) h = tt
  of-each i h = h

  conforms-told : (i : Option Data) (p : Option (Members × Items)) → IfSome i (λ d. FitsItems C v d)
      → IfSome p (λ q. FitsProperties C v (object q.0) × HasKeys v (array q.1)) → ConformsBy root C (object (told t i p)) v
  conforms-told None None items props = (inst, tt, λ _. (type, λ _. tt, tt, tt, tt, tt, tt, tt, tt, tt, tt))
  conforms-told (Some i) None items props = (inst, tt, λ _. (type, λ _. tt, tt, tt, tt, tt, of-each i items, tt, tt, tt, tt))
  conforms-told None (Some p) items props = (inst, tt, λ _. (type, λ _. tt, tt, props.1, props.0, tt, tt, tt, tt, tt, tt))
  conforms-told (Some i) (Some p) items props = (inst, tt, λ _. (type, λ _. tt, tt, props.1, props.0, tt, of-each i items, tt, tt, tt, tt))

  conforms-others : (i : Option Data) (o : Data) → IfSome i (λ d. FitsItems C v d) → FitsAdditional C None None v o
      → ConformsBy root C (object (told_others t i o)) v
  conforms-others None o items others = (inst, tt, λ _. (type, λ _. tt, tt, tt, tt, others, tt, tt, tt, tt, tt))
  conforms-others (Some i) o items others = (inst, tt, λ _. (type, λ _. tt, tt, tt, tt, others, of-each i items, tt, tt, tt, tt))

-- what fits within any document fits within this one
at-root : (root : Data) (n : ℕ) (d : Data) (o : Option Value) → IfSome o (Fits n d) → IfSome o (conforms_in root n d)
at-root root n d None h = tt
at-root root n d (Some v) h = h root

module _ (root : Data) (n : ℕ) (samples : List Data) (s : Data) (m : Member s samples) where
  items-fit : (d : Data) → EachValue (Fits n d) (flat_map items_of_list samples) → IfSome (tree_value s) (λ v. FitsItems (conforms_in root n) v d)
  items-fit d h = fits-items (conforms_in root n) d s (λ x mx.
      at-root root n d (tree_value x) (all-at (λ x. IfSome (tree_value x) (Fits n d)) x (flat_map items_of_list samples) h (member-flat_map items_of_list x s samples m mx)))

  others-fit : (d : Data) → EachValue (Fits n d) (flat_map values_among (filter_map as_object samples))
      → IfSome (tree_value s) (λ v. FitsAdditional (conforms_in root n) None None v d)
  others-fit d h = fits-others (conforms_in root n) d s (λ ms is x mx.
      at-root root n d (tree_value x) (all-at (λ x. IfSome (tree_value x) (Fits n d)) x (flat_map values_among (filter_map as_object samples)) h
      (member-flat_map values_among x ms (filter_map as_object samples) (member-filter_map as_object ms s samples m is) mx)))

  keys-fit : (ms : Members) → as_object s ≡ Some ms → (levels : ℕ) → n ≡ suc levels → (ps : Members) → ArePropertiesOf levels (filter_map as_object samples) ps
      → EachKeyFits (conforms_in root n) ms ps
  keys-fit ms is levels e no_members h = tt
  keys-fit ms is levels e (member k d ps) h =
      let fits : EachValue (Fits n d) (filter_map (get_member k) (filter_map as_object samples)) =
      subst (λ j. EachValue (Fits j d) (filter_map (get_member k) (filter_map as_object samples))) (sym e) h.0 in (
        if-all (λ x. IfSome (tree_value x) (conforms_in root n d)) (get_member k ms) (λ x found.
            at-root root n d (tree_value x) (all-at (λ x. IfSome (tree_value x) (Fits n d)) x (filter_map (get_member k) (filter_map as_object samples)) fits
            (member-filter_map (get_member k) x ms (filter_map as_object samples) (member-filter_map as_object ms s samples m is) found))),
        keys-fit ms is levels e ps h.1,
      )

  keys-shared : (ms : Members) → as_object s ≡ Some ms → (ks : Items) → AreSharedBy (filter_map as_object samples) ks → HasEach ms ks
  keys-shared ms is no_items h = tt
  keys-shared ms is (json.item d ks) h = (
    (h.0.0, h.0.1, all-at (λ l. IsSome (get_member h.0.0 l)) ms (filter_map as_object samples) h.0.2 (member-filter_map as_object ms s samples m is)),
    keys-shared ms is ks h.1,
  )

module _ (levels : ℕ) (samples : List Data) (t : Data) (instances : EachValue IsInstance samples) (types : EachValue (λ v. IsOfType v t) samples) where
  abbrev ItemsFit : Option Data → Type 0
  ItemsFit i = IfSome i (λ d. EachValue (Fits (suc levels) d) (flat_map items_of_list samples))

  abbrev KeysFit : Option (Members × Items) → Type 0
  KeysFit p = IfSome p (λ q. AreTold levels (filter_map as_object samples) q.0 q.1)

  told-fits : (i : Option Data) (p : Option (Members × Items)) → ItemsFit i → KeysFit p → EachValue (Fits (suc (suc levels)) (object (told t i p))) samples
  told-fits i p items keys = all-from _ samples (λ s m. if-all _ (tree_value s) (λ v is root.
      let here = if-some IsInstance (tree_value s) v (all-at (λ s. IfSome (tree_value s) IsInstance) s samples instances m) is in
      let typed = if-some (λ v. IsOfType v t) (tree_value s) v (all-at (λ s. IfSome (tree_value s) (λ v. IsOfType v t)) s samples types m) is in
      conforms-told root (conforms_in root (suc levels)) t v here typed i p (items_of root s m v is i items) (keys_of root s m v is p keys)))
    where
      items_of : (root s : Data) → Member s samples → (v : Value) → tree_value s ≡ Some v → (i : Option Data) → ItemsFit i → IfSome i (λ d. FitsItems (conforms_in root (suc levels)) v d)
      items_of root s m v is None h = tt
      items_of root s m v is (Some d) h = if-some (λ v. FitsItems (conforms_in root (suc levels)) v d) (tree_value s) v (items-fit root (suc levels) samples s m d h) is

      keys_of : (root s : Data) → Member s samples → (v : Value) → tree_value s ≡ Some v → (p : Option (Members × Items)) → KeysFit p
          → IfSome p (λ q. FitsProperties (conforms_in root (suc levels)) v (object q.0) × HasKeys v (array q.1))
      keys_of root s m v is None h = tt
      keys_of root s m v is (Some (ps, ks)) h = (
        if-some (λ v. FitsProperties (conforms_in root (suc levels)) v (object ps)) (tree_value s) v
            (fits-properties (conforms_in root (suc levels)) ps s (all-at (λ s. IfSome (tree_value s) IsInstance) s samples instances m)
            (λ ms e. keys-fit root (suc levels) samples s m ms e levels refl ps h.properties)) is,
        if-some (λ v. HasKeys v (array ks)) (tree_value s) v
            (has-keys (conforms_in root (suc levels)) ks s (λ ms e. keys-shared root (suc levels) samples s m ms e ks h.required)) is,
      )

  others-told : (i : Option Data) (o : Data) → ItemsFit i → EachValue (Fits (suc levels) o) (flat_map values_among (filter_map as_object samples))
      → EachValue (Fits (suc (suc levels)) (object (told_others t i o))) samples
  others-told i o items others = all-from _ samples (λ s m. if-all _ (tree_value s) (λ v is root.
      let here = if-some IsInstance (tree_value s) v (all-at (λ s. IfSome (tree_value s) IsInstance) s samples instances m) is in
      let typed = if-some (λ v. IsOfType v t) (tree_value s) v (all-at (λ s. IfSome (tree_value s) (λ v. IsOfType v t)) s samples types m) is in
      let fit = if-some (λ v. FitsAdditional (conforms_in root (suc levels)) None None v o) (tree_value s) v (others-fit root (suc levels) samples s m o others) is in
      conforms-others root (conforms_in root (suc levels)) t v here typed i o (items_of root s m v is i items) fit))
    where
      items_of : (root s : Data) → Member s samples → (v : Value) → tree_value s ≡ Some v → (i : Option Data) → ItemsFit i → IfSome i (λ d. FitsItems (conforms_in root (suc levels)) v d)
      items_of root s m v is None h = tt
      items_of root s m v is (Some d) h = if-some (λ v. FitsItems (conforms_in root (suc levels)) v d) (tree_value s) v (items-fit root (suc levels) samples s m d h) is

-- ---- how deep it nests

shared-flat : (maps : List Members) (ks : Items) → AreSharedBy maps ks → items_depth ks ≤ 0
shared-flat maps no_items h = omega arith
shared-flat maps (json.item d ks) h = let flat : depth d ≤ 0 = let e = h.0.1 in rw e (omega arith) in omega (arith, shared-flat maps ks h.1)

depth-told : (levels : ℕ) (maps : List Members) (t : Data) (i : Option Data) (p : Option (Members × Items)) → depth t ≤ 1 → IfSome i (λ d. depth d ≤ room levels)
    → IfSome p (λ q. AreTold levels maps q.0 q.1) → depth (object (told t i p)) ≤ room (suc levels)
depth-told levels maps t None None dt di dp = omega arith
depth-told levels maps t (Some i) None dt di dp = omega arith
depth-told levels maps t None (Some (ps, ks)) dt di dp = let a = dp.nests in let b = shared-flat maps ks dp.required in omega arith
depth-told levels maps t (Some i) (Some (ps, ks)) dt di dp = let a = dp.nests in let b = shared-flat maps ks dp.required in omega arith

depth-others : (levels : ℕ) (t : Data) (i : Option Data) (o : Data) → depth t ≤ 1 → IfSome i (λ d. depth d ≤ room levels) → depth o ≤ room levels
    → depth (object (told_others t i o)) ≤ room (suc levels)
depth-others levels t None o dt di dn = omega arith
depth-others levels t (Some i) o dt di dn = omega arith

-- ---- which keywords it has

texts-shared : (maps : List Members) (ks : Items) → AreSharedBy maps ks → AreTexts ks
texts-shared maps no_items h = tt
texts-shared maps (json.item d ks) h = ((h.0.0, h.0.1), texts-shared maps ks h.1)

plain-told : (levels : ℕ) (maps : List Members) (t : Data) (i : Option Data) (p : Option (Members × Items)) → NamesTypes t → IfSome i IsInferred
    → IfSome p (λ q. AreTold levels maps q.0 q.1) → HasInferred (told t i p)
plain-told levels maps t None None type items props = (inr (inl (refl, type)), tt)
plain-told levels maps t (Some i) None type items props = (inr (inr (inr (inl (refl, items)))), (inr (inl (refl, type)), tt))
plain-told levels maps t None (Some (ps, ks)) type items props = (
  inr (inr (inr (inr (inl (refl, props.plain))))),
  (inr (inr (inl (refl, texts-shared maps ks props.required))), (inr (inl (refl, type)), tt)),
)
plain-told levels maps t (Some i) (Some (ps, ks)) type items props = (
  inr (inr (inr (inl (refl, items)))),
  (inr (inr (inr (inr (inl (refl, props.plain))))), (inr (inr (inl (refl, texts-shared maps ks props.required))), (inr (inl (refl, type)), tt))),
)

plain-others : (t : Data) (i : Option Data) (o : Data) → NamesTypes t → IfSome i IsInferred → IsInferred o → HasInferred (told_others t i o)
plain-others t None o type items others = (inr (inr (inr (inr (inr (refl, others))))), (inr (inl (refl, type)), tt))
plain-others t (Some i) o type items others =
    (inr (inr (inr (inr (inr (refl, others))))), (inr (inr (inr (inl (refl, items)))), (inr (inl (refl, type)), tt)))

-- ---- the schema that `schema_of` makes

abbrev pub IsTold : ℕ → List Data → Members → Type 0
IsTold levels samples ms = EachValue (Fits (suc levels) (object ms)) samples × (depth (object ms) ≤ room levels) × HasInferred ms

added : (levels : ℕ) (samples : List Data) (t : Data) (i : Option Data) (p : Option (Members × Items)) → EachValue IsInstance samples
    → EachValue (λ v. IsOfType v t) samples → depth t ≤ 1 → NamesTypes t
    → IfSome i (λ d. EachValue (Fits (suc levels) d) (flat_map items_of_list samples) × (depth d ≤ room levels) × IsInferred d)
    → IfSome p (λ q. AreTold levels (filter_map as_object samples) q.0 q.1) → IsTold (suc levels) samples (told t i p)
added levels samples t None p inst types flat named items keys = (
  told-fits levels samples t inst types None p tt keys,
  depth-told levels (filter_map as_object samples) t None p flat tt keys,
  plain-told levels (filter_map as_object samples) t None p named tt keys,
)
added levels samples t (Some i) p inst types flat named items keys = (
  told-fits levels samples t inst types (Some i) p items.0 keys,
  depth-told levels (filter_map as_object samples) t (Some i) p flat items.1 keys,
  plain-told levels (filter_map as_object samples) t (Some i) p named items.2 keys,
)

added-others : (levels : ℕ) (samples : List Data) (t : Data) (i : Option Data) (o : Data) → EachValue IsInstance samples
    → EachValue (λ v. IsOfType v t) samples → depth t ≤ 1 → NamesTypes t
    → IfSome i (λ d. EachValue (Fits (suc levels) d) (flat_map items_of_list samples) × (depth d ≤ room levels) × IsInferred d)
    → EachValue (Fits (suc levels) o) (flat_map values_among (filter_map as_object samples)) → depth o ≤ room levels → IsInferred o
    → IsTold (suc levels) samples (told_others t i o)
added-others levels samples t None o inst types flat named items others deep plain = (
  others-told levels samples t inst types None o tt others,
  depth-others levels t None o flat tt deep,
  plain-others t None o named tt plain,
)
added-others levels samples t (Some i) o inst types flat named items others deep plain = (
  others-told levels samples t inst types (Some i) o items.0 others,
  depth-others levels t (Some i) o flat items.1 deep,
  plain-others t (Some i) o named items.2 plain,
)

pub schema-told : (fewer levels : ℕ) (samples : List Data) (maps : List Members) (t : Data) (one two three : Members) → levels ≡ suc fewer
    → maps ≡ filter_map as_object samples → one ≡ put (codes "type") t no_members → EachValue IsInstance samples → EachValue (λ v. IsOfType v t) samples → depth t ≤ 1 → NamesTypes t
    → AddsItems fewer samples one two → AddsOthers fewer maps two three ⊎ AddsProperties fewer maps two three → IsTold levels samples three
schema-told fewer levels samples maps t one two three el em eo inst types flat named items keyed =
    rw el (by items (subst (λ l. AddsOthers fewer l two three ⊎ AddsProperties fewer l two three) em keyed))
  where
    by : AddsItems fewer samples one two → AddsOthers fewer (filter_map as_object samples) two three ⊎ AddsProperties fewer (filter_map as_object samples) two three
        → IsTold (suc fewer) samples three
    by (inl a) (inl (inl b)) = rw (b, a, eo) (added fewer samples t None None inst types flat named tt tt)
    by (inr a) (inl (inl b)) = let i = a.1 in rw (b, i, eo) (added fewer samples t (Some a.0) None inst types flat named (a.2, a.3, a.4) tt)
    by (inl a) (inl (inr b)) = let o = b.1 in rw (o, a, eo) (added-others fewer samples t None b.0 inst types flat named tt b.2 b.3 b.4)
    by (inr a) (inl (inr b)) = let i = a.1 in let o = b.1 in rw (o, i, eo) (added-others fewer samples t (Some a.0) b.0 inst types flat named (a.2, a.3, a.4) b.2 b.3 b.4)
    by (inl a) (inr (inl b)) = rw (b, a, eo) (added fewer samples t None None inst types flat named tt tt)
    by (inr a) (inr (inl b)) = let i = a.1 in rw (b, i, eo) (added fewer samples t (Some a.0) None inst types flat named (a.2, a.3, a.4) tt)
    by (inl a) (inr (inr b)) = let p = b.2 in rw (p, a, eo) (added fewer samples t None (Some (b.0, b.1)) inst types flat named tt b.3)
    by (inr a) (inr (inr b)) = let i = a.1 in let p = b.2 in rw (p, i, eo) (added fewer samples t (Some a.0) (Some (b.0, b.1)) inst types flat named (a.2, a.3, a.4) b.3)

-- .. and the one without keywords
pub empty-fits : (n : ℕ) (samples : List Data) → EachValue IsInstance samples → EachValue (Fits (suc n) (object no_members)) samples
empty-fits n [] h = tt
empty-fits n (s ∷ samples) h = (by (tree_value s) h.0, empty-fits n samples h.1)
  where
    by : (o : Option Value) → IfSome o IsInstance → IfSome o (Fits (suc n) (object no_members))
    by None i = tt
    by (Some v) i = λ root. (i, tt, λ _. (tt, λ _. tt, tt, tt, tt, tt, tt, tt, tt, tt, tt))

-- ---- a document says by which draft it is one

-- no value has to be otherwise where the draft is told
told-draft : (root d : Data) (C : Data → Value → Type 0) (ms : Members) (v : Value) → ConformsBy root C (object ms) v
    → ConformsBy root C (object (put (codes "$schema") d ms)) v
told-draft root d C ms v h =
    let other : (k : List ℕ) → (k ≡ codes "$schema" → ⊥) → get_member k (put (codes "$schema") d ms) ≡ get_member k ms = λ k apart. get_member-put_other k (codes "$schema") d ms apart in
    let type = other (codes "type") (λ e. cc) in
    let const = other (codes "const") (λ e. cc) in
    let enum = other (codes "enum") (λ e. cc) in
    let required = other (codes "required") (λ e. cc) in
    let properties = other (codes "properties") (λ e. cc) in
    let additional = other (codes "additionalProperties") (λ e. cc) in
    let items = other (codes "items") (λ e. cc) in
    let least = other (codes "minItems") (λ e. cc) in
    let any = other (codes "anyOf") (λ e. cc) in
    let one = other (codes "oneOf") (λ e. cc) in
    let all = other (codes "allOf") (λ e. cc) in
    let patterns = other (codes "patternProperties") (λ e. cc) in
    let prefixes = other (codes "prefixItems") (λ e. cc) in
    let ref = other (codes "$ref") (λ e. cc) in
    rw (type, const, enum, required, properties, additional, items, least, any, one, all, patterns, prefixes, ref) h

fits-draft : (n : ℕ) (d : Data) (ms : Members) (v : Value) → Fits n (object ms) v → Fits n (object (put (codes "$schema") d ms)) v
fits-draft zero d ms v h = h
fits-draft (suc n) d ms v h = λ root. told-draft root d (conforms_in root n) ms v (h root)

pub each-conforms : (n : ℕ) (d : Data) (ms : Members) (samples : List (Bor tree.Value)) → EachValue (Fits n (object ms)) (seen samples)
    → AllByRecursion (λ (s : Bor tree.Value). Conforms (object (put (codes "$schema") d ms)) (view s.now)) samples
each-conforms n d ms [] h = tt
each-conforms n d ms (s ∷ samples) h = (
  if-all _ (tree_value (view s.now)) (λ v is.
      (n, fits-draft n d ms v (if-some (Fits n (object ms)) (tree_value (view s.now)) v h.0 is) (base_of (object (put (codes "$schema") d ms))))),
  each-conforms n d ms samples h.1,
)

-- .. which is one of the keywords that are inferred
pub inferred-draft : (d : Data) (ms : Members) → HasInferred ms → HasInferred (put (codes "$schema") d ms)
inferred-draft d no_members h = (inl refl, tt)
inferred-draft d (member l e ms) h = by (slice_cmp nat_cmp (codes "$schema") l) refl (inferred-draft d ms h.1)
  where
    by : (o : Ordering) → slice_cmp nat_cmp (codes "$schema") l ≡ o → HasInferred (put (codes "$schema") d ms)
        → HasInferred (match_ordering o (member (codes "$schema") d (member l e ms)) (member l d ms) (member l e (put (codes "$schema") d ms)))
    by Less is more = (inl refl, h)
    by Equal is more = let eq : codes "$schema" ≡ l = (bytes_eq-Decides (codes "$schema") l).0 (sym (is_eq-slice_cmp (codes "$schema") l) ∙ ap is_eq is) in (inl (sym eq), h.1)
    by Greater is more = (h.0, more)

members_depth-pick : (o : Ordering) (a b c : Members) (n : ℕ) → members_depth a ≤ n → members_depth b ≤ n → members_depth c ≤ n → members_depth (match_ordering o a b c) ≤ n
members_depth-pick Less a b c n p q r = p
members_depth-pick Equal a b c n p q r = q
members_depth-pick Greater a b c n p q r = r

pub members_depth-put : (k : List ℕ) (d : Data) (ms : Members) (n : ℕ) → depth d ≤ n → members_depth ms ≤ n → members_depth (put k d ms) ≤ n
members_depth-put k d no_members n p q = omega arith
members_depth-put k d (member l e ms) n p q =
    members_depth-pick _ (member k d (member l e ms)) (member l d ms) (member l e (put k d ms)) n (omega arith) (omega arith) (omega (arith, members_depth-put k d ms n p (omega arith)))

-- ---- what is told of keys

inferred-put : (k : List ℕ) (d : Data) (ps : Members) → IsInferred d → EachInferred ps → EachInferred (put k d ps)
inferred-put k d no_members p h = (p, tt)
inferred-put k d (member l e rest) p h = by (slice_cmp nat_cmp k l) (inferred-put k d rest p h.1)
  where
    by : (o : Ordering) → EachInferred (put k d rest) → EachInferred (match_ordering o (member k d (member l e rest)) (member l d rest) (member l e (put k d rest)))
    by Less more = (p, h)
    by Equal more = (p, h.1)
    by Greater more = (h.0, more)

-- what is told of one more key
pub key-told : (levels : ℕ) (maps : List Members) (k : List ℕ) (d : Data) (ps : Members) (ks : Items) → AreTold levels maps ps ks
    → EachValue (Fits (suc levels) d) (filter_map (get_member k) maps) → depth d ≤ room levels → IsInferred d → AreTold levels maps (put k d ps) ks
key-told levels maps k d ps ks h fits flat plain = record {
  properties = put-one ps h.properties;
  required = h.required;
  nests = members_depth-put k d ps (room levels) flat h.nests;
  plain = inferred-put k d ps plain h.plain;
}
  where
    same : (l : List ℕ) (e : Data) (rest : Members) (o : Ordering) → slice_cmp nat_cmp k l ≡ o → EachValue (Fits (suc levels) e) (filter_map (get_member l) maps) → ArePropertiesOf levels maps rest
        → ArePropertiesOf levels maps (put k d rest) → ArePropertiesOf levels maps (match_ordering o (member k d (member l e rest)) (member l d rest) (member l e (put k d rest)))
    same l e rest Less is here there more = (fits, (here, there))
    same l e rest Equal is here there more =
        let eq : k ≡ l = (bytes_eq-Decides k l).0 (sym (is_eq-slice_cmp k l) ∙ ap is_eq is) in
        (subst (λ n. EachValue (Fits (suc levels) d) (filter_map (get_member n) maps)) eq fits, there)
    same l e rest Greater is here there more = (here, more)

    put-one : (ps : Members) → ArePropertiesOf levels maps ps → ArePropertiesOf levels maps (put k d ps)
    put-one no_members h = (fits, tt)
    put-one (member l e rest) h = same l e rest (slice_cmp nat_cmp k l) refl h.0 h.1 (put-one rest h.1)

-- maps of which as many have a value under a key as there are all have one
shorter : {A B : Type 0} (h : A → Option B) (xs : List A) → length (filter_map h xs) ≤ length xs
shorter h [] = omega arith
shorter h (x ∷ xs) = by (h x) (shorter h xs)
  where
    by : (o : Option _) → length (filter_map h xs) ≤ length xs → length (cons_option o (filter_map h xs)) ≤ suc (length xs)
    by None le = omega arith
    by (Some y) le = omega arith

pub all-there : {A B : Type 0} (h : A → Option B) (xs : List A) → length (filter_map h xs) ≡ length xs → AllByRecursion (λ x. IsSome (h x)) xs
all-there h [] e = tt
all-there h (x ∷ xs) e = by (h x) refl (λ same. all-there h xs same) e
  where
    by : (o : Option _) → h x ≡ o → (length (filter_map h xs) ≡ length xs → AllByRecursion (λ x. IsSome (h x)) xs) → length (cons_option o (filter_map h xs)) ≡ suc (length xs)
        → IsSome (h x) × AllByRecursion (λ x. IsSome (h x)) xs
    by None is rest e = absurd (let le = shorter h xs in omega arith)
    by (Some y) is rest e = (rw is refl, rest (omega arith))

pub shared-more : (maps : List Members) (ks : Items) (vs : List tree.Value) (k : List ℕ) (v : tree.Value) → ks ≡ items_view vs → view v ≡ string k
    → AreSharedBy maps (items_view vs) → AllByRecursion (λ m. IsSome (get_member k m)) maps → AreSharedBy maps (items_view (vs ++ v ∷ []))
shared-more maps ks [] k v e is h all = ((k, is, all), tt)
shared-more maps ks (x ∷ vs) k v e is h all = (h.0, shared-more maps (items_view vs) vs k v refl is h.1 all)

-- .. and of one more that each map has
pub required-told : (levels : ℕ) (maps : List Members) (ps : Members) (vs : List tree.Value) (k : List ℕ) (v : tree.Value) → AreTold levels maps ps (items_view vs)
    → view v ≡ string k → length (filter_map (get_member k) maps) ≡ length maps → AreTold levels maps ps (items_view (vs ++ v ∷ []))
required-told levels maps ps vs k v h is e = record {
  properties = h.properties;
  required = shared-more maps (items_view vs) vs k v refl is h.required (all-there (get_member k) maps e);
  nests = h.nests;
  plain = h.plain;
}
