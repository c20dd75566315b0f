-- For `conform.rt`: what a check of each part says of the value.
use Rattle.std.proofs.Common.{rules, ◌==◌, ◌||◌, ◌⊎◌, ◌≡◌, ◌≤◌, ◌<◌, ◌+◌, ◌++◌, ℕ, suc, List, [], ◌∷◌, map, length, take, get_or, Bool, true, false, Option, Some, None, IfSome, IsSome, inr, is_some, option_map, codes, refl, sym, subst, ap, ◌∙◌, bytes_eq, Bor, string_bytes, string_cmp, String, Global, Ordering, Less, Equal, Greater, nat_cmp}
use Rattle.std.specs.List.{AllByRecursion, list_any}
use Rattle.std.specs.Iterator.{Yields}
use Rattle.std.specs.Map.{keys_of, lookup}
use Rattle.std.specs.Option.{option_and_then, option_copied, option_map_or}
use Rattle.std.specs.BTreeMap.{is_at}
use Rattle.std.specs.Map.Iter.{TakesFirst, deref_pair}
use Rattle.std.specs.List.Sorted.{IsStrictlySortedBy}
use Rattle.std.proofs.lemmas.List.{append-nil, take_all, take_more}
use Rattle.std.specs.Cmp.Lexicographic.{slice_cmp}
use Rattle.std.specs.Ordering.{match_ordering, is_eq}
use Rattle.std.proofs.lemmas.Map.Text.{is_eq-slice_cmp}
use Rattle.std.proofs.lemmas.Slice.Eq.{bytes_eq-Decides}
use Rattle.percent_encoding.specs.Percent.{percent_decode}
use Rattle.percent_encoding.proofs.PercentLemmas.{percent_decode-nil, percent_decode_not_percent}
use Rattle.serde_json.specs.declared.value.Value as tree
use Rattle.serde_json.specs.declared.value.Value.{the_lemmas}
use Rattle.serde_json.proofs.Views.{view-lookup}
use Rattle.serde_json.specs.Data as json
use Rattle.serde_json.specs.Data.{Data, null, boolean, number, string, array, object, unsigned, Members, no_members, member}
use Rattle.serde_json.specs.Find.{as_i64, as_object, get, get_member}
use Rattle.serde_json.specs.View.{view, items_view, members_view}
use Rattle.tmpl_values.specs.Value as value
use Rattle.tmpl_values.specs.Value.{Value, mapping, sequence, item, Entries, entry}
use Rattle.tmpl_values.specs.Elements.{values_of_items}
use Rattle.tmpl_values.specs.Field.{entry_at}
use Rattle.tmpl_values.specs.Json.{tree_value, tree_items, tree_entries}
use Rattle.tmpl_shape.specs.Shape.{EachItem, EachEntry, AreDistinct}
use Rattle.tmpl_json_schema.specs.Document.{IsInstance, SomeItem, EachItemOf, HasItems, HasKey, HasKeys, EachKey, FitsProperty, FitsProperties, FitsItems, FitsPattern, FitsAdditional, in_properties, is_property, of_each, conforms_in}
use Rattle.tmpl_json_schema.specs.Document.{IsOfSchema, base_of, draft_of, has_inner_base, identifier_of, inside_has_base}
use Rattle.tmpl_json_schema.specs.declared.draft.Draft.{Draft}
use Rattle.tmpl_json_schema.specs.computed.Inferred.{values_among}
use Rattle.tmpl_json_schema.specs.computed.Conformed.{AreApart, EachMember, IsAtLeast, Meets, MeetsEach}
use Rattle.tmpl_json_schema.proofs.ConformLemmas.{mapped, chained, always, AreAlike, alike, there}
use Rattle.tmpl_json_schema.proofs.StepLemmas.{all-more, some-at}

-- ---- references

pub unescaped : (bytes : List ℕ) → list_any (λ b. b == 37) bytes ≡ false → percent_decode bytes ≡ bytes
unescaped [] none = percent_decode-nil
unescaped (b ∷ bytes) none = go (b == 37) refl (unescaped bytes) none
  where
    go : (c : Bool) → (b == 37) ≡ c → (list_any (λ b. b == 37) bytes ≡ false → percent_decode bytes ≡ bytes) → (c || list_any (λ b. b == 37) bytes) ≡ false
        → percent_decode (b ∷ bytes) ≡ b ∷ bytes
    go true is rest none = absurd (cc)
    go false is rest none =
        percent_decode_not_percent b bytes (λ e. let same : (b == 37) ≡ true = rw e refl in absurd (let both = sym is ∙ same in cc)) ∙ ap (λ l. b ∷ l) (rest none)

-- ---- a value that is known

pub view-String : (s : String Global) → view (tree.String s) ≡ string (string_bytes s)
view-String s = search (rules, the_lemmas)

-- what a map says to have is a member of what it stands for
pub there-by : (name : List ℕ) (es : List (String Global × tree.Value)) (r : Option (Bor tree.Value))
    → option_copied r ≡ lookup (is_at (λ k. slice_cmp nat_cmp name (string_bytes k))) es → is_some r ≡ true → IsSome (get_member name (members_view es))
there-by name es None p e = cc
there-by name es (Some x) p e = subst IsSome (ap (option_map view) p ∙ view-lookup name es) refl

-- what is so of what a map has for a key
pub of-lookup : (P : Data → Type 0) (k : List ℕ) (d : Data) (o : Option (Bor tree.Value)) → option_map (λ (x : Bor tree.Value). view x.now) o ≡ get k d
    → IfSome o (λ x. P (view x.now)) → IfSome (get k d) P
of-lookup P k d o is h = subst (λ r. IfSome r P) is (mapped-back o h)
  where
    mapped-back : (o : Option (Bor tree.Value)) → IfSome o (λ x. P (view x.now)) → IfSome (option_map (λ (x : Bor tree.Value). view x.now) o) P
    mapped-back None h = tt
    mapped-back (Some x) h = h

-- ---- loops

pub one-more : {A : Type 0} (P : A → Type 0) (xs : List A) (i : ℕ) (x : A) → i < length xs → x ≡ get_or xs i x → AllByRecursion P (take i xs) → P x
    → AllByRecursion P (take (i + 1) xs)
one-more P xs i x within is h p = subst (AllByRecursion P) (sym (take_more xs i x within ∙ ap (λ y. take i xs ++ y ∷ []) (sym is))) (all-more P (take i xs) x h p)

pub all-taken : {A : Type 0} (P : A → Type 0) (xs : List A) (i : ℕ) → length xs ≤ i → AllByRecursion P (take i xs) → AllByRecursion P xs
all-taken P xs i past h = subst (AllByRecursion P) (take_all i xs past) h

-- ---- members

-- what an iterator has given is a front of the entries
pub front : (es : List (String Global × tree.Value)) (xs : List (Bor (String Global) × Bor tree.Value)) (rest : List (String Global × tree.Value))
    → Yields (TakesFirst deref_pair) es xs rest → es ≡ map deref_pair xs ++ rest
front es [] rest y = y
front es (x ∷ xs) rest y = y.1 ∙ ap (λ l. deref_pair x ∷ l) (front y.0 xs rest y.2)

each-given : (P : List ℕ → Data → Type 0) (xs : List (Bor (String Global) × Bor tree.Value)) → AllByRecursion (λ x. P (string_bytes x.0.now) (view x.1.now)) xs
    → EachMember P (members_view (map deref_pair xs))
each-given P [] h = tt
each-given P (x ∷ xs) h = (h.0, each-given P xs h.1)

-- so that what holds of all that it has given holds of each member
pub each-member : (P : List ℕ → Data → Type 0) (s es rest : List (String Global × tree.Value)) (xs : List (Bor (String Global) × Bor tree.Value)) → s ≡ es
    → Yields (TakesFirst deref_pair) s xs rest → rest ≡ [] → AllByRecursion (λ x. P (string_bytes x.0.now) (view x.1.now)) xs → EachMember P (members_view es)
each-member P s es rest xs is y none h =
    subst (λ l. EachMember P (members_view l)) (sym (front s xs rest y ∙ ap (λ l. map deref_pair xs ++ l) none ∙ append-nil (map deref_pair xs)) ∙ is) (each-given P xs h)

values-given : (xs : List (Bor (String Global) × Bor tree.Value)) → map (λ (x : Bor (String Global) × Bor tree.Value). view x.1.now) xs
    ≡ values_among (members_view (map deref_pair xs))
values-given [] = refl
values-given (x ∷ xs) = ap (λ ds. view x.1.now ∷ ds) (values-given xs)

-- .. and all that it has given are the values of the members
pub all-values : (s es rest : List (String Global × tree.Value)) (xs : List (Bor (String Global) × Bor tree.Value)) → s ≡ es
    → Yields (TakesFirst deref_pair) s xs rest → rest ≡ []
    → map (λ (x : Bor (String Global) × Bor tree.Value). view x.1.now) xs ≡ values_among (members_view es)
all-values s es rest xs is y none =
    values-given xs ∙ ap (λ l. values_among (members_view l))
    (sym (front s xs rest y ∙ ap (λ l. map deref_pair xs ++ l) none ∙ append-nil (map deref_pair xs)) ∙ is)

found : (P : List ℕ → Data → Type 0) (k : List ℕ) (ms : Members) → EachMember P ms → IfSome (get_member k ms) (P k)
found P k no_members h = tt
found P k (member l d ms) h = go (slice_cmp nat_cmp k l) refl (found P k ms h.1)
  where
    go : (o : Ordering) → slice_cmp nat_cmp k l ≡ o → IfSome (get_member k ms) (P k) → IfSome (match_ordering o (get_member k ms) (Some d) (get_member k ms)) (P k)
    go Less is ih = ih
    go Equal is ih = let same : k ≡ l = (bytes_eq-Decides k l).0 (sym (is_eq-slice_cmp k l) ∙ ap is_eq is) in subst (λ n. P n d) (sym same) h.0
    go Greater is ih = ih

pub together : (P : List ℕ → Data → Value → Type 0) (o : Option Value) (ms : Members) → EachMember (λ k d. IfSome o (P k d)) ms → IfSome o (λ v. EachMember (λ k d. P k d v) ms)
together P None ms h = tt
together P (Some v) ms h = h

-- ---- no key comes twice

apart-after : (k : String Global) (es : List (String Global × tree.Value)) → AllByRecursion (λ l. string_cmp k l ≡ Less) (keys_of es)
    → get_member (string_bytes k) (members_view es) ≡ None
apart-after k [] h = refl
apart-after k (e ∷ es) h = rw (h.0) (apart-after k es h.1)

pub sorted-apart : (es : List (String Global × tree.Value)) → IsStrictlySortedBy string_cmp (keys_of es) → AreApart (members_view es)
unfolding IsStrictlySortedBy
sorted-apart [] h = tt
sorted-apart (e ∷ es) h = (apart-after e.0 es h.0, sorted-apart es h.1)

both : {A : Type 0} (P Q : A → Type 0) (o : Option A) → IfSome o P → IfSome o Q → IfSome o (λ a. P a × Q a)
both P Q None p q = tt
both P Q (Some a) p q = (p, q)

none-there : (k : List ℕ) (o : Option Data) (found : Option Value) → o ≡ None → AreAlike k o found → found ≡ None
none-there k None found e l = l
none-there k (Some d) found e l = cc

apart-distinct : (ms : Members) → AreApart ms → IfSome (tree_entries ms) AreDistinct
apart-distinct no_members h = tt
apart-distinct (member k d ms) h = chained _ (λ v. option_map (entry k v) (tree_entries ms)) (tree_value d) (always _) (λ w _.
    mapped _ (entry k w) (tree_entries ms) (both _ _ (tree_entries ms) (alike k ms) (apart-distinct ms h.1)) (λ es p.
    (none-there k (get_member k ms) (entry_at k es) h.0 p.0, p.1)))

pub instance-of : (d : Data) → IfSome (as_object d) AreApart → IfSome (tree_value d) IsInstance
instance-of null h = tt
instance-of (boolean b) h = tt
instance-of (number n) h = mapped _ value.number (as_i64 n) (always _) (λ z _. tt)
instance-of (string s) h = tt
instance-of (array ds) h = mapped _ sequence (tree_items ds) (always _) (λ vs _. tt)
instance-of (object ms) h = mapped _ mapping (tree_entries ms) (apart-distinct ms h) (λ es p. p)

-- ---- a schema

pub weaker : {A : Type 0} (P Q : A → Type 0) (o : Option A) → IfSome o P → ((a : A) → P a → Q a) → IfSome o Q
weaker P Q None h next = tt
weaker P Q (Some a) h next = next a h

each-of : {A B : Type 0} (P : B → Type 0) (f : A → Option B) (o : Option A) → IfSome o (λ a. IfSome (f a) P) → IfSome (option_and_then f o) P
each-of P f None h = tt
each-of P f (Some a) h = h

pub conforms-all : (root : Data) (n : ℕ) (ms : Members) (o : Option Value) → IfSome o IsInstance → IfSome o (MeetsEach root (conforms_in root n) (object ms) ms)
    → IfSome o (conforms_in root (suc n) (object ms))
conforms-all root n ms None instance each = tt
conforms-all root n ms (Some v) instance each =
    let at : (k : List ℕ) → IfSome (get_member k ms) (λ d. Meets root (conforms_in root n) (object ms) k d v) = λ k. found (λ k d. Meets root (conforms_in root n) (object ms) k d v) k ms each in (
      instance,
      weaker _ _ (get_member (codes "$ref") ms) (at (codes "$ref")) (λ d m. m.ref refl),
      λ _. (
        weaker _ _ (get_member (codes "type") ms) (at (codes "type")) (λ d m. m.type refl),
        λ _. weaker _ _ (get_member (codes "const") ms) (at (codes "const")) (λ d m. m.const refl),
        weaker _ _ (get_member (codes "enum") ms) (at (codes "enum")) (λ d m. m.enum refl),
        weaker _ _ (get_member (codes "required") ms) (at (codes "required")) (λ d m. m.kind.required refl),
        weaker _ _ (get_member (codes "properties") ms) (at (codes "properties")) (λ d m. m.kind.properties refl),
        weaker _ _ (get_member (codes "additionalProperties") ms) (at (codes "additionalProperties")) (λ d m. m.kind.additional refl),
        each-of _ (of_each (is_some (get_member (codes "prefixItems") ms))) (get_member (codes "items") ms) (weaker _ _ (get_member (codes "items") ms) (at (codes "items")) (λ d m. m.kind.items refl)),
        weaker _ _ (get_member (codes "minItems") ms) (at (codes "minItems")) (λ d m. m.kind.least refl),
        weaker _ _ (get_member (codes "anyOf") ms) (at (codes "anyOf")) (λ d m. m.any refl),
        weaker _ _ (get_member (codes "oneOf") ms) (at (codes "oneOf")) (λ d m. m.one refl),
        weaker _ _ (get_member (codes "allOf") ms) (at (codes "allOf")) (λ d m. m.all refl),
      ),
    )

-- ---- items

pub each-item : (P : Value → Type 0) (vs : List tree.Value) → AllByRecursion (λ x. IfSome (tree_value (view x)) P) vs → IfSome (tree_items (items_view vs)) (EachItem P)
each-item P [] h = tt
each-item P (x ∷ vs) h = chained _ (λ v. option_map (item v) (tree_items (items_view vs))) (tree_value (view x)) h.0 (λ v p.
    mapped _ (item v) (tree_items (items_view vs)) (each-item P vs h.1) (λ vs ps. (p, ps)))

-- where one of these is such the value has one
pub some-item : (P : Data → Value → Type 0) (o : Option Value) (vs : List tree.Value) (i : ℕ) (x : tree.Value) → i < length vs → x ≡ get_or vs i x → IfSome o (P (view x))
    → IfSome o (λ v. SomeItem (λ d. P d v) (items_view vs))
some-item P None vs i x within is h = tt
some-item P (Some v) vs i x within is h = some-at (λ d. P d v) vs i x within is h

as-long : (vs : List tree.Value) → IfSome (tree_items (items_view vs)) (λ out. length (values_of_items out) ≡ length vs)
as-long [] = refl
as-long (x ∷ vs) = chained _ (λ v. option_map (item v) (tree_items (items_view vs))) (tree_value (view x)) (always _) (λ v _.
    mapped _ (item v) (tree_items (items_view vs)) (as-long vs) (λ out e. ap suc e))

pub least-items : (d : Data) (vs : List tree.Value) → IsAtLeast (length vs) d → IfSome (tree_items (items_view vs)) (λ out. HasItems (sequence out) d)
least-items null vs h = always _
least-items (boolean b) vs h = always _
least-items (number (unsigned n)) vs h = weaker _ _ (tree_items (items_view vs)) (as-long vs) (λ out e. rw e h)
least-items (number (json.negative z)) vs h = always _
least-items (number (json.float x)) vs h = always _
least-items (string s) vs h = always _
least-items (array ds) vs h = always _
least-items (object ms) vs h = always _

-- ---- keys

pub key-there : (k : List ℕ) (ms : Members) → IsSome (get_member k ms) → IfSome (tree_entries ms) (λ es. IsSome (entry_at k es))
key-there k ms h = weaker _ _ (tree_entries ms) (alike k ms) (λ es l. there k (get_member k ms) (entry_at k es) l h)

each-key : (es : Entries) (vs : List tree.Value) → AllByRecursion (λ x. HasKey es (view x)) vs → EachKey es (items_view vs)
each-key es [] h = tt
each-key es (x ∷ vs) h = (h.0, each-key es vs h.1)

pub keys-there : (o : Option Entries) (vs : List tree.Value) → AllByRecursion (λ x. IfSome o (λ es. HasKey es (view x))) vs → IfSome o (λ es. HasKeys (mapping es) (array (items_view vs)))
keys-there None vs h = tt
keys-there (Some es) vs h = each-key es vs h

-- ---- properties

property-there : (k : List ℕ) (ms : Members) → is_some (get_member k ms) ≡ is_property k ms
property-there k no_members = refl
property-there k (member l d ms) = go (slice_cmp nat_cmp k l) (is_eq-slice_cmp k l) (property-there k ms)
  where
    go : (o : Ordering) → is_eq o ≡ bytes_eq k l → is_some (get_member k ms) ≡ is_property k ms
        → is_some (match_ordering o (get_member k ms) (Some d) (get_member k ms)) ≡ (bytes_eq k l || is_property k ms)
    go Less is ih = rw (← is) ih
    go Equal is ih = rw (← is) refl
    go Greater is ih = rw (← is) ih

pub in-properties : (k : List ℕ) (d : Data) → is_some (get k d) ≡ in_properties k (Some d)
in-properties k null = refl
in-properties k (boolean b) = refl
in-properties k (number n) = refl
in-properties k (string s) = refl
in-properties k (array ds) = refl
in-properties k (object ms) = property-there k ms

some-map : {A B : Type 0} (f : A → B) (o : Option A) → is_some o ≡ is_some (option_map f o)
some-map f None = refl
some-map f (Some a) = refl

pub is-in : (k : List ℕ) (o : Option (Bor tree.Value)) (d : Data) → option_map (λ (x : Bor tree.Value). view x.now) o ≡ get k d → is_some o ≡ in_properties k (Some d)
is-in k o d e = some-map (λ (x : Bor tree.Value). view x.now) o ∙ ap is_some e ∙ in-properties k d

each-value : (P : List ℕ → Value → Type 0) (ms : Members) → EachMember (λ k d. IfSome (tree_value d) (P k)) ms → IfSome (tree_entries ms) (EachEntry P)
each-value P no_members h = tt
each-value P (member k d ms) h = chained _ (λ v. option_map (entry k v) (tree_entries ms)) (tree_value d) h.0 (λ w p.
    mapped _ (entry k w) (tree_entries ms) (each-value P ms h.1) (λ es ps. (p, ps)))

member-weaker : (P Q : List ℕ → Data → Type 0) (ms : Members) → EachMember P ms → ((k : List ℕ) (d : Data) → P k d → Q k d) → EachMember Q ms
member-weaker P Q no_members h next = tt
member-weaker P Q (member k d ms) h next = (next k d h.0, member-weaker P Q ms h.1 next)

module _ (C : Data → Value → Type 0) where
  pub others-fit : (ps qs : Option Data) (d : Data) (ms : Members) → EachMember (λ k e. in_properties k ps ≡ false → IfSome (tree_value e) (C d)) ms
      → IfSome (tree_entries ms) (λ es. FitsAdditional C ps qs (mapping es) d)
  others-fit ps qs d ms h =
      each-value (λ k v. in_properties k ps ≡ false → FitsPattern C qs v ⊎ C d v) ms (member-weaker _ _ ms h (λ k e p. under (in_properties k ps) (tree_value e) p))
    where
      under : (b : Bool) (o : Option Value) → (b ≡ false → IfSome o (C d)) → IfSome o (λ v. b ≡ false → FitsPattern C qs v ⊎ C d v)
      under b None p = tt
      under b (Some v) p = λ e. inr (p e)

  -- `items`, where they are of each item
  pub of-each-fits : (c : Bool) (d : Data) (o : Option value.Items) → IfSome o (λ vs. FitsItems C (sequence vs) d)
      → IfSome o (λ vs. IfSome (of_each c d) (FitsItems C (sequence vs)))
  of-each-fits c d None h = tt
  of-each-fits c (array ds) (Some vs) h = tt
  of-each-fits true d (Some vs) h = tt
  of-each-fits false d (Some vs) h = h

  fits-found : (ps : Members) (k : List ℕ) (w : Value) → AreApart ps → IfSome (get_member k ps) (λ s. C s w) → FitsProperty C ps k w
  fits-found no_members k w apart h = tt
  fits-found (member l s ps) k w apart h = go (slice_cmp nat_cmp k l) (is_eq-slice_cmp k l) (fits-found ps k w apart.1) h
    where
      last : bytes_eq k l ≡ true → IfSome (get_member k ps) (λ s. C s w)
      last e = let same : k ≡ l = (bytes_eq-Decides k l).0 e in let none = apart.0 in rw (same, none) tt

      go : (o : Ordering) → is_eq o ≡ bytes_eq k l → (IfSome (get_member k ps) (λ s. C s w) → FitsProperty C ps k w)
          → IfSome (match_ordering o (get_member k ps) (Some s) (get_member k ps)) (λ s. C s w) → FitsProperty C (member l s ps) k w
      go Less is rest h = (λ e. absurd (let both = is ∙ e in cc), rest h)
      go Equal is rest h = (λ e. h, rest (last (sym is)))
      go Greater is rest h = (λ e. absurd (let both = is ∙ e in cc), rest h)

  pub properties-fit : (d : Data) (ms : Members) → IfSome (as_object d) AreApart → EachMember (λ k e. IfSome (get k d) (λ s. IfSome (tree_value e) (C s))) ms
      → IfSome (tree_entries ms) (λ es. FitsProperties C (mapping es) d)
  properties-fit null ms apart h = always _
  properties-fit (boolean b) ms apart h = always _
  properties-fit (number n) ms apart h = always _
  properties-fit (string s) ms apart h = always _
  properties-fit (array ds) ms apart h = always _
  properties-fit (object ps) ms apart h = each-value (FitsProperty C ps) ms (member-weaker _ _ ms h (λ k e p. by k (tree_value e) p))
    where
      swap : (o : Option Data) (w : Value) → IfSome o (λ s. IfSome (Some w) (C s)) → IfSome o (λ s. C s w)
      swap None w p = tt
      swap (Some s) w p = p

      by : (k : List ℕ) (o : Option Value) → IfSome (get_member k ps) (λ s. IfSome o (C s)) → IfSome o (FitsProperty C ps k)
      by k None p = tt
      by k (Some w) p = fits-found ps k w apart (swap (get_member k ps) w p)

-- ---- schemas

-- a value for which each of these holds
pub every-item : (P : Data → Value → Type 0) (o : Option Value) (vs : List tree.Value) → AllByRecursion (λ x. IfSome o (P (view x))) vs
    → IfSome o (λ v. EachItemOf (λ d. P d v) (items_view vs))
every-item P None vs h = tt
every-item P (Some v) vs h = each vs h
  where
    each : (vs : List tree.Value) → AllByRecursion (λ x. P (view x) v) vs → EachItemOf (λ d. P d v) (items_view vs)
    each [] h = tt
    each (x ∷ vs) h = (h.0, each vs h.1)

-- ---- a document

base-same : (root : Data) (draft : Draft) → draft_of root ≡ Some draft → inside_has_base (identifier_of draft) root ≡ false → base_of root ≡ root
base-same root draft is none =
    let inner : has_inner_base root ≡ false = ap (λ o. inside_has_base (option_map_or identifier_of o (codes "$id")) root) is ∙ none in
    rw inner refl

pub of-schema : (root : Data) (draft : Draft) (n : ℕ) (o : Option Value) → draft_of root ≡ Some draft → inside_has_base (identifier_of draft) root ≡ false
    → IfSome o (conforms_in root n root) → IfSome o (IsOfSchema root)
of-schema root draft n o is none h =
    weaker (conforms_in root n root) (IsOfSchema root) o h (λ v p. (n, subst (λ r. conforms_in r n root v) (sym (base-same root draft is none)) p))
