-- What the shapes have that are read of a document: each value that conforms to what they are read of.
use Rattle.std.specs.Prelude.{◌≡◌, ◌⊎◌, ◌≤◌, ℕ, suc, true, false, not, ◌&&◌, List, Option, Some, None, is_some, IfSome, codes}
use Rattle.serde_json.specs.Data as json
use Rattle.serde_json.specs.Data.{Data, Members}
use Rattle.serde_json.specs.Find.{get}
use Rattle.serde_json.specs.View.{view}
use Rattle.tmpl_values.specs.Value.{Value, Entries, nothing, null, boolean, number, string, sequence, mapping}
use Rattle.tmpl_shape.specs.Shape.{AreDistinct, Fields, HasRequired, HasShape, IsField, Names, Shape, record_of}
use Rattle.tmpl_shape.specs.View.{shape_of}
use Rattle.tmpl_shape.specs.declared.shape.Definition.{Definition}
use Rattle.tmpl_json_schema.specs.Document.{FitsAdditional, FitsEach, FitsItems, FitsPattern, FitsProperties, FitsProperty, FitsSome, HasItems, HasKeys}
use Rattle.tmpl_json_schema.specs.Document.{IsConstant, IsInstance, IsOfType, IsOneOf, base_of, conforms_in, draft_of, is_property, is_since_2019, items_in, refer, referent}
use Rattle.tmpl_json_schema.specs.declared.draft.Draft.{Draft}
use Rattle.tmpl_json_schema.specs.declared.kinds.Kinds.{Kinds}
use Rattle.tmpl_json_schema.specs.declared.read.Reader as held_reader
use Rattle.tmpl_json_schema.specs.computed.Defined.{AreLookedUp}
use Rattle.tmpl_json_schema.specs.computed.Reading.{is_listed, is_unread}

-- a value is of one of the kinds
abbrev pub HasKind : Kinds → Value → Type 0
HasKind ks nothing = ⊥
HasKind ks null = ks.null ≡ true
HasKind ks (boolean b) = ks.truth ≡ true
HasKind ks (number n) = ks.number ≡ true
HasKind ks (string s) = ks.text ≡ true
HasKind ks (sequence vs) = ks.list ≡ true
HasKind ks (mapping es) = ks.map ≡ true

-- what a document is read by: its draft, the pointers that a `$ref` may have, and itself
pub record Context : Type 0 where
  pub draft : Draft
  pub names : List (List ℕ)
  pub root : Data

abbrev pub context_of : held_reader.Reader → Context
context_of r = record { draft = r.draft; names = r.names.now; root = view r.root.now }

-- the document is of the draft, and the pointers are looked up in it
abbrev pub IsSound : Context → Type 0
IsSound c = (draft_of c.root ≡ Some c.draft) × AreLookedUp c.root c.names

-- the values that conform, where as many schemas are followed
abbrev pub Conforms : Context → ℕ → Data → Value → Type 0
Conforms c n = conforms_in (base_of c.root) n

-- a name stands for what conforms at its pointer, where fewer are followed
abbrev pub NamesIn : Context → ℕ → Names
NamesIn c n p v = (m : ℕ) × (suc m ≤ n) × (is_listed c.names p ≡ true) × IfSome (referent p (base_of c.root)) (λ d. Conforms c m d v)

-- each value that conforms to the schema has the shape
abbrev pub IsReadOf : Context → Data → Shape → Type 0
IsReadOf c d s = IsSound c → (n : ℕ) (v : Value) → Conforms c n d v → HasShape (NamesIn c n) s v

module _ (c : Context) (P : (Data → Value → Type 0) → Value → Type 0) where
  -- each value of which this is so, of what conforms inside a schema, has the shape
  abbrev pub Has : Shape → Type 0
  Has s = IsSound c → (n : ℕ) (v : Value) → P (Conforms c n) v → HasShape (NamesIn c (suc n)) s v

  -- .. if it has the first
  abbrev pub Keeps : Shape → Shape → Type 0
  Keeps s t = IsSound c → (n : ℕ) (v : Value) → HasShape (NamesIn c (suc n)) s v → P (Conforms c n) v → HasShape (NamesIn c (suc n)) t v

  -- .. and so has each that has the first
  abbrev pub Adds : Shape → Shape → Type 0
  Adds s t = IsSound c → (n : ℕ) (v : Value) → HasShape (NamesIn c (suc n)) s v ⊎ P (Conforms c n) v → HasShape (NamesIn c (suc n)) t v

-- a schema beside whose `$ref` the other keywords count, and of which its draft has `const`
abbrev pub IsBeside : Context → Data → Type 0
IsBeside c d = (is_unread c.draft d ≡ false) × ((is_some (get (codes "$ref") d) && not (is_since_2019 c.draft)) ≡ false)

-- a value conforms to each keyword of a schema but `$ref`
abbrev pub Plain : Data → (Data → Value → Type 0) → Value → Type 0
Plain d C v =
    let keyword : List ℕ → Option Data = λ name. get name d in
    IsInstance v
    × IfSome (keyword (codes "type")) (IsOfType v)
    × IfSome (keyword (codes "const")) (IsConstant v)
    × IfSome (keyword (codes "enum")) (IsOneOf v)
    × IfSome (keyword (codes "required")) (HasKeys v)
    × IfSome (keyword (codes "properties")) (FitsProperties C v)
    × IfSome (keyword (codes "additionalProperties")) (FitsAdditional C (keyword (codes "properties")) (keyword (codes "patternProperties")) v)
    × IfSome (items_in d) (FitsItems C v)
    × IfSome (keyword (codes "minItems")) (HasItems v)
    × IfSome (keyword (codes "anyOf")) (FitsSome C v)
    × IfSome (keyword (codes "oneOf")) (FitsSome C v)
    × IfSome (keyword (codes "allOf")) (FitsEach C v)

-- .. which is of one of the kinds
abbrev pub PlainOf : Kinds → Data → (Data → Value → Type 0) → Value → Type 0
PlainOf ks d C v = HasKind ks v × Plain d C v

-- .. to what is at a pointer
abbrev pub At : Context → List ℕ → (Data → Value → Type 0) → Value → Type 0
At c p C v = (is_listed c.names p ≡ true) × IfSome (referent p (base_of c.root)) (λ d. C d v)

-- .. to that, and to what stands beside the `$ref` of it, where this counts
abbrev pub Referred : Context → Data → List ℕ → (Data → Value → Type 0) → Value → Type 0
Referred c d p C v = At c p C v × (IsBeside c d → Plain d C v)

-- .. to a schema that is an object
abbrev pub Whole : Context → Data → (Data → Value → Type 0) → Value → Type 0
Whole c d C v = IfSome (get (codes "$ref") d) (λ r. IfSome (refer (base_of c.root) r) (λ t. C t v)) × (IsBeside c d → Plain d C v)

-- .. to what the value of a key is that is no property, and to the schema of each item
abbrev pub Additional : Data → (Data → Value → Type 0) → Value → Type 0
Additional d C v = IfSome (get (codes "additionalProperties") d) (λ a. FitsPattern C (get (codes "patternProperties") d) v ⊎ C a v)

abbrev pub ItemOf : Data → (Data → Value → Type 0) → Value → Type 0
ItemOf d C v = IfSome (items_in d) (λ i. C i v)

-- a map that conforms to the keywords of fields has these
abbrev pub HasFields : Context → Data → Fields → Type 0
HasFields c d fs = IsSound c → (n : ℕ) (es : Entries) → AreDistinct es
    → IfSome (get (codes "required") d) (HasKeys (mapping es))
    → IfSome (get (codes "properties") d) (FitsProperties (Conforms c n) (mapping es))
    → IfSome (get (codes "additionalProperties") d) (FitsAdditional (Conforms c n) (get (codes "properties") d) (get (codes "patternProperties") d) (mapping es))
    → HasShape (NamesIn c (suc n)) (record_of fs) (mapping es)

-- the values that two shapes share have the third
abbrev pub AreShared : Context → Shape → Shape → Shape → Type 0
AreShared c s t u = (n : ℕ) (v : Value) → HasShape (NamesIn c n) s v → HasShape (NamesIn c n) t v → HasShape (NamesIn c n) u v

-- the value of each key that conforms to its property, or else is of the first fields, is of the second; and so is what they require
abbrev pub WithProperties : Context → Option Data → Members → Fields → Fields → Type 0
WithProperties c required ms gs fs = IsSound c → (n : ℕ)
    → ((k : List ℕ) (v : Value) → FitsProperty (Conforms c n) ms k v → (is_property k ms ≡ false → IsField (NamesIn c (suc n)) gs k v) → IsField (NamesIn c (suc n)) fs k v)
    × ((es : Entries) → IfSome required (HasKeys (mapping es)) → HasRequired gs es → HasRequired fs es)

-- .. of the properties of a schema, if there are some
abbrev pub WithEachOf : Context → Option Data → Option Data → Fields → Fields → Type 0
WithEachOf c required None gs fs = fs ≡ gs
WithEachOf c required (Some (json.object ms)) gs fs = WithProperties c required ms gs fs
WithEachOf c required (Some d) gs fs = ⊥

abbrev pub WithEachProperty : Context → Data → Fields → Fields → Type 0
WithEachProperty c d = WithEachOf c (get (codes "required") d) (get (codes "properties") d)

-- the name of a definition is the pointer to what its shape is read of
abbrev pub IsDefinition : Context → Definition → Type 0
IsDefinition c d = (v : Data) × (referent d.name c.root ≡ Some v) × IsReadOf c v (shape_of d.shape)
