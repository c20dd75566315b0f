-- Which values conform to a JSON Schema, by the JSON value of its bytes. C is the core specification, V that of validation,
-- of the draft 2020-12; where an earlier draft differs in a keyword that is used here, that is said. What only narrows further
-- is left out, as `minLength`, `not`, `if` and `dependentSchemas`: more values conform than by the specification.
use Rattle.std.specs.Prelude.{◌≡◌, ◌⊎◌, ◌≤◌, ℕ, zero, suc, true, false, not, is_some, List, length, [], ◌∷◌, ◌||◌, ◌&&◌, ◌==◌, Bool, Option, Some, None, IsSome, IfSome, codes}
use Rattle.std.specs.Option.{option_and_then, option_map_or, option_or, unwrap_or}
use Rattle.std.specs.Prelude.{if◌then◌else◌}
use Rattle.std.specs.Str.{bytes_eq, is_utf8}
use Rattle.percent_encoding.specs.Percent.{percent_decode}
use Rattle.serde_json.specs.Data as json
use Rattle.serde_json.specs.Data.{Data, unsigned, Items, no_items, Members, no_members, member}
use Rattle.serde_json.specs.Find.{as_i64, as_object, get, pointer}
use Rattle.serde_json.specs.Read.{read}
use Rattle.tmpl_values.specs.Value.{Value, Entries, nothing, null, boolean, number, string, sequence, mapping}
use Rattle.tmpl_values.specs.Elements.{values_of_items}
use Rattle.tmpl_values.specs.Field.{entry_at}
use Rattle.tmpl_shape.specs.Shape.{EachItem, EachEntry, AreDistinct}
use Rattle.tmpl_json_schema.specs.declared.draft.Draft.{Draft}
use Rattle.tmpl_json_schema.specs.declared.draft.Draft.TheVariants.{Draft04, Draft06, Draft07, Draft2019, Draft2020}

-- one of two spellings
abbrev pub names_either : List ℕ → List ℕ → List ℕ → Bool
names_either plain marked uri = bytes_eq uri plain || bytes_eq uri marked

-- the draft that a URI names (C 8.1.1), with or without an empty fragment; the later ones are also written with `http:`
abbrev pub draft_named : List ℕ → Option Draft
draft_named uri =
    if names_either (codes "http://json-schema.org/draft-04/schema") (codes "http://json-schema.org/draft-04/schema#") uri then Some Draft04
    else if names_either (codes "http://json-schema.org/draft-06/schema") (codes "http://json-schema.org/draft-06/schema#") uri then Some Draft06
    else if names_either (codes "http://json-schema.org/draft-07/schema") (codes "http://json-schema.org/draft-07/schema#") uri then Some Draft07
    else if names_either (codes "https://json-schema.org/draft/2019-09/schema") (codes "https://json-schema.org/draft/2019-09/schema#") uri then Some Draft2019
    else if names_either (codes "http://json-schema.org/draft/2019-09/schema") (codes "http://json-schema.org/draft/2019-09/schema#") uri then Some Draft2019
    else if names_either (codes "https://json-schema.org/draft/2020-12/schema") (codes "https://json-schema.org/draft/2020-12/schema#") uri then Some Draft2020
    else if names_either (codes "http://json-schema.org/draft/2020-12/schema") (codes "http://json-schema.org/draft/2020-12/schema#") uri then Some Draft2020
    else None

-- the draft of a document, if it is one of these: that which `$schema` names at its top, or else 2020-12
abbrev pub draft_in : Data → Option Draft
draft_in (json.string uri) = draft_named uri
draft_in d = None

abbrev pub draft_of : Data → Option Draft
draft_of root = option_map_or draft_in (get (codes "$schema") root) (Some Draft2020)

abbrev pub is_since_2019 : Draft → Bool
is_since_2019 Draft2019 = true
is_since_2019 Draft2020 = true
is_since_2019 draft = false

-- the keyword of an identifier (C 8.2.1): before draft-06 it is `id`
abbrev pub identifier_of : Draft → List ℕ
identifier_of Draft04 = codes "id"
identifier_of draft = codes "$id"

-- whether a draft has `const`: draft-04 has not
abbrev pub has_const : Draft → Bool
has_const Draft04 = false
has_const draft = true

-- whether this is so of the draft of a document
abbrev pub of_draft : (Draft → Bool) → Data → Bool
of_draft P root = option_map_or P (draft_of root) true

-- a value that is looked at (C 4.2.1): there is one, and a map has each key once
abbrev pub IsInstance : Value → Type 0
IsInstance nothing = ⊥
IsInstance (mapping es) = AreDistinct es
IsInstance v = Unit {0}

-- the type of a value (C 4.2.1); each number is whole
abbrev pub type_of : Value → List ℕ
type_of nothing = []
type_of null = codes "null"
type_of (boolean b) = codes "boolean"
type_of (number n) = codes "integer"
type_of (string s) = codes "string"
type_of (sequence vs) = codes "array"
type_of (mapping es) = codes "object"

-- it has the type of this name
abbrev pub HasType : List ℕ → Value → Type 0
HasType name v = (name ≡ type_of v) ⊎ ((name ≡ codes "number") × (codes "integer" ≡ type_of v))

-- one of these is such
abbrev pub SomeItem : (Data → Type 0) → Items → Type 0
SomeItem P no_items = ⊥
SomeItem P (json.item d ds) = P d ⊎ SomeItem P ds

-- .. each of them is
abbrev pub EachItemOf : (Data → Type 0) → Items → Type 0
EachItemOf P no_items = Unit {0}
EachItemOf P (json.item d ds) = P d × EachItemOf P ds

-- one of the values of these members is such
abbrev pub SomeMember : (Data → Type 0) → Members → Type 0
SomeMember P no_members = ⊥
SomeMember P (member k d ms) = P d ⊎ SomeMember P ms

-- the name of a type, as an item of `type`
abbrev pub IsNameOfType : Value → Data → Type 0
IsNameOfType v (json.string name) = HasType name v
IsNameOfType v d = ⊥

-- `type` (V 6.1.1): the name of its type, or a list of names of which one is
abbrev pub IsOfType : Value → Data → Type 0
IsOfType v (json.string name) = HasType name v
IsOfType v (json.array ds) = SomeItem (IsNameOfType v) ds
IsOfType v d = Unit {0}

-- `const` (V 6.1.3): the value is this, as far as is looked: not into lists and maps, nor into numbers that are not written as integers
abbrev pub IsConstant : Value → Data → Type 0
IsConstant null json.null = Unit {0}
IsConstant (boolean b) (json.boolean c) = b ≡ c
IsConstant (number n) (json.number m) = IfSome (as_i64 m) (λ i. n ≡ i)
IsConstant (string s) (json.string t) = s ≡ t
IsConstant (sequence vs) (json.array ds) = Unit {0}
IsConstant (mapping es) (json.object ms) = Unit {0}
IsConstant v d = ⊥

-- `enum` (V 6.1.2): one of these
abbrev pub IsOneOf : Value → Data → Type 0
IsOneOf v (json.array ds) = SomeItem (IsConstant v) ds
IsOneOf v d = Unit {0}

-- `required` (V 6.5.3): a map has each of these keys
abbrev pub HasKey : Entries → Data → Type 0
HasKey es (json.string k) = IsSome (entry_at k es)
HasKey es d = Unit {0}

abbrev pub EachKey : Entries → Items → Type 0
EachKey es no_items = Unit {0}
EachKey es (json.item d ds) = HasKey es d × EachKey es ds

abbrev pub HasKeys : Value → Data → Type 0
HasKeys (mapping es) (json.array ds) = EachKey es ds
HasKeys v d = Unit {0}

-- `minItems` (V 6.4.2): a list has at least as many items; a number that is not written as a whole one is not looked at
abbrev pub HasItems : Value → Data → Type 0
HasItems (sequence vs) (json.number (unsigned n)) = n ≤ length (values_of_items vs)
HasItems v d = Unit {0}

-- the properties have this name
abbrev pub is_property : List ℕ → Members → Bool
is_property k no_members = false
is_property k (member l d ms) = bytes_eq k l || is_property k ms

abbrev pub in_properties : List ℕ → Option Data → Bool
in_properties k (Some (json.object ms)) = is_property k ms
in_properties k o = false

-- `items` of a schema, if it is of each item (C 10.3.1.2): not beside `prefixItems`, nor as a list of schemas, which it may be before 2020-12
abbrev pub of_each : Bool → Data → Option Data
of_each has_prefixes (json.array ds) = None
of_each has_prefixes d = if has_prefixes then None else Some d

abbrev pub items_in : Data → Option Data
items_in schema = option_and_then (of_each (is_some (get (codes "prefixItems") schema))) (get (codes "items") schema)

module _ (Conforms : Data → Value → Type 0) where
  -- `properties` (C 10.3.2.1): the value of a key conforms to the schema that stands under that name
  abbrev pub FitsProperty : Members → List ℕ → Value → Type 0
  FitsProperty no_members k v = Unit {0}
  FitsProperty (member l d ms) k v = (bytes_eq k l ≡ true → Conforms d v) × FitsProperty ms k v

  abbrev pub FitsProperties : Value → Data → Type 0
  FitsProperties (mapping es) (json.object ms) = EachEntry (FitsProperty ms) es
  FitsProperties v d = Unit {0}

  -- `patternProperties` (C 10.3.2.2), of the value of a key that one of the patterns may match: it conforms to one of the schemas
  abbrev pub FitsPattern : Option Data → Value → Type 0
  FitsPattern (Some (json.object ms)) v = SomeMember (λ d. Conforms d v) ms
  FitsPattern qs v = ⊥

  -- `additionalProperties` (C 10.3.2.3): the value of any other key conforms to this, unless a pattern matches the key
  abbrev pub FitsAdditional : Option Data → Option Data → Value → Data → Type 0
  FitsAdditional ps qs (mapping es) d = EachEntry (λ k v. in_properties k ps ≡ false → FitsPattern qs v ⊎ Conforms d v) es
  FitsAdditional ps qs v d = Unit {0}

  -- `items` (C 10.3.1.2), if it is of each item: each item of a list conforms to it
  abbrev pub FitsItems : Value → Data → Type 0
  FitsItems (sequence vs) d = EachItem (Conforms d) vs
  FitsItems v d = Unit {0}

  -- `anyOf` (C 10.2.1.2), and of `oneOf` (C 10.2.1.3) the part that one of them is enough for
  abbrev pub FitsSome : Value → Data → Type 0
  FitsSome v (json.array ds) = SomeItem (λ d. Conforms d v) ds
  FitsSome v d = Unit {0}

  -- `allOf` (C 10.2.1.1)
  abbrev pub FitsEach : Value → Data → Type 0
  FitsEach v (json.array ds) = EachItemOf (λ d. Conforms d v) ds
  FitsEach v d = Unit {0}

-- what a `$ref` within the document points to (C 8.2.3.1, 9.2.1): after `#` and without the escapes of a URI a JSON Pointer or a name
abbrev pub fragment_of : List ℕ → Option (List ℕ)
fragment_of [] = None
fragment_of (b ∷ rest) = if b == 35 then Some (percent_decode rest) else None

-- a keyword of a schema has this text
abbrev pub is_text : List ℕ → Data → Bool
is_text text (json.string t) = bytes_eq t text
is_text text d = false

abbrev pub has_text : List ℕ → List ℕ → Data → Bool
has_text keyword text schema = option_map_or (is_text text) (get keyword schema) false

-- a schema has this name (C 8.2.2): since 2019-09 by `$anchor` or `$dynamicAnchor`, before by an identifier that is `#` and the name
abbrev pub is_named : Draft → List ℕ → Data → Bool
is_named draft name schema =
    if is_since_2019 draft then has_text (codes "$anchor") name schema || has_text (codes "$dynamicAnchor") name schema
    else has_text (identifier_of draft) (35 ∷ name) schema

-- the first of these definitions that has it
abbrev pub first_named : Draft → List ℕ → Members → Option Data
first_named draft name no_members = None
first_named draft name (member k d ms) = if is_named draft name d then Some d else first_named draft name ms

-- .. of those at the top, of which each draft has the keyword
abbrev pub definitions_of : Draft → List ℕ
definitions_of draft = if is_since_2019 draft then codes "$defs" else codes "definitions"

abbrev pub definition_named : List ℕ → Data → Option Data
definition_named name root =
    let draft = unwrap_or (draft_of root) Draft2020 in
    option_and_then (first_named draft name) (option_and_then as_object (get (definitions_of draft) root))

-- what stands at a JSON Pointer, or else the definition at the top that has this name
abbrev pub referent : List ℕ → Data → Option Data
referent fragment root = option_or (pointer fragment root) (definition_named fragment root)

abbrev pub refer : Data → Data → Option Data
refer root (json.string r) = option_and_then (λ p. referent p root) (fragment_of r)
refer root d = None

-- there is a `$ref` beside which nothing else is looked at: no draft before 2019-09 does
abbrev pub is_alone : Data → Option Data → Bool
is_alone root reference = is_some reference && not (of_draft is_since_2019 root)

-- a value conforms to what stands in a document (C 4.3.1, 4.3.2): to each keyword by itself
abbrev pub ConformsBy : Data → (Data → Value → Type 0) → Data → Value → Type 0
ConformsBy root Conforms (json.boolean b) v = b ≡ true
ConformsBy root Conforms (json.object ms) v =
    let keyword : List ℕ → Option Data = λ name. get name (json.object ms) in
    IsInstance v
    × IfSome (keyword (codes "$ref")) (λ r. IfSome (refer root r) (λ d. Conforms d v))
    × (is_alone root (keyword (codes "$ref")) ≡ false
    → IfSome (keyword (codes "type")) (IsOfType v)
    × (of_draft has_const root ≡ true → IfSome (keyword (codes "const")) (IsConstant v))
    × IfSome (keyword (codes "enum")) (IsOneOf v)
    × IfSome (keyword (codes "required")) (HasKeys v)
    × IfSome (keyword (codes "properties")) (FitsProperties Conforms v)
    × IfSome (keyword (codes "additionalProperties")) (FitsAdditional Conforms (keyword (codes "properties")) (keyword (codes "patternProperties")) v)
    × IfSome (items_in (json.object ms)) (FitsItems Conforms v)
    × IfSome (keyword (codes "minItems")) (HasItems v)
    × IfSome (keyword (codes "anyOf")) (FitsSome Conforms v)
    × IfSome (keyword (codes "oneOf")) (FitsSome Conforms v)
    × IfSome (keyword (codes "allOf")) (FitsEach Conforms v))
ConformsBy root Conforms d v = Unit {0}

-- .. where as many schemas are followed, one into the other
abbrev pub conforms_in : Data → ℕ → Data → Value → Type 0
conforms_in root zero d v = ⊥
conforms_in root (suc n) d v = ConformsBy root (conforms_in root n) d v

-- an identifier from which a `$ref` is looked up: one that begins with `#` is a name within the document
abbrev pub is_base : Data → Bool
is_base (json.string uri) = not (is_some (fragment_of uri))
is_base d = false

-- something in it has an identifier under this keyword, from which a `$ref` is looked up
abbrev mutual
  pub has_base : List ℕ → Data → Bool
  has_base key (json.array ds) = item_has_base key ds
  has_base key (json.object ms) = member_has_base key ms
  has_base key d = false

  pub item_has_base : List ℕ → Items → Bool
  item_has_base key no_items = false
  item_has_base key (json.item d ds) = has_base key d || item_has_base key ds

  pub member_has_base : List ℕ → Members → Bool
  member_has_base key no_members = false
  member_has_base key (member k d ms) = (bytes_eq k key && is_base d) || (has_base key d || member_has_base key ms)

-- .. below the top
abbrev pub below_has_base : List ℕ → Members → Bool
below_has_base key no_members = false
below_has_base key (member k d ms) = has_base key d || below_has_base key ms

abbrev pub inside_has_base : List ℕ → Data → Bool
inside_has_base key (json.object ms) = below_has_base key ms
inside_has_base key root = false

abbrev pub has_inner_base : Data → Bool
has_inner_base root = inside_has_base (option_map_or identifier_of (draft_of root) (codes "$id")) root

-- the document that says its draft, and nothing else
abbrev pub draft_alone : Data → Data
draft_alone root = json.object (option_map_or (λ uri. member (codes "$schema") uri no_members) (get (codes "$schema") root) no_members)

-- where each `$ref` is looked up: in the document, or, if something below its top has an identifier, nowhere
abbrev pub base_of : Data → Data
base_of root = if has_inner_base root then draft_alone root else root

-- the JSON value of bytes
abbrev pub document_of : List ℕ → Option Data
document_of bytes = if is_utf8 bytes then read bytes else None

-- a value conforms to a document
abbrev pub IsOfSchema : Data → Value → Type 0
IsOfSchema root v = (n : ℕ) × conforms_in (base_of root) n root v

-- .. to the one that these bytes are
abbrev pub ConformsTo : List ℕ → Value → Type 0
ConformsTo bytes v = (root : Data) × (document_of bytes ≡ Some root) × IsOfSchema root v
