-- Which keywords a schema may have, wherever one stands in a document: those of our own list, and what is not near one of them.
use Rattle.std.specs.Prelude.{◌≡◌, ◌||◌, ◌&&◌, ◌==◌, ℕ, Bool, true, false, not, List, [], ◌∷◌, IfSome, codes, if◌then◌else◌}
use Rattle.std.specs.List.{AllByRecursion, list_any}
use Rattle.std.specs.Str.{bytes_eq}
use Rattle.serde_json.specs.Data as json
use Rattle.serde_json.specs.Data.{Data, Items, no_items, Members, no_members, member}
use Rattle.tmpl_shape.specs.declared.shape.Definition.{Definition}
use Rattle.tmpl_json_schema.specs.Document.{referent}

-- those that are read, those that only narrow further, and notes
abbrev pub keywords : List (List ℕ)
keywords =
    codes "$schema" ∷ codes "$id" ∷ codes "id" ∷ codes "$ref" ∷ codes "$defs" ∷ codes "definitions"
    ∷ codes "type" ∷ codes "enum" ∷ codes "const" ∷ codes "properties" ∷ codes "required" ∷ codes "additionalProperties"
    ∷ codes "patternProperties" ∷ codes "items" ∷ codes "prefixItems" ∷ codes "anyOf" ∷ codes "oneOf" ∷ codes "allOf"
    ∷ codes "minimum" ∷ codes "maximum" ∷ codes "exclusiveMinimum" ∷ codes "exclusiveMaximum" ∷ codes "multipleOf"
    ∷ codes "minItems" ∷ codes "maxItems" ∷ codes "uniqueItems" ∷ codes "minLength" ∷ codes "maxLength"
    ∷ codes "pattern" ∷ codes "format" ∷ codes "minProperties" ∷ codes "maxProperties" ∷ codes "dependentRequired"
    ∷ codes "not" ∷ codes "if" ∷ codes "then" ∷ codes "else" ∷ codes "contains" ∷ codes "minContains" ∷ codes "maxContains"
    ∷ codes "propertyNames" ∷ codes "dependencies" ∷ codes "dependentSchemas" ∷ codes "additionalItems"
    ∷ codes "unevaluatedItems" ∷ codes "unevaluatedProperties" ∷ codes "$anchor" ∷ codes "$dynamicAnchor" ∷ codes "$dynamicRef"
    ∷ codes "$recursiveAnchor" ∷ codes "$recursiveRef" ∷ codes "$vocabulary"
    ∷ codes "default" ∷ codes "examples" ∷ codes "example" ∷ codes "title" ∷ codes "description" ∷ codes "$comment"
    ∷ codes "contentEncoding" ∷ codes "contentMediaType" ∷ codes "contentSchema" ∷ codes "deprecated" ∷ codes "readOnly"
    ∷ codes "writeOnly" ∷ []

abbrev pub is_keyword : List ℕ → Bool
is_keyword name = list_any (λ keyword. bytes_eq keyword name) keywords

-- one byte
abbrev pub is_one_byte : List ℕ → Bool
is_one_byte (x ∷ []) = true
is_one_byte xs = false

-- texts that begin with x and with y, and go on in this way, differ in the order of the first two bytes alone
abbrev pub is_exchanged : ℕ → List ℕ → ℕ → List ℕ → Bool
is_exchanged x [] y ys = false
is_exchanged x (a ∷ xs) y [] = false
is_exchanged x (a ∷ xs) y (b ∷ ys) = x == b && (a == y && bytes_eq xs ys)

-- the one has one byte more, less or other than the other, or two neighbours exchanged
abbrev pub is_one_edit : List ℕ → List ℕ → Bool
is_one_edit [] ys = is_one_byte ys
is_one_edit (x ∷ xs) [] = bytes_eq xs []
is_one_edit (x ∷ xs) (y ∷ ys) =
    if x == y then is_one_edit xs ys
    else (bytes_eq xs ys || (bytes_eq xs (y ∷ ys) || (bytes_eq (x ∷ xs) ys || is_exchanged x xs y ys)))

-- it has four bytes or more
abbrev pub is_long : List ℕ → Bool
is_long (a ∷ (b ∷ (c ∷ (d ∷ xs)))) = true
is_long xs = false

-- it begins with `$`
abbrev pub is_marked : List ℕ → Bool
is_marked [] = false
is_marked (x ∷ xs) = x == 36

-- a name is one edit away from a keyword of four letters or more that does not begin with `$`
abbrev pub is_near : List ℕ → List ℕ → Bool
is_near keyword name = (is_long keyword && not (is_marked keyword)) && is_one_edit keyword name

-- a name that is no keyword, nor taken for one
abbrev pub is_allowed : List ℕ → Bool
is_allowed name = is_keyword name || not (list_any (λ keyword. is_near keyword name) keywords)

-- under this keyword stands a schema, schemas by their names, or a list of schemas
abbrev pub has_schema : List ℕ → Bool
has_schema k =
    bytes_eq k (codes "items") || (bytes_eq k (codes "additionalProperties") || (bytes_eq k (codes "not") || (bytes_eq k (codes "if")
    || (bytes_eq k (codes "then") || (bytes_eq k (codes "else") || (bytes_eq k (codes "contains") || (bytes_eq k (codes "propertyNames")
    || (bytes_eq k (codes "additionalItems") || (bytes_eq k (codes "unevaluatedItems") || bytes_eq k (codes "unevaluatedProperties"))))))))))

abbrev pub has_named : List ℕ → Bool
has_named k = bytes_eq k (codes "properties") || (bytes_eq k (codes "patternProperties") || (bytes_eq k (codes "dependentSchemas") || bytes_eq k (codes "dependencies")))

abbrev pub has_listed : List ℕ → Bool
has_listed k =
    bytes_eq k (codes "anyOf") || (bytes_eq k (codes "oneOf") || (bytes_eq k (codes "allOf") || (bytes_eq k (codes "prefixItems") || bytes_eq k (codes "items"))))

-- each keyword of a schema is allowed, and so are those of the schemas that stand in it
abbrev mutual
  pub IsKnown : Data → Type 0
  IsKnown (json.object ms) = AreKnown ms
  IsKnown d = Unit {0}

  pub AreKnown : Members → Type 0
  AreKnown no_members = Unit {0}
  AreKnown (member k d ms) =
      ((is_allowed k ≡ true) × (has_schema k ≡ true → IsKnown d) × (has_named k ≡ true → HasNamed d)
      × (has_listed k ≡ true → HasListed d)) × AreKnown ms

  pub HasNamed : Data → Type 0
  HasNamed (json.object ms) = EachNamed ms
  HasNamed d = Unit {0}

  pub EachNamed : Members → Type 0
  EachNamed no_members = Unit {0}
  EachNamed (member k d ms) = IsKnown d × EachNamed ms

  pub HasListed : Data → Type 0
  HasListed (json.array ds) = EachListed ds
  HasListed d = Unit {0}

  pub EachListed : Items → Type 0
  EachListed no_items = Unit {0}
  EachListed (json.item d ds) = IsKnown d × EachListed ds

-- so are those of what each definition is of
abbrev pub AreKnownAt : Data → List Definition → Type 0
AreKnownAt root definitions = AllByRecursion (λ d. IfSome (referent d.name root) IsKnown) definitions
