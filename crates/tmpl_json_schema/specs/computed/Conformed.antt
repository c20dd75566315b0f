-- For the functions of `conform.rt`: what it is to meet a keyword of a schema.
use Rattle.std.specs.Prelude.{◌≡◌, ◌≤◌, ℕ, List, codes, None, IfSome, is_some}
use Rattle.serde_json.specs.Data as json
use Rattle.serde_json.specs.Data.{Data, unsigned, Members, no_members, member}
use Rattle.serde_json.specs.Find.{get, get_member}
use Rattle.tmpl_values.specs.Value.{Value}
use Rattle.tmpl_json_schema.specs.Document.{FitsAdditional, FitsEach, FitsItems, FitsProperties, FitsSome, HasItems, HasKeys, IsConstant, IsOfType, IsOneOf, of_each, refer}

-- a keyword that speaks of lists or of maps alone
pub record MeetsOfKind (C : Data → Value → Type 0) (schema : Data) (keyword : List ℕ) (rule : Data) (v : Value) : Type 0 where
  pub required : keyword ≡ codes "required" → HasKeys v rule
  pub properties : keyword ≡ codes "properties" → FitsProperties C v rule
  pub additional : keyword ≡ codes "additionalProperties" → FitsAdditional C (get (codes "properties") schema) (get (codes "patternProperties") schema) v rule
  pub items : keyword ≡ codes "items" → IfSome (of_each (is_some (get (codes "prefixItems") schema)) rule) (FitsItems C v)
  pub least : keyword ≡ codes "minItems" → HasItems v rule

-- any keyword
pub record Meets (root : Data) (C : Data → Value → Type 0) (schema : Data) (keyword : List ℕ) (rule : Data) (v : Value) : Type 0 where
  pub type : keyword ≡ codes "type" → IsOfType v rule
  pub const : keyword ≡ codes "const" → IsConstant v rule
  pub enum : keyword ≡ codes "enum" → IsOneOf v rule
  pub ref : keyword ≡ codes "$ref" → IfSome (refer root rule) (λ d. C d v)
  pub any : keyword ≡ codes "anyOf" → FitsSome C v rule
  pub one : keyword ≡ codes "oneOf" → FitsSome C v rule
  pub all : keyword ≡ codes "allOf" → FitsEach C v rule
  pub kind : MeetsOfKind C schema keyword rule v

-- it holds of each member
abbrev pub EachMember : (List ℕ → Data → Type 0) → Members → Type 0
EachMember P no_members = Unit {0}
EachMember P (member k d ms) = P k d × EachMember P ms

-- each of these rules is met
abbrev pub MeetsEach : Data → (Data → Value → Type 0) → Data → Members → Value → Type 0
MeetsEach root C schema ms v = EachMember (λ k d. Meets root C schema k d v) ms

-- no key comes twice
abbrev pub AreApart : Members → Type 0
AreApart no_members = Unit {0}
AreApart (member k d ms) = (get_member k ms ≡ None) × AreApart ms

-- the count is at least this number
abbrev pub IsAtLeast : ℕ → Data → Type 0
IsAtLeast count (json.number (unsigned n)) = n ≤ count
IsAtLeast count d = Unit {0}
