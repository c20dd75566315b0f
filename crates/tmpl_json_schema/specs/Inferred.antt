-- What it is that a schema is inferred of samples: each sample conforms to it, as `Document` of tmpl_json_schema
-- defines it, and it has no keywords but those that are inferred.
use Rattle.std.specs.Prelude.{◌≡◌, ◌⊎◌, ℕ, List, codes, IfSome}
use Rattle.serde_json.specs.Data as json
use Rattle.serde_json.specs.Data.{Data, Items, no_items, Members, no_members, member}
use Rattle.tmpl_values.specs.Json.{tree_value}
use Rattle.tmpl_json_schema.specs.Document.{IsOfSchema, SomeItem}

-- the value of the sample, if it has one, conforms to the schema
abbrev pub Conforms : Data → Data → Type 0
Conforms schema sample = IfSome (tree_value sample) (IsOfSchema schema)

-- these are texts
abbrev pub AreTexts : Items → Type 0
AreTexts no_items = Unit {0}
AreTexts (json.item d ds) = ((text : List ℕ) × (d ≡ json.string text)) × AreTexts ds

-- no two of these are alike
abbrev pub AreDistinct : Items → Type 0
AreDistinct no_items = Unit {0}
AreDistinct (json.item d ds) = (SomeItem (λ other. other ≡ d) ds → ⊥) × AreDistinct ds

-- what stands under `type`: a name, or a list of names, each of them once
abbrev pub NamesTypes : Data → Type 0
NamesTypes (json.string name) = Unit {0}
NamesTypes (json.array names) = AreTexts names × AreDistinct names
NamesTypes d = ⊥

-- what stands under `required`: a list of names
abbrev pub NamesKeys : Data → Type 0
NamesKeys (json.array names) = AreTexts names
NamesKeys d = ⊥

-- an object in which each keyword, at each depth, is `$schema`, `type`, `required`, `items`, `properties` or
-- `additionalProperties`
abbrev mutual
  pub IsInferred : Data → Type 0
  IsInferred (json.object ms) = HasInferred ms
  IsInferred d = ⊥

  pub HasInferred : Members → Type 0
  HasInferred no_members = Unit {0}
  HasInferred (member k d ms) =
      ((k ≡ codes "$schema") ⊎ (((k ≡ codes "type") × NamesTypes d) ⊎ (((k ≡ codes "required") × NamesKeys d)
      ⊎ (((k ≡ codes "items") × IsInferred d) ⊎ (((k ≡ codes "properties") × AreInferred d)
      ⊎ ((k ≡ codes "additionalProperties") × IsInferred d)))))) × HasInferred ms

  -- schemas by their names, each of them such an object
  pub AreInferred : Data → Type 0
  AreInferred (json.object ms) = EachInferred ms
  AreInferred d = ⊥

  pub EachInferred : Members → Type 0
  EachInferred no_members = Unit {0}
  EachInferred (member k d ms) = IsInferred d × EachInferred ms
