-- For the functions that infer a schema: what each tells of which samples.
use Rattle.std.specs.Prelude.{◌≡◌, ◌⊎◌, ◌≤◌, ◌+◌, ◌*◌, ℕ, suc, List, [], ◌∷◌, map, flat_map, filter_map, IsSome, IfSome}
use Rattle.std.specs.Borrow.{Bor}
use Rattle.std.specs.BTreeMap.{BTreeMap}
use Rattle.std.specs.List.{AllByRecursion}
use Rattle.std.specs.Prelude.{String, codes, Bool, false}
use Rattle.std.specs.Option.{option_map_or}
use Rattle.std.specs.Str.{bytes_eq}
use Rattle.std.specs.declared.alloc.Global.{Global}
use Rattle.serde_json.specs.declared.value.Value.{Value}
use Rattle.serde_json.specs.Data as json
use Rattle.serde_json.specs.Data.{Data, Items, Members, no_items, no_members, member, put, depth, members_depth}
use Rattle.serde_json.specs.Find.{as_str, get_member}
use Rattle.serde_json.specs.View.{view, members_view}
use Rattle.tmpl_values.specs.Value as value
use Rattle.tmpl_values.specs.Json.{tree_value}
use Rattle.tmpl_json_schema.specs.Document.{conforms_in}
use Rattle.tmpl_json_schema.specs.Inferred.{IsInferred, EachInferred}

-- the data of samples
abbrev pub seen : List (Bor Value) → List Data
seen samples = map (λ (s : Bor Value). view s.now) samples

-- the members of maps
abbrev pub maps_seen : List (Bor (BTreeMap (String Global) Value)) → List Members
maps_seen maps = map (λ (m : Bor (BTreeMap (String Global) Value)). members_view m.now.entries) maps

-- the items of a list, of any other sample none
abbrev pub items_among : Items → List Data
items_among no_items = []
items_among (json.item d ds) = d ∷ items_among ds

abbrev pub items_of_list : Data → List Data
items_of_list (json.array ds) = items_among ds
items_of_list d = []

-- the values of a map
abbrev pub values_among : Members → List Data
values_among no_members = []
values_among (member k d ms) = d ∷ values_among ms

-- the value of each sample that has one is such
abbrev pub EachValue : (value.Value → Type 0) → List Data → Type 0
EachValue P samples = AllByRecursion (λ s. IfSome (tree_value s) P) samples

-- it is this text
abbrev pub is_text : List ℕ → Data → Bool
is_text text d = option_map_or (λ other. bytes_eq other text) (as_str d) false

-- the only one of these, or a list of them
abbrev pub IsOnlyOrList : Items → Data → Type 0
IsOnlyOrList ds d = (ds ≡ json.item d no_items) ⊎ (d ≡ json.array ds)

-- a value conforms to a schema within as many steps, whatever the document, since the schema refers to no part of it
abbrev pub Fits : ℕ → Data → value.Value → Type 0
Fits n schema v = (root : Data) → conforms_in root n schema v

-- how deep a schema of as many levels nests at most
abbrev pub room : ℕ → ℕ
room levels = 2 * levels + 1

-- the schema of items: one to which each conforms, or nothing
abbrev pub AddsItems : ℕ → List Data → Members → Members → Type 0
AddsItems levels samples old new = (new ≡ old)
    ⊎ ((d : Data) × (new ≡ put (codes "items") d old) × EachValue (Fits (suc levels) d) (flat_map items_of_list samples)
    × (depth d ≤ room levels) × IsInferred d)

-- these are schemas of what maps have under each key
abbrev pub ArePropertiesOf : ℕ → List Members → Members → Type 0
ArePropertiesOf levels maps no_members = Unit {0}
ArePropertiesOf levels maps (member k d ps) =
    EachValue (Fits (suc levels) d) (filter_map (get_member k) maps) × ArePropertiesOf levels maps ps

-- each of these is a key that each map has
abbrev pub AreSharedBy : List Members → Items → Type 0
AreSharedBy maps no_items = Unit {0}
AreSharedBy maps (json.item d ds) =
    ((k : List ℕ) × (d ≡ json.string k) × AllByRecursion (λ m. IsSome (get_member k m)) maps) × AreSharedBy maps ds

-- what is stated of the keys of maps
pub record AreTold (levels : ℕ) (maps : List Members) (ps : Members) (ks : Items) : Type 0 where
  pub properties : ArePropertiesOf levels maps ps
  pub required : AreSharedBy maps ks
  pub nests : members_depth ps ≤ room levels
  pub plain : EachInferred ps

-- .. or nothing
abbrev pub AddsProperties : ℕ → List Members → Members → Members → Type 0
AddsProperties levels maps old new = (new ≡ old)
    ⊎ ((ps : Members) × (ks : Items)
    × (new ≡ put (codes "required") (json.array ks) (put (codes "properties") (json.object ps) old))
    × AreTold levels maps ps ks)

-- the schema of the values of maps: one to which each conforms, or nothing
abbrev pub AddsOthers : ℕ → List Members → Members → Members → Type 0
AddsOthers levels maps old new = (new ≡ old)
    ⊎ ((d : Data) × (new ≡ put (codes "additionalProperties") d old) × EachValue (Fits (suc levels) d) (flat_map values_among maps)
    × (depth d ≤ room levels) × IsInferred d)
