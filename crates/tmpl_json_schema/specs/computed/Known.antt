-- For `is_known`: a keyword and what stands under it.
use Rattle.std.specs.Prelude.{◌≡◌, ℕ, true, List}
use Rattle.serde_json.specs.Data.{Data}
use Rattle.tmpl_json_schema.specs.Keywords.{HasListed, HasNamed, IsKnown, has_listed, has_named, has_schema, is_allowed}

abbrev pub IsRule : List ℕ → Data → Type 0
IsRule k d =
    (is_allowed k ≡ true) × (has_schema k ≡ true → IsKnown d) × (has_named k ≡ true → HasNamed d)
    × (has_listed k ≡ true → HasListed d)
