-- That the names of shapes stand for what is at their pointers.
use Rattle.std.specs.Prelude.{◌≡◌, ◌⊎◌, ℕ, Bool, false, true, ◌&&◌, ◌||◌, List, [], ◌∷◌, is_some}
use Rattle.std.specs.Str.{bytes_eq}
use Rattle.serde_json.specs.Data.{Data}
use Rattle.tmpl_shape.specs.Shape.{Defs}
use Rattle.tmpl_json_schema.specs.Document.{base_of, has_base, is_base}

-- each of the names has a definition
abbrev pub are_defined : Defs → List (List ℕ) → Bool
are_defined defs [] = true
are_defined defs (x ∷ xs) = is_some (defs x) && are_defined defs xs

-- the names are looked up in the document itself, or there is none
abbrev pub AreLookedUp : Data → List (List ℕ) → Type 0
AreLookedUp root names = (base_of root ≡ root) ⊎ (names ≡ [])

-- a member has no identifier from which a `$ref` is looked up
abbrev pub IsUnbased : List ℕ → List ℕ → Data → Type 0
IsUnbased key k d = ((bytes_eq k key && is_base d) || has_base key d) ≡ false
