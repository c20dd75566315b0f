-- Where values come from: the places of the schemas of which they conform to one.
use Rattle.std.specs.Prelude.{◌≡◌, ◌++◌, ◌&&◌, ℕ, true, List, [], ◌∷◌, map, if◌then◌else◌}
use Rattle.std.specs.List.{list_any}
use Rattle.std.specs.Str.{bytes_eq}
use Rattle.std.specs.String.{string_bytes}
use Rattle.tmpl_json_schema.specs.declared.provenance.Provenance.{Provenance}

-- its places, as JSON Pointers
abbrev pub places_of : Provenance → List (List ℕ)
places_of p = map string_bytes p.places.items

-- .. with one more, unless it is one of them
abbrev pub with_place : List (List ℕ) → List ℕ → List (List ℕ)
with_place places place = if list_any (bytes_eq place) places then places else places ++ place ∷ []

abbrev pub with_places : List (List ℕ) → List (List ℕ) → List (List ℕ)
with_places places [] = places
with_places places (place ∷ more) = with_places (with_place places place) more

-- it has these places alone, always has a value, and is no part of a list
abbrev pub IsAt : List (List ℕ) → Provenance → Type 0
IsAt places p = (places_of p ≡ places) × (p.is_there ≡ true) × (p.is_whole ≡ true)

-- that of what is one value or the other
abbrev pub IsOfEither : Provenance → Provenance → Provenance → Type 0
IsOfEither one other p =
    (places_of p ≡ with_places (places_of one) (places_of other)) × (p.is_there ≡ (one.is_there && other.is_there)) × (p.is_whole ≡ (one.is_whole && other.is_whole))

-- the same is known of both
abbrev pub AreSame : Provenance → Provenance → Type 0
AreSame one other = (places_of one ≡ places_of other) × (one.is_there ≡ other.is_there) × (one.is_whole ≡ other.is_whole)
