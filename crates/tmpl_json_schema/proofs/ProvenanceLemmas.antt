-- For `provenance.rt`: places that are put together.
use Rattle.std.proofs.Common.{◌≡◌, ◌≤◌, ◌+◌, ◌++◌, ℕ, Bool, true, false, List, [], ◌∷◌, length, refl, ◌∙◌, arith, if◌then◌else◌, bytes_eq}
use Rattle.std.proofs.lemmas.List.{length-append}
use Rattle.std.specs.List.{list_any}
use Rattle.tmpl_json_schema.specs.Provenance.{with_place, with_places}

at-least-one : (places : List (List ℕ)) (place : List ℕ) → length places ≤ length (with_place places place)
at-least-one places place = by (list_any (bytes_eq place) places)
  where
    by : (c : Bool) → length places ≤ length (if c then places else places ++ place ∷ [])
    by true = omega arith
    by false = omega (arith, length-append places (place ∷ []))

same-one : (places : List (List ℕ)) (place : List ℕ) → length (with_place places place) ≤ length places → with_place places place ≡ places
same-one places place = by (list_any (bytes_eq place) places)
  where
    by : (c : Bool) → length (if c then places else places ++ place ∷ []) ≤ length places → (if c then places else places ++ place ∷ []) ≡ places
    by true h = refl
    by false h = absurd (omega (arith, h, length-append places (place ∷ [])))

at-least : (places more : List (List ℕ)) → length places ≤ length (with_places places more)
at-least places [] = omega arith
at-least places (place ∷ more) = omega (arith, at-least-one places place, at-least (with_place places place) more)

-- those that are not more are the same
pub same-places : (places more : List (List ℕ)) → length (with_places places more) ≤ length places → with_places places more ≡ places
same-places places [] h = refl
same-places places (place ∷ more) h =
    same-places (with_place places place) more (omega (arith, h, at-least-one places place))
    ∙ same-one places place (omega (arith, h, at-least (with_place places place) more))
