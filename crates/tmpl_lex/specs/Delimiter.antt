-- The delimiters of actions and comments, with their trim markers ("Text and spaces" in the documentation of Go's
-- text/template).
use Rattle.std.specs.Prelude.{◌≡◌, ℕ, Bool, true, false, List, [], ◌∷◌, ◌++◌, codes}
use Rattle.tmpl_lex.specs.Bytes.{is_space, BeginsNone}

-- a left trim marker: `-` and a byte of white space
pub data IsLeftMarker : List ℕ → Type 0 where
  left_marker : {w : ℕ} → is_space w ≡ true → IsLeftMarker (codes "-" ++ w ∷ [])

-- what opens an action or comment, with a left trim marker or without one, and the bytes after it: a marker after the
-- `{{` belongs to it
pub data Opens : Bool → List ℕ → List ℕ → Type 0 where
  opens : {rest : List ℕ} → BeginsNone IsLeftMarker rest → Opens false (codes "{{") rest
  opens_marked : {marker rest : List ℕ} → IsLeftMarker marker → Opens true (codes "{{" ++ marker) rest

-- what closes one, with a right trim marker or without one: the marker is a byte of white space, and `-` before `}}`
pub data Closes : Bool → List ℕ → Type 0 where
  closes : Closes false (codes "}}")
  closes_marked : {w : ℕ} → is_space w ≡ true → Closes true (w ∷ codes "-}}")
