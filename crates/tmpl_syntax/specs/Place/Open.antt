-- What is open at a place, told by stretches of the list.
use Rattle.std.specs.Prelude.{◌≡◌, ◌↔◌, ℕ, ◌+◌, ◌<◌, ◌≤◌, Bool, true, false, List}
use Rattle.std.specs.Prelude.{count_by, slice_get, slice_range, Option, Some, None}
use Rattle.tmpl_grammar.specs.declared.action.Branch.{Branch}
use Rattle.tmpl_syntax.specs.Place.Opening.{Opening}
use Rattle.tmpl_syntax.specs.Place.Opening as opened
use Rattle.tmpl_syntax.specs.Place.Role.{Names, Role, opener, else_part, closer}

abbrev pub opens : Role → Bool
opens (opener c p) = true
opens x = false

abbrev pub ends : Role → Bool
ends closer = true
ends x = false

-- the opening at j, an if, with, range, define or block, is open at a later i if no front of the stretch strictly
-- between them has more ends than openings
pub record IsOpen (xs : List Role) (j i : ℕ) : Type 0 where
  pub opened : Opening
  pub names : Names
  pub at : slice_get xs j ≡ Some (opener opened names)
  pub before : j < i
  pub fronts : (n : ℕ) → j < n → n ≤ i
      → count_by ends (slice_range xs (j + 1) n) ≤ count_by opens (slice_range xs (j + 1) n)

-- the last opening open at i
pub record IsLast (xs : List Role) (j i : ℕ) : Type 0 where
  pub is_open : IsOpen xs j i
  pub last : (k : ℕ) → j < k → IsOpen xs k i → ⊥

-- an else belongs to the last opening open at it; it begins with a control of its own or with none
pub record IsElseOf (xs : List Role) (begins : Option (Branch × Names)) (j k : ℕ) : Type 0 where
  pub at : slice_get xs k ≡ Some (else_part begins)
  pub belongs : IsLast xs j k

-- a plain else of the opening at j stands before i
abbrev pub HasElse : List Role → ℕ → ℕ → Type 0
HasElse xs j i = (k : ℕ) × (k < i) × IsElseOf xs None j k

-- the openings whose body is a template of its own
abbrev pub is_template : Opening → Bool
is_template (opened.control c) = false
is_template c = true

-- the last opening that is open at i of those whose body is a template of its own
pub record IsLastBody (xs : List Role) (j i : ℕ) : Type 0 where
  pub is_open : IsOpen xs j i
  pub own : is_template is_open.opened ≡ true
  pub last : (k : ℕ) → j < k → (o : IsOpen xs k i) → is_template o.opened ≡ false

-- the template of a place is that of this opening, else the file's: two places are of one template if it is the same
-- at both
abbrev pub OfOneTemplate : List Role → ℕ → ℕ → Type 0
OfOneTemplate xs k i = (j : ℕ) → IsLastBody xs j k ↔ IsLastBody xs j i
