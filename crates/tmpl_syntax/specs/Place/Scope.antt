-- Which names are in scope at a place ("Variables" in the documentation of Go's text/template). That a name of the
-- first part is not seen in the else part, nor a range's own in its else part, is our own rule.
use Rattle.std.specs.Prelude.{◌≡◌, ℕ, ◌<◌, ◌≤◌, List, slice_get, Option, Some, Contains}
use Rattle.tmpl_grammar.specs.declared.action.Branch.{Branch}
use Rattle.tmpl_syntax.specs.Place.Opening.{Opening}
use Rattle.tmpl_syntax.specs.Place.Opening as opened
use Rattle.tmpl_grammar.specs.declared.tree.Control.TheVariants.{Range}
use Rattle.tmpl_syntax.specs.Place.Role.{Name, Names, Role, plain, opener}
use Rattle.tmpl_syntax.specs.Place.Open.{IsOpen, IsElseOf, HasElse, OfOneTemplate}

-- no else of the opening at j stands after k and up to i, whatever it begins with
abbrev pub IsOnePart : List Role → ℕ → ℕ → ℕ → Type 0
IsOnePart xs j k i = (m : ℕ) (begins : Option (Branch × Names)) → k < m → m ≤ i → IsElseOf xs begins j m → ⊥

-- the action at k declares the name, and its declaration reaches i:
pub data Declares (xs : List Role) (k i : ℕ) (name : Name) : Type 0 where
  -- as an action, all that is open at k is open at i, with no else of it between or at i;
  in_action : {p : Names} → slice_get xs k ≡ Some (plain p) → Contains p.declares name
      → ((j : ℕ) → IsOpen xs j k → IsOpen xs j i × IsOnePart xs j k i) → Declares xs k i name
  -- in the header of an opening, that opening is open at i, and a range has no else of its own between;
  in_header : {c : Opening} {p : Names} → slice_get xs k ≡ Some (opener c p) → Contains p.declares name
      → IsOpen xs k i → (c ≡ opened.control Range → HasElse xs k i → ⊥) → Declares xs k i name
  -- in an else branch, the opening to which it belongs is open at i
  in_else_branch : {b : Branch} {p : Names} {j : ℕ} → IsElseOf xs (Some (b, p)) j k → Contains p.declares name
      → IsOpen xs j i → Declares xs k i name

-- some earlier action of the same template brings the name into scope at i
abbrev pub IsInScope : List Role → ℕ → Name → Type 0
IsInScope xs i name = (k : ℕ) × (k < i) × OfOneTemplate xs k i × Declares xs k i name
