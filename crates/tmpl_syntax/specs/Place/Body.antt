-- The first refused action of a file, and why it is refused.
use Rattle.std.specs.Prelude.{◌≡◌, ℕ, ◌<◌, ◌≤◌, Bool, true, false, List, [], ◌∷◌, ◌++◌}
use Rattle.std.specs.Prelude.{length, slice_get, Option, Some, None, Contains}
use Rattle.tmpl_grammar.specs.declared.action.Branch.{Branch}
use Rattle.tmpl_grammar.specs.declared.action.Branch.TheVariants.{If as if_branch, With as with_branch}
use Rattle.tmpl_syntax.specs.Place.Opening.{Opening}
use Rattle.tmpl_syntax.specs.Place.Opening as opened
use Rattle.tmpl_grammar.specs.declared.tree.Control.TheVariants.{If, With, Range}
use Rattle.tmpl_syntax.specs.Fault as reason
use Rattle.tmpl_syntax.specs.Fault.{Reason, in_turn}
use Rattle.tmpl_syntax.specs.Place.Role as role
use Rattle.tmpl_syntax.specs.Place.Role.{Name, Names, names_given, Role, plain, opener, else_part, closer, jump, nested}
use Rattle.tmpl_syntax.specs.Place.Open.{IsOpen, IsLast, IsElseOf, HasElse, OfOneTemplate}
use Rattle.tmpl_syntax.specs.Place.Scope.{IsInScope}

-- an else stands in a control, an `else if` in an `if` alone, and an `else with` in a `with`
abbrev pub joins : Option Branch → Opening → Bool
joins None (opened.control c) = true
joins (Some if_branch) (opened.control If) = true
joins (Some with_branch) (opened.control With) = true
joins b c = false

-- an else that begins so may stand at i: it joins the last opening open there, which has no plain else yet
abbrev pub TakesElse : List Role → Option Branch → ℕ → Type 0
TakesElse xs b i = (j : ℕ) × (l : IsLast xs j i) × (joins b l.is_open.opened ≡ true) × (HasElse xs j i → ⊥)

-- a range of the template of i that is open at i with no else of its own before i
abbrev pub IsLoop : List Role → ℕ → ℕ → Type 0
IsLoop xs j i = (o : IsOpen xs j i) × (o.opened ≡ opened.control Range) × OfOneTemplate xs j i × (HasElse xs j i → ⊥)

-- out of place is a define at which something is open; an else that may not stand there; an end at which nothing is
-- open; a break or continue in no range's body
abbrev pub IsMisplaced : List Role → ℕ → Role → Type 0
IsMisplaced xs i (opener opened.define p) = (j : ℕ) × IsOpen xs j i
IsMisplaced xs i (else_part None) = TakesElse xs None i → ⊥
IsMisplaced xs i (else_part (Some (b, p))) = TakesElse xs (Some b) i → ⊥
IsMisplaced xs i (nested (Some b)) = TakesElse xs (Some b) i → ⊥
IsMisplaced xs i closer = (j : ℕ) → IsOpen xs j i → ⊥
IsMisplaced xs i jump = (j : ℕ) → IsLoop xs j i → ⊥
IsMisplaced xs i x = ⊥

-- a level is an open if, with, range or block, or an else branch that belongs to an open one
pub data IsLevel (xs : List Role) (k i : ℕ) : Type 0 where
  of_opening : (o : IsOpen xs k i) → (o.opened ≡ opened.define → ⊥) → IsLevel xs k i
  of_else_branch : {b : Branch × Names} {j : ℕ} → IsElseOf xs (Some b) j k → (o : IsOpen xs j i)
      → (o.opened ≡ opened.define → ⊥) → IsLevel xs k i

-- these places before m, the last one first, are levels at i
pub data AreLevels (xs : List Role) (i : ℕ) : ℕ → List ℕ → Type 0 where
  none : {m : ℕ} → AreLevels xs i m []
  level : {m k : ℕ} {ks : List ℕ} → k < m → IsLevel xs k i → AreLevels xs i k ks → AreLevels xs i m (k ∷ ks)

-- the names in an action
abbrev pub names_in : Role → Names
names_in (plain p) = p
names_in (opener c p) = p
names_in (else_part (Some (b, p))) = p
names_in x = names_given None

-- what is a level while it is open
abbrev pub opens_level : Role → Bool
opens_level (opener opened.define p) = false
opens_level (opener c p) = true
opens_level (else_part (Some b)) = true
opens_level x = false

-- the most levels that may stand
abbrev pub most_levels : ℕ
most_levels = 500

-- the reason applies to the item at i: it is flawed so, or out of place; it is a level more where as many stand as may,
-- or its parentheses nest too deep; or it uses or assigns a name that is not in scope
pub data Applies (xs : List Role) (i : ℕ) : Reason → Type 0 where
  flawed : {why : Reason} → slice_get xs i ≡ Some (role.flawed why) → Applies xs i why
  misplaced : {x : Role} → slice_get xs i ≡ Some x → IsMisplaced xs i x → Applies xs i reason.out_of_place
  in_levels : {x : Role} {ks : List ℕ} → slice_get xs i ≡ Some x → opens_level x ≡ true → AreLevels xs i i ks
      → most_levels ≤ length ks → Applies xs i reason.nested_too_deeply
  in_parentheses : {b : Option Branch} → slice_get xs i ≡ Some (nested b) → Applies xs i reason.nested_too_deeply
  undeclared : {x : Role} (name : Name) → slice_get xs i ≡ Some x → Contains (names_in x).uses name
      → (IsInScope xs i name → ⊥) → Applies xs i reason.undeclared_variable

-- a reason is asked for before another
abbrev pub IsBefore : Reason → Reason → Type 0
IsBefore r why = (xs : List Reason) × (ys : List Reason) × (zs : List Reason) × (in_turn ≡ xs ++ r ∷ (ys ++ why ∷ zs))

abbrev pub NoneRefused : List Role → ℕ → Type 0
NoneRefused xs i = (k : ℕ) (r : Reason) → k < i → Applies xs k r → ⊥

-- no item is refused and nothing is open at the end
abbrev pub IsFine : List Role → Type 0
IsFine xs = NoneRefused xs (length xs) × ((j : ℕ) → IsOpen xs j (length xs) → ⊥)

-- the item at i is the first to which a reason applies, and this is the first reason that does
abbrev pub IsFirstRefused : List Role → ℕ → Reason → Type 0
IsFirstRefused xs i why = Applies xs i why × ((r : Reason) → IsBefore r why → Applies xs i r → ⊥) × NoneRefused xs i

-- none is refused, but something is open at the end
abbrev pub IsLeftOpen : List Role → Type 0
IsLeftOpen xs = NoneRefused xs (length xs) × (j : ℕ) × IsOpen xs j (length xs)
