-- What a definition stands for that is told by what holds of it.
use Rattle.std.specs.Prelude.{◌≡◌}

-- there is a value of which this holds, and no other
pub record One {A : Type 0} (Holds : A → Type 0) : Type 0 where
  pub it : A
  pub holds : Holds it
  pub only : (other : A) → Holds other → other ≡ it
