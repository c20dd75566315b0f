-- That names stand for what their shapes say.
use Rattle.std.specs.Prelude.{◌≡◌, ℕ, List, Some}
use Rattle.tmpl_values.specs.Value.{Value}
use Rattle.tmpl_shape.specs.Shape.{Shape, Defs, HasShape, Names}

-- a name stands for the values of its shape
pub record Means (defs : Defs) (N : Names) : Type 0 where
  pub unfolds : (x : List ℕ) (s : Shape) (v : Value) → defs x ≡ Some s → N x v → HasShape N s v
  pub folds : (x : List ℕ) (s : Shape) (v : Value) → defs x ≡ Some s → HasShape N s v → N x v
