-- Texts of lines.
use Rattle.std.specs.Prelude.{ℕ, List, ◌++◌, codes}

-- lines with a newline between one and the next. A text that ends with a newline has an empty line after it
pub data Lines (IsLine : List ℕ → Type 0) : List ℕ → Type 0 where
  last : {line : List ℕ} → IsLine line → Lines IsLine line
  more : (line rest : List ℕ) → IsLine line → Lines IsLine rest → Lines IsLine (line ++ codes "\n" ++ rest)
