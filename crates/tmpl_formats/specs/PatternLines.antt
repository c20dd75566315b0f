-- Lines with a match of a regular expression.
use Rattle.std.specs.Prelude.{◌≡◌, ℕ, Bool, true, not, ◌==◌, List, [], ◌++◌, codes}
use Rattle.std.specs.List.{list_all}
use Rattle.std.specs.Str.{byte, chars}
use Rattle.tmpl_formats.specs.Pattern.{Tree, Finds}

abbrev pub is_inside : ℕ → Bool
is_inside b = not (b == byte "\n")

-- lines in each of which there is a match. A text that ends with a newline has no line after it
pub data HaveMatch (tree : Tree) : List ℕ → Type 0 where
  no_line : HaveMatch tree []
  last_line : {line : List ℕ} → list_all is_inside line ≡ true → Finds tree (chars line) → HaveMatch tree line
  more_lines : (line rest : List ℕ) → list_all is_inside line ≡ true → Finds tree (chars line) → HaveMatch tree rest → HaveMatch tree (line ++ codes "\n" ++ rest)
