-- What holds of each tree of a set.
use Rattle.std.specs.Prelude.{◌≡◌, ◌≤◌, List, [], ◌∷◌, None}
use Rattle.tmpl_values.specs.Bytes.{AreBytes}
use Rattle.tmpl_syntax.specs.Tree.{Tree}
use Rattle.tmpl_syntax.specs.Set.{Template, tree_named}
use Rattle.tmpl_syntax.specs.Need.{need, most_need}
use Rattle.tmpl_syntax.specs.Formed.{IsFormed}
use Rattle.tmpl_syntax.specs.Print.Printable.{IsPrintable}

-- it is formed, it can be printed, and a run of it needs no more cells than a file within the limit of length has
-- bytes, and three
pub record IsKept (tree : Tree) : Type 0 where
  pub formed : IsFormed tree.nodes
  pub printable : IsPrintable tree.nodes
  pub need : need tree ≤ most_need

-- so it is of each tree of a set, whose names are bytes
abbrev pub AreKept : List Template → Type 0
AreKept [] = Unit {0}
AreKept (t ∷ ts) = AreBytes t.0 × IsKept t.1 × AreKept ts

-- no two of them have one name
abbrev pub HaveOwnNames : List Template → Type 0
HaveOwnNames [] = Unit {0}
HaveOwnNames (t ∷ ts) = (tree_named t.0 ts ≡ None) × HaveOwnNames ts

-- so it is of the templates of a set
abbrev pub IsSet : List Template → Type 0
IsSet ts = AreKept ts × HaveOwnNames ts
