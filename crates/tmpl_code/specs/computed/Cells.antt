-- The cells of a scope, and where the newest variable of each name is among them.
use Rattle.std.specs.Prelude.{ℕ, List, [], ◌∷◌, length, map, reverse, Option, Some, None, unwrap_or, if◌then◌else◌}
use Rattle.std.specs.Borrow.{Bor}
use Rattle.std.specs.BTreeMap as tree
use Rattle.std.specs.BTreeMap.{BTreeMap}
use Rattle.std.specs.Cmp.Lexicographic.{slice_cmp}
use Rattle.std.specs.Ordering.{nat_cmp}
use Rattle.tmpl_code.specs.Layout.{Layout, is_named}
use Rattle.tmpl_code.specs.declared.scope.ScopeCell as held
use Rattle.tmpl_code.specs.declared.scope.ScopeCell.TheVariants as cell

abbrev pub cell_seen : held.ScopeCell → Option (List ℕ)
cell_seen cell.Saved = None
cell_seen (cell.Variable name hidden) = Some name.now

abbrev pub link_of : held.ScopeCell → Option ℕ
link_of cell.Saved = None
link_of (cell.Variable name hidden) = hidden

abbrev pub layout_in : List held.ScopeCell → Layout
layout_in cells = map cell_seen (reverse cells)

abbrev pub links_in : List held.ScopeCell → List (Option ℕ)
links_in cells = map link_of (reverse cells)

-- the place of the newest variable of a name, counted from the oldest cell
abbrev pub place_named : List ℕ → Layout → Option ℕ
place_named name [] = None
place_named name (c ∷ cells) = if is_named name c then Some (length cells) else place_named name cells

-- that of the newest variable below a cell that has its name
abbrev pub link_under : Option (List ℕ) → Layout → Option ℕ
link_under None cells = None
link_under (Some name) cells = place_named name cells

-- .. for each cell
abbrev pub links_of : Layout → List (Option ℕ)
links_of [] = []
links_of (c ∷ cells) = link_under c cells ∷ links_of cells

-- the place that a map has for a name
abbrev pub place_of : BTreeMap (Bor (List ℕ)) (Option ℕ) → List ℕ → Option ℕ
place_of newest name = unwrap_or (tree.get_by (λ k. slice_cmp nat_cmp name k.now) newest) None
