-- Rows of parts of regular expressions: of a sequence, or of alternatives.
use Rattle.std.specs.Prelude.{ℕ, Bool, true, false, List, [], ◌∷◌, ◌++◌, codes, map, Option, Some, None, ◌-◌, if◌then◌else◌}
use Rattle.tmpl_formats.specs.Pattern.{Tree, Both, Either}
use Rattle.tmpl_formats.specs.PatternText.{HasSequence, HasAlternatives}
use Rattle.tmpl_formats.specs.PatternView.{tree_of}
use Rattle.tmpl_formats.specs.declared.pattern.Node.{Node}

abbrev pub trees_of : List Node → List Tree
trees_of nodes = map tree_of nodes

abbrev pub joint : Bool → Tree → Tree → Tree
joint is_either first second = if is_either then Either first second else Both first second

-- what stands before each part
abbrev pub separator : Bool → List ℕ
separator is_either = if is_either then codes "|" else []

abbrev pub HasPiece : Bool → List ℕ → Tree → List ℕ → Type 0
HasPiece true text tree rest = HasAlternatives text tree rest
HasPiece false text tree rest = HasSequence text tree rest

pub data HasRow (is_either : Bool) : List ℕ → List Tree → List ℕ → Type 0 where
  no_piece : {rest : List ℕ} → HasRow is_either rest [] rest
  piece : (text : List ℕ) {tree : Tree} {trees : List Tree} {more rest : List ℕ} → HasPiece is_either text tree more → HasRow is_either more trees rest
      → HasRow is_either (separator is_either ++ text) (tree ∷ trees) rest

-- the turns after those that must be
abbrev pub further : ℕ → Option ℕ → Option ℕ
further least None = None
further least (Some most) = Some (most - least)
