-- What the trees of regular expressions stand for.
use Rattle.std.specs.Prelude.{Bool, List}
use Rattle.tmpl_formats.specs.declared.pattern.Span.{Span}
use Rattle.tmpl_formats.specs.declared.pattern.Node as held
use Rattle.tmpl_formats.specs.declared.pattern.Node.{Node}
use Rattle.tmpl_formats.specs.Pattern as tree
use Rattle.tmpl_formats.specs.Pattern.{Tree}

-- a tree with its marks
pub data Marks : Type 0 where
  Empty : Marks
  One : (is_negated : Bool) (spans : List Span) (is_last : Bool) → Marks
  Begin : Marks
  End : Marks
  Both : Marks → Marks → Marks
  Either : Marks → Marks → Marks
  Many : Marks → (ended : Bool) → Marks

abbrev pub marks_of : Node → Marks
marks_of held.Empty = Empty
marks_of (held.One class is_last) = One class.is_negated class.spans.items is_last
marks_of held.Begin = Begin
marks_of held.End = End
marks_of (held.Both' p first q second) = Both (marks_of first) (marks_of second)
marks_of (held.Either' p one q other) = Either (marks_of one) (marks_of other)
marks_of (held.Many' p turn ended) = Many (marks_of turn) ended

-- without its marks
abbrev pub plain : Marks → Tree
plain Empty = tree.Empty
plain (One is_negated spans is_last) = tree.One is_negated spans
plain Begin = tree.Begin
plain End = tree.End
plain (Both first second) = tree.Both (plain first) (plain second)
plain (Either one other) = tree.Either (plain one) (plain other)
plain (Many turn ended) = tree.Many (plain turn)

abbrev pub tree_of : Node → Tree
tree_of node = plain (marks_of node)
