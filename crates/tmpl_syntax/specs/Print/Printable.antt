-- What holds of each tree that is read from a file, and lets it be printed and read again.
use Rattle.std.specs.Prelude.{List, [], ◌∷◌}
use Rattle.tmpl_grammar.specs.Printable.{OfAction}
use Rattle.tmpl_values.specs.Bytes.{AreBytes}
use Rattle.tmpl_syntax.specs.Tree.{Nodes}
use Rattle.tmpl_syntax.specs.Set.{Template}
use Rattle.tmpl_syntax.specs.Print.Join.{IsText}
use Rattle.tmpl_syntax.specs.Print.Printed.{Said, said_text, said, nodes_said}

abbrev pub AreSaid : List Said → Type 0
AreSaid [] = Unit {0}
AreSaid (said_text t ∷ ss) = IsText t × AreSaid ss
AreSaid (said a ∷ ss) = OfAction a × AreSaid ss

abbrev pub IsPrintable : Nodes → Type 0
IsPrintable ns = AreSaid (nodes_said ns)

-- a set, whose names are bytes
abbrev pub ArePrintable : List Template → Type 0
ArePrintable [] = Unit {0}
ArePrintable (t ∷ ts) = AreBytes t.0 × IsPrintable t.1.nodes × ArePrintable ts
