-- A file as far as it is printed.
use Rattle.std.specs.Prelude.{◌==◌, ℕ, Bool, false, List, [], ◌∷◌, ◌++◌, Option, Some, None}
use Rattle.tmpl_grammar.specs.Print.{action_tokens}
use Rattle.tmpl_grammar.specs.Action.{plain_else}
use Rattle.tmpl_syntax.specs.Tree as tree
use Rattle.tmpl_syntax.specs.Tree.{Nodes}
use Rattle.tmpl_syntax.specs.Print.Join.{PrintedPart, a_text, an_action}
use Rattle.tmpl_syntax.specs.Print.Printed.{Said, said_text, said, file_of}

-- the text ends in `{`
abbrev pub ends_brace : List ℕ → Bool
ends_brace [] = false
ends_brace (b ∷ []) = b == 123
ends_brace (b ∷ c ∷ bs) = ends_brace (c ∷ bs)

abbrev pub part_of : Said → PrintedPart
part_of (said_text bytes) = a_text bytes
part_of (said a) = an_action (action_tokens a)

-- an else part, where it has nodes
abbrev pub else_said : Nodes → List Said → List Said
else_said tree.none ss = []
else_said (tree.then line n ns) ss = said plain_else ∷ ss

-- its bytes, and the text with which it ends, if it ends with one
abbrev pub Page : Type 0
Page = List ℕ × Option (List ℕ)

-- the text with which what is said ends, after this text or none
abbrev pub last_text : Option (List ℕ) → List Said → Option (List ℕ)
last_text before [] = before
last_text before (said_text t ∷ ss) = last_text (Some t) ss
last_text before (said a ∷ ss) = last_text None ss

-- .. with what is said next
unfoldable pub page_with : Page → List Said → Page
page_with p ss = (p.0 ++ file_of p.1 ss, last_text p.1 ss)
