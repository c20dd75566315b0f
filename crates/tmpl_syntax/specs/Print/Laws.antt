-- Laws of printed trees.
use Rattle.std.specs.Prelude.{◌≡◌, ◌≤◌, ℕ, List, [], ◌∷◌, ◌++◌, length, map, MatchOption, codes}
use Rattle.tmpl_values.specs.Bytes.{AreBytes}
use Rattle.tmpl_syntax.specs.Tree.{Nodes, none, then, text, Definition}
use Rattle.tmpl_syntax.specs.Set.{Template, tree_named}
use Rattle.tmpl_syntax.specs.Kept.{IsSet}
use Rattle.tmpl_syntax.specs.Parse.{base_name, most_bytes, template_in, IsAccepted}
use Rattle.tmpl_grammar.specs.Action.{Action}
use Rattle.tmpl_syntax.specs.Language.{Language, every_action}
use Rattle.tmpl_syntax.specs.Item.{Item, item, text_item, action_item, HasItems}
use Rattle.tmpl_syntax.specs.Spelling.{Spells}
use Rattle.tmpl_syntax.specs.Place.Role.{roles_of}
use Rattle.tmpl_syntax.specs.Place.Body.{IsFine}
use Rattle.tmpl_syntax.specs.Print.Printed.{Said, said_text, said, nodes_said, print_nodes, printed_set, unlined}
use Rattle.tmpl_syntax.specs.Print.Printable.{IsPrintable, ArePrintable}

-- the items say this, at some lines
pub data Says : List Said → List Item → Type 0 where
  says_nothing : Says [] []
  says_text : {line : ℕ} {t : List ℕ} {ss : List Said} {xs : List Item} → Says ss xs
      → Says (said_text t ∷ ss) (item line (text_item t) ∷ xs)
  says : {line : ℕ} {a : Action} {ss : List Said} {xs : List Item} → Says ss xs
      → Says (said a ∷ ss) (item line (action_item a) ∷ xs)

-- printed nodes are cut into pieces, and these are read as items, which spell no definition, and the same nodes apart
-- from lines
pub record ReadBack (ns : Nodes) : Type 0 where
  pub items : List Item
  pub has : HasItems every_action (print_nodes ns) items
  pub say : Says (nodes_said ns) items
  pub nodes : Nodes
  pub spells : Spells items [] nodes
  pub alike : unlined nodes ≡ unlined ns

abbrev pub ReadsSame : Type 0
ReadsSame = (ns : Nodes) → IsPrintable ns → ReadBack ns

-- a template of each definition that a file of bytes spells can be printed, and so can the file's own
abbrev pub KeepsPrintable : Type 0
KeepsPrintable =
    (language : Language) (bytes : List ℕ) (items : List Item) (ds : List Definition) (own : Nodes) → AreBytes bytes
    → HasItems language bytes items → Spells items ds own
    → ((path : List ℕ) → ArePrintable (map (template_in path) ds)) × IsPrintable own

-- items that say what the nodes of an accepted list's own template say are accepted
abbrev pub AcceptsBack : Type 0
AcceptsBack =
    (items : List Item) (ds : List Definition) (own : Nodes) → IsFine (roles_of items) → Spells items ds own
    → (read : List Item) → Says (nodes_said own) read → IsFine (roles_of read)

-- ---- sets

-- a name and nodes, apart from files and lines
abbrev pub Unlined : Type 0
Unlined = List ℕ × Nodes

abbrev pub unlined_definition : Definition → Unlined
unlined_definition d = (d.name, unlined d.nodes)

abbrev pub unlined_template : Template → Unlined
unlined_template t = (t.0, unlined t.1.nodes)

-- as many newlines, each a text of its own
abbrev pub newline_nodes : List Template → Nodes
newline_nodes [] = none
newline_nodes (t ∷ ts) = then 0 (text (codes "\n")) (newline_nodes ts)

-- bytes are cut into pieces, and these are read as items, which spell these templates in this order, apart from files
-- and lines, and a newline after each
pub record SetBack (bytes : List ℕ) (ts : List Template) : Type 0 where
  pub items : List Item
  pub has : HasItems every_action bytes items
  pub definitions : List Definition
  pub own : Nodes
  pub spells : Spells items definitions own
  pub alike : map unlined_definition definitions ≡ map unlined_template ts
  pub newlines : unlined own ≡ newline_nodes ts

abbrev pub SetReadsSame : Type 0
SetReadsSame = (ts : List Template) → ArePrintable ts → SetBack (printed_set ts) ts

-- ---- a printed set as a file

-- where a template has the base name of this file, these are the same templates in the same order, apart from files and
-- lines; where none has it, there is one more, which is last: that of the file, of newlines alone
abbrev pub IsSameSet : List ℕ → List Template → List Template → Type 0
IsSameSet file ts new =
    MatchOption (tree_named (base_name file) ts)
    (map unlined_template new ≡ map unlined_template ts ++ (base_name file, newline_nodes ts) ∷ [])
    (λ tree. map unlined_template new ≡ map unlined_template ts)

-- the set that a file makes where there was none
pub record IsAcceptedAs (file bytes : List ℕ) (ts : List Template) : Type 0 where
  pub set : List Template
  pub accepted : IsAccepted every_action [] file bytes set
  pub same : IsSameSet file ts set

-- what is printed of a set is accepted, as a file of any path, unless it is longer than a file may be
abbrev pub AcceptsPrinted : Type 0
AcceptsPrinted =
    (ts : List Template) (file : List ℕ) → IsSet ts → length (printed_set ts) ≤ most_bytes
    → IsAcceptedAs file (printed_set ts) ts

-- sets that are alike apart from files and lines are printed as the same bytes
abbrev pub PrintsAlike : Type 0
PrintsAlike =
    (ts us : List Template) → map unlined_template us ≡ map unlined_template ts → printed_set us ≡ printed_set ts
