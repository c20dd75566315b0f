-- The set of templates: a list of names and trees, in the order in which the names were first defined, which is our
-- own rule. That a blank definition replaces no body is from the documentation of Go's `Template.Parse`.
use Rattle.std.specs.Prelude.{ℕ, Bool, true, false, ◌&&◌, List, [], ◌∷◌, Option, find, position, option_map}
use Rattle.std.specs.Prelude.{if◌then◌else◌}
use Rattle.std.specs.List.{fold, list_all}
use Rattle.std.specs.Str.{bytes_eq}
use Rattle.core.specs.declared.hash.sip.DefaultHasher.{DefaultHasher}
use Rattle.core.specs.Hash.DefaultHasher.{with_keys}
use Rattle.tmpl_lex.specs.Bytes.{is_space}
use Rattle.tmpl_syntax.specs.declared.name_hash.NameHash.{NameHash}
use Rattle.tmpl_syntax.specs.Tree as tree
use Rattle.tmpl_syntax.specs.Tree.{text}
use Rattle.tmpl_syntax.specs.Tree.{Nodes, Tree}

-- a name and a tree
abbrev pub Template : Type 0
Template = List ℕ × Tree

-- the tree of the template of this name
abbrev pub tree_named : List ℕ → List Template → Option Tree
tree_named name ts = option_map (λ (t : Template). t.1) (find (λ (t : Template). bytes_eq name t.0) ts)

-- its number: how many templates stand before it
abbrev pub number_of : List ℕ → List Template → Option ℕ
number_of name ts = position (λ (t : Template). bytes_eq name t.0) ts

-- it without its nodes
abbrev pub without_nodes : Template → Template
without_nodes t = (t.0, record { file = t.1.file; nodes = tree.none })

-- whether all nodes are texts of white space
abbrev pub is_blank : Nodes → Bool
is_blank tree.none = true
is_blank (tree.then line (text bytes) ns) = list_all is_space bytes && is_blank ns
is_blank ns = false

-- the set after a definition: a new name goes last, and a name that is there keeps its place, where a blank body
-- replaces none
abbrev pub add_definition : List Template → List ℕ → Tree → List Template
add_definition [] name new = (name, new) ∷ []
add_definition (t ∷ ts) name new =
    if bytes_eq name t.0 then (t.0, if is_blank new.nodes then t.1 else new) ∷ ts else t ∷ add_definition ts name new

-- .. after definitions, one by one
abbrev pub defined_each : List Template → List Template → List Template
defined_each set ts = fold (λ before t. add_definition before t.0 t.1) set ts

-- what a set writes each name to, from its two keys
abbrev pub first_hasher : NameHash → DefaultHasher
first_hasher h = with_keys h.first h.second

-- that of the keys that everyone knows
abbrev pub known_hasher : DefaultHasher
known_hasher = with_keys 0 0
