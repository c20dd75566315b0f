-- The steps by which templates are looked up and replaced.
use Rattle.std.specs.Prelude.{ℕ, Bool, false, List, if◌then◌else◌}
use Rattle.std.specs.List.{list_all}
use Rattle.std.specs.Str.{bytes_eq}
use Rattle.tmpl_lex.specs.Bytes.{is_space}
use Rattle.tmpl_syntax.specs.Tree.{NodeKind, text, Tree}
use Rattle.tmpl_syntax.specs.Set.{Template, is_blank}

abbrev pub has_name : List ℕ → Template → Bool
has_name name t = bytes_eq name t.0

-- a text of white space
abbrev pub is_blank_node : NodeKind → Bool
is_blank_node (text bytes) = list_all is_space bytes
is_blank_node n = false

-- of a body that is there and a new one, the one that stays
abbrev pub choose : Tree → Tree → Tree
choose old new = if is_blank new.nodes then old else new
