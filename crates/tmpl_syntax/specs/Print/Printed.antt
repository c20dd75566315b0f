-- How a tree and a set are printed: their texts and actions one after the other.
use Rattle.std.specs.Prelude.{ℕ, nat_eq, List, [], ◌∷◌, ◌++◌, Option, Some, None, flat_map, codes}
use Rattle.std.specs.Prelude.{if◌then◌else◌}
use Rattle.std.specs.List.{ends_with}
use Rattle.std.specs.Option.{option_map_or}
use Rattle.tmpl_grammar.specs.Action.{Action, pipeline_action, opening, plain_else}
use Rattle.tmpl_grammar.specs.Action.{end_action, break_action, continue_action, define_action, template_action}
use Rattle.tmpl_grammar.specs.Print.{action_tokens, bytes_of}
use Rattle.tmpl_syntax.specs.Tree.{NodeKind, text, action, control_node, break_node, continue_node, template_node}
use Rattle.tmpl_syntax.specs.Tree as tree
use Rattle.tmpl_syntax.specs.Tree.{Nodes}
use Rattle.tmpl_syntax.specs.Set.{Template}

-- ---- what nodes say, one text or action after the other

pub data Said : Type 0 where
  said_text : List ℕ → Said
  said : Action → Said

abbrev mutual
  pub node_said : NodeKind → List Said
  node_said (text bytes) = said_text bytes ∷ []
  node_said (action h) = said (pipeline_action h) ∷ []
  -- an else part is said where it has nodes
  node_said (control_node c h body tree.none) = said (opening c h) ∷ (nodes_said body ++ said end_action ∷ [])
  node_said (control_node c h body other) =
      said (opening c h) ∷ (nodes_said body ++ said plain_else ∷ (nodes_said other ++ said end_action ∷ []))
  node_said break_node = said break_action ∷ []
  node_said continue_node = said continue_action ∷ []
  node_said (template_node name given) = said (template_action name given) ∷ []

  pub nodes_said : Nodes → List Said
  nodes_said tree.none = []
  nodes_said (tree.then line n ns) = node_said n ++ nodes_said ns

-- a template in a definition of its own, and a newline after it
abbrev pub template_said : Template → List Said
template_said t = said (define_action t.0) ∷ (nodes_said t.1.nodes ++ said end_action ∷ said_text (codes "\n") ∷ [])

-- ---- nodes apart from their lines

abbrev mutual
  pub unlined_node : NodeKind → NodeKind
  unlined_node (control_node c h body other) = control_node c h (unlined body) (unlined other)
  unlined_node n = n

  pub unlined : Nodes → Nodes
  unlined tree.none = tree.none
  unlined (tree.then line n ns) = tree.then 0 (unlined_node n) (unlined ns)

-- ---- the bytes

-- what opens an action or a comment after a text, or after none: `{{`, or, after a text that ends in `{`, a space
-- and a left trim marker that takes it
abbrev pub opening_after : Option (List ℕ) → List ℕ
opening_after None = codes "{{"
opening_after (Some t) = if ends_with nat_eq t (codes "{") then codes " {{- " else codes "{{"

-- between a text and the text before it, if there is one, stands an empty comment
abbrev pub parting : Option (List ℕ) → List ℕ
parting before = option_map_or (λ t. opening_after (Some t) ++ codes "/**/}}") before []

-- the bytes of what is said, after this text or none
abbrev pub file_of : Option (List ℕ) → List Said → List ℕ
file_of before [] = []
file_of before (said_text t ∷ ss) = parting before ++ (t ++ file_of (Some t) ss)
file_of before (said a ∷ ss) = opening_after before ++ (bytes_of (action_tokens a) ++ (codes "}}" ++ file_of None ss))

-- the bytes of nodes: the inverse of cutting, reading and spelling
abbrev pub print_nodes : Nodes → List ℕ
print_nodes ns = file_of None (nodes_said ns)

-- the bytes of a set, its templates one after the other
abbrev pub printed_set : List Template → List ℕ
printed_set ts = file_of None (flat_map template_said ts)
