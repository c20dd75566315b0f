-- The definitions and the nodes of a file's items, from the last item to the first: what is known at a place are the
-- nodes up to the end of the part in which it stands, and those of the else part after it; and the same for each
-- control around it.
use Rattle.std.specs.Prelude.{ℕ, List, [], ◌∷◌, Some}
use Rattle.tmpl_grammar.specs.Tree.{Header}
use Rattle.tmpl_grammar.specs.Action.{pipeline_action, opening, plain_else, else_branch, end_action, break_action}
use Rattle.tmpl_grammar.specs.Action.{continue_action, define_action, template_action, block_action, control_in}
use Rattle.tmpl_grammar.specs.declared.tree.Control.{Control}
use Rattle.tmpl_grammar.specs.declared.action.Branch.{Branch}
use Rattle.tmpl_syntax.specs.Tree.{NodeKind, Nodes, none, then, text, action, control_node, break_node, continue_node}
use Rattle.tmpl_syntax.specs.Tree.{template_node, Definition}
use Rattle.tmpl_syntax.specs.Spelling.{definition}
use Rattle.tmpl_syntax.specs.Item.{Item, item, text_item, flawed_item, deep_item, action_item}

-- the nodes of a part from a place on, and those of the else part after it
pub record Level : Type 0 where
  pub nodes : Nodes
  pub other : Nodes

-- the innermost part, those around it, the nearest first, and the definitions from the place on
pub record OpenParts : Type 0 where
  pub inner : Level
  pub around : List Level
  pub definitions : List Definition

abbrev pub no_level : Level
no_level = record { nodes = none; other = none }

abbrev pub first_of : List Level → Level
first_of [] = no_level
first_of (l ∷ ls) = l

abbrev pub rest_of : List Level → List Level
rest_of [] = []
rest_of (l ∷ ls) = ls

-- a node before those of a part
abbrev pub with_node_before : ℕ → NodeKind → Level → Level
with_node_before line n l = record { nodes = then line n l.nodes; other = l.other }

abbrev pub put_before : ℕ → NodeKind → OpenParts → OpenParts
put_before line n p = record p { inner = with_node_before line n p.inner }

-- a control whose body and else part are after it
abbrev pub control_before : ℕ → Control → Header → OpenParts → OpenParts
control_before line c h p = record {
  inner = with_node_before line (control_node c h p.inner.nodes p.inner.other) (first_of p.around);
  around = rest_of p.around;
  definitions = p.definitions;
}

-- a template whose body is after it
abbrev pub definition_before : ℕ → List ℕ → OpenParts → OpenParts
definition_before line name p = record {
  inner = first_of p.around;
  around = rest_of p.around;
  definitions = definition line name p.inner.nodes ∷ p.definitions;
}

-- an else, whose part is after it
abbrev pub else_before : OpenParts → OpenParts
else_before p = record p { inner = record { nodes = none; other = p.inner.nodes } }

abbrev pub branch_before : ℕ → Branch → Header → OpenParts → OpenParts
branch_before line branch h p = record p {
  inner = record {
    nodes = none;
    other = then line (control_node (control_in branch) h p.inner.nodes p.inner.other) none;
  };
}

abbrev pub end_before : OpenParts → OpenParts
end_before p = record { inner = no_level; around = p.inner ∷ p.around; definitions = p.definitions }

-- the parts from an item on, by those after it
abbrev pub parts_with : Item → OpenParts → OpenParts
parts_with (item line (text_item bytes)) p = put_before line (text bytes) p
parts_with (item line (flawed_item reason)) p = p
parts_with (item line (deep_item branch)) p = p
parts_with (item line (action_item (pipeline_action h))) p = put_before line (action h) p
parts_with (item line (action_item (opening c h))) p = control_before line c h p
parts_with (item line (action_item plain_else)) p = else_before p
parts_with (item line (action_item (else_branch branch h))) p = branch_before line branch h p
parts_with (item line (action_item end_action)) p = end_before p
parts_with (item line (action_item break_action)) p = put_before line break_node p
parts_with (item line (action_item continue_action)) p = put_before line continue_node p
parts_with (item line (action_item (define_action name))) p = definition_before line name p
parts_with (item line (action_item (template_action name given))) p = put_before line (template_node name given) p
parts_with (item line (action_item (block_action name q))) p =
    put_before line (template_node name (Some q)) (definition_before line name p)

-- the parts from the first of these items on, by those after the last
abbrev pub parts_before : List Item → OpenParts → OpenParts
parts_before [] p = p
parts_before (x ∷ xs) p = parts_with x (parts_before xs p)

-- at the end of a file
abbrev pub no_parts : OpenParts
no_parts = record { inner = no_level; around = []; definitions = [] }

unfoldable pub nodes_from : List Item → Nodes
nodes_from xs = (parts_before xs no_parts).inner.nodes

unfoldable pub definitions_from : List Item → List Definition
definitions_from xs = (parts_before xs no_parts).definitions
