-- Whether a template names a function that makes a text, and so takes memory when it is called.
use Rattle.std.specs.Prelude.{Bool, false, ◌||◌, List, [], ◌∷◌, Option, Some, None}
use Rattle.tmpl_funcs.specs.Func.{makes_text}
use Rattle.tmpl_grammar.specs.Tree.{Operand, function, group, Operands, no_operand, operand, Pipeline}
use Rattle.tmpl_grammar.specs.Tree.{no_command, command}
use Rattle.tmpl_syntax.specs.Tree as tree
use Rattle.tmpl_syntax.specs.Tree.{NodeKind, action, control_node, template_node, Nodes}
use Rattle.tmpl_syntax.specs.Set.{Template}

abbrev mutual
  pub operand_makes_text : Operand → Bool
  operand_makes_text (function f) = makes_text f
  operand_makes_text (group commands names) = commands_make_text commands
  operand_makes_text o = false

  pub operands_make_text : Operands → Bool
  operands_make_text no_operand = false
  operands_make_text (operand o os) = operand_makes_text o || operands_make_text os

  pub commands_make_text : Pipeline → Bool
  commands_make_text no_command = false
  commands_make_text (command os cs) = operands_make_text os || commands_make_text cs

abbrev pub pipeline_makes_text : Pipeline → Bool
pipeline_makes_text p = commands_make_text p

abbrev pub given_makes_text : Option Pipeline → Bool
given_makes_text None = false
given_makes_text (Some p) = pipeline_makes_text p

abbrev mutual
  pub node_makes_text : NodeKind → Bool
  node_makes_text (action h) = pipeline_makes_text h.pipeline
  node_makes_text (control_node c h body other) =
      pipeline_makes_text h.pipeline || (nodes_make_text body || nodes_make_text other)
  node_makes_text (template_node name given) = given_makes_text given
  node_makes_text n = false

  pub nodes_make_text : Nodes → Bool
  nodes_make_text tree.none = false
  nodes_make_text (tree.then line n ns) = node_makes_text n || nodes_make_text ns

-- whether some template does
abbrev pub set_makes_text : List Template → Bool
set_makes_text [] = false
set_makes_text (t ∷ ts) = nodes_make_text t.1.nodes || set_makes_text ts
