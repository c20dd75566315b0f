-- How deep parentheses nest, and how deep they may (our own limit).
use Rattle.std.specs.Prelude.{ℕ, ◌+◌, max, Some}
use Rattle.tmpl_grammar.specs.Tree as tree
use Rattle.tmpl_grammar.specs.Tree.{Operand, Operands, Pipeline}
use Rattle.tmpl_grammar.specs.Action.{Action, pipeline_action, opening, else_branch, template_action, block_action}

-- our own limit
abbrev pub most_deep : ℕ
most_deep = 100

-- how many parentheses stand around what is innermost in it
abbrev mutual
  pub depth_of_operand : Operand → ℕ
  depth_of_operand (tree.group commands names) = 1 + depth_of_pipeline commands
  depth_of_operand o = 0

  pub depth_of_operands : Operands → ℕ
  depth_of_operands tree.no_operand = 0
  depth_of_operands (tree.operand o os) = max (depth_of_operand o) (depth_of_operands os)

  pub depth_of_pipeline : Pipeline → ℕ
  depth_of_pipeline tree.no_command = 0
  depth_of_pipeline (tree.command os cs) = max (depth_of_operands os) (depth_of_pipeline cs)

abbrev pub depth_of : Action → ℕ
depth_of (pipeline_action h) = depth_of_pipeline h.pipeline
depth_of (opening c h) = depth_of_pipeline h.pipeline
depth_of (else_branch br h) = depth_of_pipeline h.pipeline
depth_of (template_action name (Some p)) = depth_of_pipeline p
depth_of (block_action name p) = depth_of_pipeline p
depth_of a = 0
