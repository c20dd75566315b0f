-- How many cells of a stack a pipeline needs while it is computed, where each value that is held has one. That cells
-- are counted is our own rule.
use Rattle.std.specs.Prelude.{ℕ, suc, ◌+◌, max, Option, Some, None}
use Rattle.tmpl_grammar.specs.Tree as tree
use Rattle.tmpl_grammar.specs.Tree.{Operand, Operands, Pipeline}
use Rattle.tmpl_grammar.specs.Tree.{Binding, unbound, declare, assign, declare_pair}

-- a command, by its first operand: where that is a function what the call needs, and else what the operand needs alone,
-- since nothing that stands after it is computed
abbrev pub called_or_alone : Operand → ℕ → ℕ → ℕ
called_or_alone (tree.function f) call alone = call
called_or_alone o call alone = alone

abbrev mutual
  -- an operand: one for its value; parentheses need what the pipeline in them needs, and a chain no more than that
  pub need_of_operand : Operand → ℕ
  need_of_operand tree.dot = 1
  need_of_operand (tree.fields names) = 1
  need_of_operand (tree.variable name names) = 1
  need_of_operand (tree.bool_constant b) = 1
  need_of_operand (tree.number_constant n) = 1
  need_of_operand (tree.text_constant bytes) = 1
  need_of_operand tree.nil = 1
  need_of_operand (tree.function f) = 1
  need_of_operand (tree.group commands names) = need_of_commands 0 commands

  -- the arguments of a call, above this many values that are held already: each is held while those after are computed,
  -- and all are held at the call
  pub need_of_arguments : ℕ → Operands → ℕ
  need_of_arguments held tree.no_operand = held
  need_of_arguments held (tree.operand o os) = max (held + need_of_operand o) (need_of_arguments (suc held) os)

  -- a command to which this many values are piped, one or none: a call holds that below its arguments, and then one value
  -- that it gives
  pub need_of_command : ℕ → Operands → ℕ
  need_of_command piped tree.no_operand = 1
  need_of_command piped (tree.operand o os) =
      called_or_alone o (max 1 (need_of_arguments piped os)) (need_of_operand o)

  -- the most that one of the commands needs, where one value is piped to each but the first; the last leaves one
  pub need_of_commands : ℕ → Pipeline → ℕ
  need_of_commands piped tree.no_command = 1
  need_of_commands piped (tree.command os cs) = max (need_of_command piped os) (need_of_commands 1 cs)

abbrev pub need_of_pipeline : Pipeline → ℕ
need_of_pipeline p = need_of_commands 0 p

-- a call of a template holds the dot that it hands on
abbrev pub need_of_given : Option Pipeline → ℕ
need_of_given None = 1
need_of_given (Some p) = need_of_pipeline p

-- how many variables are declared
abbrev pub declared_count : Binding → ℕ
declared_count unbound = 0
declared_count (declare name) = 1
declared_count (assign name) = 0
declared_count (declare_pair key name) = 2
