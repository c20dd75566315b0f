-- What the parts of an action say, apart from how it is held.
use Rattle.std.specs.Prelude.{ℕ, suc, ℤ, Bool, List, [], ◌∷◌}
use Rattle.tmpl_funcs.specs.declared.func.Func.{Func}

mutual
  -- what a value comes from: dot, `nil`, a chain of field names from dot, a variable and a chain from it, a constant, a
  -- function, or a pipeline in parentheses and a chain from it
  pub data Operand : Type 0 where
    dot nil : Operand
    fields : List (List ℕ) → Operand
    variable : List ℕ → List (List ℕ) → Operand
    bool_constant : Bool → Operand
    number_constant : ℤ → Operand
    text_constant : List ℕ → Operand
    function : Func → Operand
    group : Pipeline → List (List ℕ) → Operand

  -- those of a command
  pub data Operands : Type 0 where
    no_operand : Operands
    operand : Operand → Operands → Operands

  -- a pipeline: its commands, from left to right
  pub data Pipeline : Type 0 where
    no_command : Pipeline
    command : Operands → Pipeline → Pipeline

-- the variables that take a pipeline's value: none, a new one, one that is there, or, in a range, one for the index or
-- key and one for the element
pub data Binding : Type 0 where
  unbound : Binding
  declare assign : List ℕ → Binding
  declare_pair : List ℕ → List ℕ → Binding

pub record Header : Type 0 where
  pub binding : Binding
  pub pipeline : Pipeline

abbrev pub operands_from : List Operand → Operands
operands_from [] = no_operand
operands_from (o ∷ os) = operand o (operands_from os)

abbrev pub commands_from : List Operands → Pipeline
commands_from [] = no_command
commands_from (c ∷ cs) = command c (commands_from cs)

-- how many there are
abbrev pub operand_count : Operands → ℕ
operand_count no_operand = 0
operand_count (operand o os) = suc (operand_count os)
