-- The instructions of flat code, apart from how they are held; `src/instruction.rt` says what each does. What is passed
-- over counts from the next instruction on, and slots and counts of cells from the newest cell on.
use Rattle.std.specs.Prelude.{ℕ, ℤ, Bool, List}
use Rattle.tmpl_funcs.specs.declared.func.Func.{Func}

-- what the form of a command or of a call alone refuses
pub data CommandError : Type 0 where
  not_a_function : CommandError
  nil_command : CommandError
  wrong_count : Func → CommandError
  no_template : List ℕ → CommandError

-- a step of a pipeline
pub data Operation : Type 0 where
  push_nothing : Operation
  push_bool : Bool → Operation
  push_number : ℤ → Operation
  push_text : List ℕ → Operation
  push_dot : Operation
  push_fields : List (List ℕ) → Operation
  push_slot : ℕ → Operation
  chained : List (List ℕ) → Operation
  -- this many arguments, and whether a piped value lies below them
  call_with : Func → ℕ → Bool → Operation
  -- whether it is an `or`, whether a piped value lies below, and how many it passes over
  decide : Bool → Bool → ℕ → Operation
  settle : Operation
  refuse : CommandError → Operation

pub data Instruction : Type 0 where
  spend : ℕ → Instruction
  -- the line of its step
  put : ℕ → List ℕ → Instruction
  act : Operation → Instruction
  show : Instruction
  -- the line of its step, and the names of a chain of fields of dot
  show_fields : ℕ → List (List ℕ) → Instruction
  -- the line of its step, a slot, and the names of a chain of fields of its value
  show_slot : ℕ → ℕ → List (List ℕ) → Instruction
  -- whether a variable for an index or key is declared below
  hold : Bool → Instruction
  set : ℕ → Instruction
  set_dot : ℕ → Instruction
  -- whether the value is a variable, and how many it passes over
  unless : Bool → ℕ → Instruction
  enter_with : Bool → ℕ → Instruction
  -- this many cells above the saved dot and this many below it, and how many it passes over
  end_with : ℕ → ℕ → ℕ → Instruction
  forget : ℕ → ℕ → Instruction
  -- whether the index or key is wanted
  enter : Bool → ℕ → Instruction
  -- this many variables
  turn : ℕ → Instruction
  -- this many cells, how many it passes over, and the line of the range
  next : ℕ → ℕ → ℕ → Instruction
  leave : ℕ → ℕ → Instruction
  -- the line of the call
  deepen : ℕ → Instruction
  invoke : ℕ → Instruction
  return_from : ℕ → Instruction
