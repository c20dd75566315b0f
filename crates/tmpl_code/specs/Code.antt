-- Which code is that of a tree: what `compile` promises, and what a run of code rests on. Code is the list of
-- instructions from a place on, and `rest` is what stands after the code of the tree; so nothing hangs on where it
-- stands. Each case says what that of the tree's meaning says, and each tree has code: a variable that is not in scope
-- is nothing, and a break out of no range ends the template.
use Rattle.std.specs.Prelude.{◌≡◌, ℕ, zero, suc, ◌+◌, ◌-◌, Bool, true, false, List, [], ◌∷◌, length, drop, Option, Some}
use Rattle.std.specs.Prelude.{None, option_map}
use Rattle.tmpl_funcs.specs.Func.{takes}
use Rattle.tmpl_funcs.specs.declared.func.Func.{Func}
use Rattle.tmpl_funcs.specs.declared.func.Func.TheVariants.{And, Or}
use Rattle.tmpl_grammar.specs.Tree.{Operand, dot, fields, variable, bool_constant, number_constant}
use Rattle.tmpl_grammar.specs.Tree.{text_constant, nil, function, group, Operands, no_operand, operand, operand_count}
use Rattle.tmpl_grammar.specs.Tree.{Pipeline, no_command, command}
use Rattle.tmpl_grammar.specs.Tree.{Binding, unbound, declare, assign, declare_pair, Header}
use Rattle.tmpl_grammar.specs.Need.{declared_count}
use Rattle.tmpl_grammar.specs.declared.tree.Control.{Control}
use Rattle.tmpl_grammar.specs.declared.tree.Control.TheVariants as control
use Rattle.tmpl_syntax.specs.Tree as tree
use Rattle.tmpl_syntax.specs.Tree.{NodeKind, text, action, control_node, break_node, continue_node, template_node}
use Rattle.tmpl_syntax.specs.Tree.{Nodes}
use Rattle.tmpl_syntax.specs.Set.{Template, number_of}
use Rattle.tmpl_code.specs.Instruction.{not_a_function, nil_command, wrong_count, no_template, Operation}
use Rattle.tmpl_code.specs.Instruction.{push_nothing, push_bool, push_number, push_text, push_dot, push_fields}
use Rattle.tmpl_code.specs.Instruction.{push_slot, chained, call_with, decide, settle, refuse, Instruction, spend, put}
use Rattle.tmpl_code.specs.Instruction.{act, show, show_fields, show_slot, hold, set, set_dot, unless, enter_with, end_with, forget, enter}
use Rattle.tmpl_code.specs.Instruction.{turn, next, leave, deepen, invoke, return_from}
use Rattle.tmpl_code.specs.Layout.{Layout, slot_named, bound_on, declares, declares_key, after_node, declared_in}
use Rattle.tmpl_code.specs.Layout.{first_layout}

-- from a place on
abbrev pub Code : Type 0
Code = List Instruction

-- what stands from a place up to another, both told by the code from there on
abbrev pub Stretch : Type 1
Stretch = Code → Code → Type 0

-- one step of a pipeline
abbrev pub One : Operation → Stretch
One o code rest = code ≡ act o ∷ rest

-- ---- operands

-- after a value: the chain of fields from it, if there is one, and then the rest
abbrev pub chain_before : List (List ℕ) → Code → Code
chain_before [] rest = rest
chain_before (name ∷ names) rest = act (chained (name ∷ names)) ∷ rest

-- the variable of a slot, below this many values
abbrev pub VariableAt : Option ℕ → ℕ → Stretch
VariableAt None above code rest = One push_nothing code rest
VariableAt (Some slot) above code rest = One (push_slot (above + slot)) code rest

-- a function as an argument: a call without arguments
abbrev pub BareAt : Bool → Func → Stretch
BareAt true f code rest = One (call_with f 0 false) code rest
BareAt false f code rest = One (refuse (wrong_count f)) code rest

-- ---- commands

abbrev pub piped_count : Bool → ℕ
piped_count false = 0
piped_count true = 1

abbrev pub argument_count : Operands → Bool → ℕ
argument_count os piped = operand_count os + piped_count piped

-- whether no argument stands after an operand before these
abbrev pub is_last : Operands → Bool → Bool
is_last no_operand false = true
is_last no_operand true = false
is_last (operand o os) piped = false

-- a first operand that is no function and stands alone
abbrev pub AloneAt : Operand → Stretch → Stretch
AloneAt nil Value code rest = One (refuse nil_command) code rest
AloneAt o Value code rest = Value code rest

-- a first operand that is no function: it takes no argument
abbrev pub FirstAt : Bool → Operand → Stretch → Stretch
FirstAt true o Value code rest = AloneAt o Value code rest
FirstAt false o Value code rest = One (refuse not_a_function) code rest

-- a command by its first operand: a call where that is a function
abbrev pub CommandBy : Operand → Operands → Bool → Stretch → (Func → Stretch) → Stretch
CommandBy (function f) os piped Value Call code rest = Call f code rest
CommandBy o os piped Value Call code rest = FirstAt (is_last os piped) o Value code rest

-- a call, by whether the function takes this number of arguments
abbrev pub CountedAt : Bool → Func → Stretch → Stretch
CountedAt true f Call code rest = Call code rest
CountedAt false f Call code rest = One (refuse (wrong_count f)) code rest

-- by the function: `and` and `or` decide after each operand
abbrev pub CallBy : Func → Stretch → Stretch → Stretch → Stretch
CallBy And All Both Either = Both
CallBy Or All Both Either = Either
CallBy f All Both Either = All

-- after an operand of an `or`, or else of an `and`: where the value decides, the others are passed over; none is
-- after the last argument
abbrev pub DecideAt : Bool → Bool → Bool → Stretch → Stretch
DecideAt true is_or piped Others code rest = code ≡ rest
DecideAt false is_or piped Others code rest =
    (skip : ℕ) × (more : Code)
    × (code ≡ act (decide is_or piped skip) ∷ more) × Others more rest × (drop skip more ≡ rest)

abbrev mutual
  -- an operand, where this many values lie above the cells of this layout
  pub OperandAt : Operand → ℕ → Layout → Stretch
  OperandAt dot above cells code rest = One push_dot code rest
  OperandAt (fields names) above cells code rest = One (push_fields names) code rest
  OperandAt (variable name names) above cells code rest =
      VariableAt (slot_named name cells) above code (chain_before names rest)
  OperandAt (bool_constant b) above cells code rest = One (push_bool b) code rest
  OperandAt (number_constant n) above cells code rest = One (push_number n) code rest
  OperandAt (text_constant bytes) above cells code rest = One (push_text bytes) code rest
  OperandAt nil above cells code rest = One push_nothing code rest
  OperandAt (function f) above cells code rest = BareAt (takes f 0) f code rest
  OperandAt (group commands names) above cells code rest =
      CommandsAt commands false above cells code (chain_before names rest)

  -- the operands of a call, each above the values of those before it
  pub OperandsAt : Operands → ℕ → Layout → Stretch
  OperandsAt no_operand above cells code rest = code ≡ rest
  OperandsAt (operand o os) above cells code rest =
      (mid : Code) × OperandAt o above cells code mid × OperandsAt os (suc above) cells mid rest

  -- the operands of an `or`, or else of an `and`
  pub JunctionAt : Bool → Operands → Bool → ℕ → Layout → Stretch
  JunctionAt is_or no_operand piped above cells code rest = code ≡ rest
  JunctionAt is_or (operand o os) piped above cells code rest =
      (mid : Code) × OperandAt o above cells code mid
      × DecideAt (is_last os piped) is_or piped (JunctionAt is_or os piped above cells) mid rest

  -- a command, where this many values lie above the cells, of which a piped one is the newest
  pub CommandAt : Operands → Bool → ℕ → Layout → Stretch
  CommandAt no_operand piped above cells code rest = One (refuse not_a_function) code rest
  CommandAt (operand o os) piped above cells code rest =
      CommandBy o os piped (OperandAt o above cells)
      (λ f. CountedAt (takes f (argument_count os piped)) f
      (CallBy f
      (λ code rest. OperandsAt os above cells code (act (call_with f (operand_count os) piped) ∷ rest))
      (JunctionAt false os piped above cells)
      (JunctionAt true os piped above cells)))
      code rest

  -- the commands from left to right, where this many values lie above the cells, and one more that is piped to the first,
  -- if it is so; a null that a command gives is made nothing
  pub CommandsAt : Pipeline → Bool → ℕ → Layout → Stretch
  CommandsAt no_command false above cells code rest = One push_nothing code rest
  CommandsAt no_command true above cells code rest = code ≡ rest
  CommandsAt (command os cs) piped above cells code rest =
      (mid : Code) × CommandAt os piped (above + piped_count piped) cells code (act settle ∷ mid)
      × CommandsAt cs true above cells mid rest

abbrev pub PipelineAt : Pipeline → Layout → Stretch
PipelineAt p cells code rest = CommandsAt p false 0 cells code rest

-- ---- bindings

-- a value that is assigned to the variable of a slot, and stays on top
abbrev pub SetAt : Option ℕ → Stretch
SetAt None code rest = code ≡ rest
SetAt (Some slot) code rest = code ≡ set slot ∷ rest

-- what binds variables to the value on top
abbrev pub BindAt : Binding → Layout → Stretch
BindAt unbound cells code rest = code ≡ rest
BindAt (declare name) cells code rest = code ≡ hold false ∷ rest
BindAt (assign name) cells code rest = SetAt (slot_named name cells) code rest
BindAt (declare_pair key name) cells code rest = code ≡ hold true ∷ rest

-- the pipeline of a header, and what binds its value
abbrev pub HeaderAt : Header → Layout → Stretch
HeaderAt h cells code rest = (mid : Code) × PipelineAt h.pipeline cells code mid × BindAt h.binding cells mid rest

-- the end of an action, whose value was bound
abbrev pub ShownAt : Binding → Stretch
ShownAt unbound code rest = code ≡ show ∷ rest
ShownAt (declare name) code rest = code ≡ rest
ShownAt (assign name) code rest = code ≡ forget 1 0 ∷ rest
ShownAt (declare_pair key name) code rest = code ≡ rest

-- the operand of an action that binds no variable and has no other operand
abbrev pub sole_of : Binding → Pipeline → Option Operand
sole_of unbound (command (operand o no_operand) no_command) = Some o
sole_of b p = None

-- what takes a step at this line and shows an operand where it lies, if that is dot, a variable, or a field of one
abbrev pub show_of : ℕ → Operand → Layout → Option Instruction
show_of line dot cells = Some (show_fields line [])
show_of line (fields names) cells = Some (show_fields line names)
show_of line (variable name []) cells = option_map (λ slot. show_slot line slot []) (slot_named name cells)
show_of line (variable name (x ∷ [])) cells = option_map (λ slot. show_slot line slot (x ∷ [])) (slot_named name cells)
show_of line o cells = None

abbrev pub show_in : ℕ → Option Operand → Layout → Option Instruction
show_in line None cells = None
show_in line (Some o) cells = show_of line o cells

-- an action of this line: such an instruction, or else its step, its header and its end
abbrev pub ActionAt : Option Instruction → ℕ → Header → Layout → Stretch
ActionAt (Some i) line h cells code rest = code ≡ i ∷ rest
ActionAt None line h cells code rest =
    (start : Code) × (mid : Code)
    × (code ≡ spend line ∷ start) × HeaderAt h cells start mid × ShownAt h.binding mid rest

-- the element that a range visits, assigned to the variable of a slot
abbrev pub SetDotAt : Option ℕ → Stretch
SetDotAt None code rest = code ≡ rest
SetDotAt (Some slot) code rest = code ≡ set_dot slot ∷ rest

-- what binds the variables of a range to the element that it visits, above the cells of the range
abbrev pub TurnAt : Binding → Layout → Stretch
TurnAt unbound cells code rest = code ≡ turn 0 ∷ rest
TurnAt (declare name) cells code rest = code ≡ turn 1 ∷ rest
TurnAt (assign name) cells code rest =
    (mid : Code) × (code ≡ turn 0 ∷ mid) × SetDotAt (slot_named name cells) mid rest
TurnAt (declare_pair key name) cells code rest = code ≡ turn 2 ∷ rest

-- ---- breaks

-- the range around: the code after it, its line, and how many cells lie below its own two
pub record Around : Type 0 where
  pub out : Code
  pub line : ℕ
  pub below : ℕ

abbrev pub Exit : Type 0
Exit = Option Around

-- this many cells lie above the two of the range around
abbrev pub Above : Around → Layout → ℕ → Type 0
Above a cells count = count + 2 + a.below ≡ length cells

-- out of no range: the template ends, of which three cells lie below
abbrev pub BreakAt : Exit → Layout → Stretch
BreakAt None cells code rest = code ≡ return_from (length cells - 3) ∷ rest
BreakAt (Some a) cells code rest =
    (count : ℕ) × (skip : ℕ) × Above a cells count × (code ≡ leave count skip ∷ rest) × (drop skip rest ≡ a.out)

abbrev pub ContinueAt : Exit → Layout → Stretch
ContinueAt None cells code rest = code ≡ return_from (length cells - 3) ∷ rest
ContinueAt (Some a) cells code rest =
    (count : ℕ) × (skip : ℕ) × Above a cells count × (code ≡ next count skip a.line ∷ rest) × (drop skip rest ≡ a.out)

-- ---- calls

-- the value that is handed to a template: that of the pipeline, or nothing
abbrev pub GivenAt : Option Pipeline → Layout → Stretch
GivenAt None cells code rest = One push_nothing code rest
GivenAt (Some p) cells code rest = PipelineAt p cells code rest

-- a call, by the number of the template: it is looked for before its pipeline is looked at
abbrev pub CallAt : List ℕ → Option ℕ → Option Pipeline → Layout → Stretch
CallAt name None given cells code rest = One (refuse (no_template name)) code rest
CallAt name (Some number) given cells code rest = GivenAt given cells code (invoke number ∷ rest)

-- what takes the step of a call; that of one of a template which is there is only looked for, and then how deep calls
-- are, before its pipeline, and is taken where the template begins
abbrev pub step_of_call : ℕ → Option ℕ → Instruction
step_of_call line None = spend line
step_of_call line (Some number) = deepen line

-- what takes the step of a node before its code; nothing, where the code begins with an instruction that does
abbrev pub StepAt : List Template → ℕ → NodeKind → Stretch
StepAt ts line (text bytes) code rest = code ≡ rest
StepAt ts line (action h) code rest = code ≡ rest
StepAt ts line (template_node name given) code rest = code ≡ step_of_call line (number_of name ts) ∷ rest
StepAt ts line n code rest = code ≡ spend line ∷ rest

-- ---- controls

-- what ends a part: this many cells are forgotten, and this many instructions passed over; where that is none, nothing is
-- there
abbrev pub EndAt : ℕ → ℕ → Stretch
EndAt zero zero code rest = code ≡ rest
EndAt zero (suc to) code rest = code ≡ forget 0 (suc to) ∷ rest
EndAt (suc count) to code rest = code ≡ forget (suc count) to ∷ rest

abbrev pub Ended : ℕ → ℕ → Stretch → Stretch
Ended count to P code rest = (end : Code) × P code end × EndAt count to end rest

-- the parts of an `if`, which leave this many variables each, after its header
abbrev pub IfAt : Binding → ℕ → ℕ → Stretch → Stretch → Stretch
IfAt b in_body in_other Body Other code rest =
    (first : Code) × (second : Code) × (skip : ℕ) × (to : ℕ)
    × (code ≡ unless (declares b) skip ∷ first)
    × Ended (declared_count b + in_body) to Body first second
    × Ended (declared_count b + in_other) 0 Other second rest
    × (drop skip first ≡ second) × (drop to second ≡ rest)

-- those of a `with`
abbrev pub WithAt : Binding → ℕ → ℕ → Stretch → Stretch → Stretch
WithAt b in_body in_other Body Other code rest =
    (first : Code) × (second : Code) × (skip : ℕ) × (to : ℕ)
    × (code ≡ enter_with (declares b) skip ∷ first)
    × Body first (end_with in_body (declared_count b) to ∷ second)
    × Ended (declared_count b + in_other) 0 Other second rest
    × (drop skip first ≡ second) × (drop to second ≡ rest)

-- those of a range of this line, after its pipeline
abbrev pub RangeAt : ℕ → Binding → ℕ → ℕ → Stretch → Stretch → Stretch → Stretch
RangeAt line b in_body in_other Turn Body Other code rest =
    (start : Code) × (first : Code) × (second : Code) × (skip : ℕ) × (to : ℕ)
    × (code ≡ enter (declares_key b) skip ∷ start)
    × Turn start first
    × Body first (next (declared_count b + in_body) to line ∷ second)
    × Ended in_other 0 Other second rest
    × (drop skip start ≡ second) × (drop to second ≡ rest)

-- nodes, by the layout before them and the range around
abbrev pub NodesPart : Type 1
NodesPart = Layout → Exit → Stretch

-- a control, by the nodes of its two parts, which leave this many variables each
abbrev pub ControlAt : ℕ → Control → Header → ℕ → ℕ → NodesPart → NodesPart → NodesPart
ControlAt line control.If h in_body in_other Body Other cells exit code rest =
    (mid : Code) × HeaderAt h cells code mid
    × IfAt h.binding in_body in_other
    (Body (bound_on h.binding cells) exit) (Other (bound_on h.binding cells) exit) mid rest
ControlAt line control.With h in_body in_other Body Other cells exit code rest =
    (mid : Code) × HeaderAt h cells code mid
    × WithAt h.binding in_body in_other
    (Body (None ∷ bound_on h.binding cells) exit) (Other (bound_on h.binding cells) exit) mid rest
ControlAt line control.Range h in_body in_other Body Other cells exit code rest =
    (mid : Code) × PipelineAt h.pipeline cells code mid
    × RangeAt line h.binding in_body in_other
    (TurnAt h.binding (None ∷ None ∷ cells))
    (Body (bound_on h.binding (None ∷ None ∷ cells))
    (Some (record { out = rest; line = line; below = length cells })))
    (Other cells exit) mid rest

-- ---- nodes

abbrev mutual
  -- a node of this line, once its step is taken, or from the instruction on that takes it; calls are of these templates
  pub NodeAt : List Template → ℕ → NodeKind → Layout → Exit → Stretch
  NodeAt ts line (text bytes) cells exit code rest = code ≡ put line bytes ∷ rest
  NodeAt ts line (action h) cells exit code rest =
      ActionAt (show_in line (sole_of h.binding h.pipeline) cells) line h cells code rest
  NodeAt ts line (control_node c h body other) cells exit code rest =
      ControlAt line c h (declared_in body) (declared_in other) (NodesAt ts body) (NodesAt ts other) cells exit
      code rest
  NodeAt ts line break_node cells exit code rest = BreakAt exit cells code rest
  NodeAt ts line continue_node cells exit code rest = ContinueAt exit cells code rest
  NodeAt ts line (template_node name given) cells exit code rest =
      CallAt name (number_of name ts) given cells code rest

  -- the nodes one after the other; each costs a step before anything else
  pub NodesAt : List Template → Nodes → Layout → Exit → Stretch
  NodesAt ts tree.none cells exit code rest = code ≡ rest
  NodesAt ts (tree.then line n ns) cells exit code rest =
      (start : Code) × (mid : Code) × StepAt ts line n code start
      × NodeAt ts line n cells exit start mid × NodesAt ts ns (after_node n cells) exit mid rest

-- a whole template
abbrev pub TreeAt : List Template → Nodes → Stretch
TreeAt ts ns code rest = NodesAt ts ns first_layout None code (return_from (declared_in ns) ∷ rest)

-- ---- all templates

-- the code of each of these templates starts at its place
abbrev pub Starts : List Template → List Template → List ℕ → Code → Type 0
Starts all [] [] code = Unit {0}
Starts all [] (place ∷ places) code = ⊥
Starts all (t ∷ ts) [] code = ⊥
Starts all (t ∷ ts) (place ∷ places) code =
    ((rest : Code) × TreeAt all t.1.nodes (drop place code) rest) × Starts all ts places code
