-- What the compiler holds, apart from how it is held. Code is held from its last instruction to its first, cells from
-- the oldest to the newest.
use Rattle.std.specs.Prelude.{◌≡◌, ℕ, ◌+◌, ◌-◌, ◌≤◌, Bool, true, false, List, [], ◌∷◌, length, drop, Option, Some, None}
use Rattle.std.specs.Prelude.{map, reverse, ◌++◌}
use Rattle.tmpl_funcs.specs.Func.{takes}
use Rattle.tmpl_funcs.specs.declared.func.Func.{Func}
use Rattle.tmpl_grammar.specs.Need.{declared_count}
use Rattle.tmpl_grammar.specs.Tree.{Binding, unbound, declare, assign, declare_pair, Operands, operand_count}
use Rattle.tmpl_grammar.specs.View.{header_of}
use Rattle.tmpl_grammar.specs.declared.tree.Control.{Control}
use Rattle.tmpl_syntax.specs.Tree as tree
use Rattle.tmpl_syntax.specs.Tree.{NodeKind, text, action, control_node, template_node}
use Rattle.tmpl_syntax.specs.Tree.{Nodes}
use Rattle.tmpl_syntax.specs.Set.{Template, number_of}
use Rattle.tmpl_syntax.specs.View.{nodes_in}
use Rattle.tmpl_code.specs.Code.{argument_count, CallBy, CountedAt, JunctionAt, OperandsAt}
use Rattle.tmpl_code.specs.Code.{Code, Ended, Exit, NodeAt, NodesAt, NodesPart, Stretch, TreeAt, TurnAt, step_of_call}
use Rattle.tmpl_code.specs.Instruction.{Instruction, act, call_with, decide}
use Rattle.tmpl_code.specs.Layout.{Layout, bound_on, declared_in, after_node}
use Rattle.tmpl_code.specs.View.{instruction_of}
use Rattle.tmpl_code.specs.computed.Cells.{layout_in}
use Rattle.tmpl_code.specs.declared.code.Code as held_code
use Rattle.tmpl_code.specs.declared.instruction.Instruction as held_instruction
use Rattle.tmpl_code.specs.declared.node.Around as held_around
use Rattle.tmpl_code.specs.declared.node.ControlParts as held_node
use Rattle.tmpl_code.specs.declared.node.Compiler as held_compiler
use Rattle.tmpl_code.specs.declared.scope.Scope as held_scope
use Rattle.tmpl_code.specs.declared.tables.Tables.{Tables}

abbrev pub code_in : Tables → List held_instruction.Instruction → Code
code_in t is = map (instruction_of t) (reverse is)

unfoldable pub code_of : held_code.Code → Code
code_of c = code_in c.tables c.instructions.items

unfoldable pub layout_of : held_scope.Scope → Layout
layout_of s = layout_in s.cells.items

-- after an operand of `and` or `or`, of which the last of this many instructions come after the whole
abbrev pub after_decision : Bool → Bool → Bool → ℕ → Code → Code
after_decision true is_or piped end code = code
after_decision false is_or piped end code = act (decide is_or piped (length code - end)) ∷ code

-- the code ends with other code
pub record Ends (rest code : Code) : Type 0 where
  pub front : Code
  pub is : code ≡ front ++ rest

-- code of this kind was put before other code, which stands after it
pub record Placed (P : Stretch) (before after : held_code.Code) : Type 0 where
  pub code : P (code_of after) (code_of before)
  pub ends : Ends (code_of before) (code_of after)

-- one instruction
abbrev pub Pushed : Instruction → Stretch
Pushed i code rest = code ≡ i ∷ rest

-- this many of the last instructions
abbrev pub last_of : ℕ → Code → Code
last_of n code = drop (length code - n) code

-- the range around, by how much code lies after it
abbrev pub exit_seen : Option held_around.Around → Code → Exit
exit_seen None code = None
exit_seen (Some a) code = Some (record { out = last_of a.after code; line = a.line; below = a.below })

-- the range around is open
abbrev pub IsOpen : Option held_around.Around → Code → Layout → Type 0
IsOpen None code cells = Unit {0}
IsOpen (Some a) code cells = (a.after ≤ length code) × (a.below + 2 ≤ length cells)

-- after nodes
abbrev pub all_grown : Nodes → Layout → Layout
all_grown tree.none cells = cells
all_grown (tree.then line n ns) cells = all_grown ns (after_node n cells)

-- a call of a function
abbrev pub CalledAt : Func → Operands → Bool → ℕ → Layout → Stretch
CalledAt f os piped above cells =
    CountedAt (takes f (argument_count os piped)) f
    (CallBy f
    (λ code rest. OperandsAt os above cells code (act (call_with f (operand_count os) piped) ∷ rest))
    (JunctionAt false os piped above cells)
    (JunctionAt true os piped above cells))

-- without the variables that are declared
abbrev pub bound_off : Binding → Layout → Layout
bound_off unbound cells = cells
bound_off (declare name) cells = drop 1 cells
bound_off (assign name) cells = cells
bound_off (declare_pair key name) cells = drop 1 (drop 1 cells)

-- without the variables that a node leaves
abbrev pub shrunk : NodeKind → Layout → Layout
shrunk (action h) cells = bound_off h.binding cells
shrunk n cells = cells

-- nodes after a header that binds variables; with a saved dot too; with what ends them; and above the cells of a
-- range, after what binds the variables to its element
abbrev pub BoundPart : List Template → Binding → Nodes → NodesPart
BoundPart ts b ns cells exit = NodesAt ts ns (bound_on b cells) exit

abbrev pub DottedPart : List Template → Binding → Nodes → NodesPart
DottedPart ts b ns cells exit = NodesAt ts ns (None ∷ bound_on b cells) exit

abbrev pub EndedPart : List Template → Binding → Nodes → ℕ → NodesPart
EndedPart ts b ns skip cells exit =
    Ended (declared_count b + declared_in ns) skip (NodesAt ts ns (bound_on b cells) exit)

abbrev pub TurnsPart : List Template → Binding → Nodes → NodesPart
TurnsPart ts b ns cells exit code rest =
    (first : Code) × TurnAt b (None ∷ None ∷ cells) code first
    × NodesAt ts ns (bound_on b (None ∷ None ∷ cells)) exit first rest

-- a control of these parts
abbrev pub PartsAt : List Template → ℕ → Control → held_node.ControlParts → NodesPart
PartsAt ts line c p =
    NodeAt ts line (control_node c (header_of p.header.now) (nodes_in p.body.now) (nodes_in p.other.now))

-- such a part was put before the code, which stands after it, and the cells are as they were
pub record Put (P : NodesPart) (exit : Option held_around.Around) (before after : held_compiler.Compiler) : Type 0 where
  pub code :
      P (layout_of before.scope) (exit_seen exit (code_of before.code)) (code_of after.code) (code_of before.code)
  pub ends : Ends (code_of before.code) (code_of after.code)
  pub scope : layout_of after.scope ≡ layout_of before.scope

-- the places in code of this size from which on there is so much code
abbrev pub places : ℕ → List ℕ → List ℕ
places size lengths = map (λ n. size - n) lengths

-- the code of each of these templates starts where so much code is left
abbrev pub LastStarts : List Template → List Template → List ℕ → Code → Type 0
LastStarts all [] [] code = Unit {0}
LastStarts all [] (n ∷ ns) code = ⊥
LastStarts all (t ∷ ts) [] code = ⊥
LastStarts all (t ∷ ts) (n ∷ ns) code =
    (n ≤ length code) × ((rest : Code) × TreeAt all t.1.nodes (last_of n code) rest) × LastStarts all ts ns code

-- the number of the template that a node calls, where it calls one that is there
abbrev pub number_called : List Template → NodeKind → Option ℕ
number_called ts (template_node name given) = number_of name ts
number_called ts n = None

-- what takes the step of a node before its code, by that number
abbrev pub StepBy : ℕ → NodeKind → Option ℕ → Stretch
StepBy line (text bytes) number code rest = code ≡ rest
StepBy line (action h) number code rest = code ≡ rest
StepBy line n number code rest = code ≡ step_of_call line number ∷ rest
