-- Copy loops: trees that copy a text byte by byte, and put some bytes in another way.
use Rattle.std.specs.Prelude.{◌≡◌, ℕ, pos, ◌&&◌, ◌||◌, Bool, true, false, List, [], ◌∷◌, ◌++◌, bytes_eq, Option, Some, None}
use Rattle.std.specs.Prelude.{if◌then◌else◌, option_and_then}
use Rattle.std.specs.List.{list_any}
use Rattle.std.specs.Option.{option_map_or}
use Rattle.std.specs.Result.{result_ok}
use Rattle.tmpl_values.specs.Value.{Value, nothing, number, string}
use Rattle.tmpl_values.specs.Text.{text_of}
use Rattle.tmpl_values.specs.Truth.{truth}
use Rattle.tmpl_funcs.specs.declared.func.Func.{Func}
use Rattle.tmpl_funcs.specs.declared.func.Func.TheVariants.{Index, Len, Not, Slice}
use Rattle.tmpl_grammar.specs.Tree.{Operand, dot, nil, fields, variable, bool_constant, number_constant, text_constant, function, group}
use Rattle.tmpl_grammar.specs.Tree.{Operands, no_operand, operand, Pipeline, no_command, command, operands_from}
use Rattle.tmpl_grammar.specs.Tree.{Binding, unbound, declare, assign}
use Rattle.tmpl_grammar.specs.declared.tree.Control.{Control}
use Rattle.tmpl_grammar.specs.declared.tree.Control.TheVariants as control
use Rattle.tmpl_syntax.specs.Tree as tree
use Rattle.tmpl_syntax.specs.Tree.{NodeKind, text, action, control_node, template_node, Nodes}
use Rattle.tmpl_meaning.specs.Pipeline.{Environment, commands_value}
use Rattle.tmpl_meaning.specs.declared.missing_key.MissingKey.TheVariants.{Zero}

-- ---- the parts of a copy loop

-- the names of its variables: the text, where the bytes begin that are still to be put, whether they begin at this byte,
-- the place of the byte, and the byte, if that has a name
pub record Names : Type 0 where
  pub text : List ℕ
  pub from : List ℕ
  pub new : List ℕ
  pub index : List ℕ
  pub byte : Option (List ℕ)

-- what stands before the loop, each with its line: a text, and a variable of a constant value
pub data Before : Type 0 where
  says : ℕ → List ℕ → Before
  constant : ℕ → List ℕ → Pipeline → Before

-- a copy loop: its names, the lines of its nodes, what stands before the loop, what a turn does by its byte, and the texts
-- after the loop, each with its line
pub record Loop : Type 0 where
  pub names : Names
  pub line : ℕ → ℕ
  pub before : List Before
  pub by_byte : Nodes
  pub after : List (ℕ × List ℕ)

-- ---- its tree

abbrev pub named : List ℕ → Operand
named name = variable name []

-- one command
abbrev pub one : List Operand → Pipeline
one os = command (operands_from os) no_command

abbrev pub does : Binding → List Operand → NodeKind
does b os = action (record { binding = b; pipeline = one os })

abbrev pub if_so : List Operand → Nodes → NodeKind
if_so os body = control_node control.If (record { binding = unbound; pipeline = one os }) body tree.none

-- {{slice $text $from $i}}
abbrev pub kept_bytes : Names → NodeKind
kept_bytes n = does unbound (function Slice ∷ named n.text ∷ named n.from ∷ named n.index ∷ [])

-- texts, each with its line, before other nodes
abbrev pub texts : List (ℕ × List ℕ) → Nodes → Nodes
texts [] ns = ns
texts (t ∷ ts) ns = tree.then t.0 (text t.1) (texts ts ns)

-- these texts joined
abbrev pub joined : List (ℕ × List ℕ) → List ℕ
joined [] = []
joined (t ∷ ts) = t.1 ++ joined ts

abbrev pub before_nodes : List Before → Nodes → Nodes
before_nodes [] ns = ns
before_nodes (says line bytes ∷ bs) ns = tree.then line (text bytes) (before_nodes bs ns)
before_nodes (constant line name p ∷ bs) ns =
    tree.then line (action (record { binding = declare name; pipeline = p })) (before_nodes bs ns)

-- the texts among these joined
abbrev pub text_before : List Before → List ℕ
text_before [] = []
text_before (says line bytes ∷ bs) = bytes ++ text_before bs
text_before (constant line name p ∷ bs) = text_before bs

-- index $text $i
abbrev pub indexing : Names → Pipeline
indexing n = one (function Index ∷ named n.text ∷ named n.index ∷ [])

-- {{$byte := index $text $i}}, where the byte has a name
abbrev pub byte_nodes : ℕ → Names → Option (List ℕ) → Nodes → Nodes
byte_nodes line n None ns = ns
byte_nodes line n (Some name) ns = tree.then line (action (record { binding = declare name; pipeline = indexing n })) ns

-- {{if $is_new}}{{$from = $i}}{{$is_new = false}}{{end}}, and then what is done by the byte
abbrev pub turn_nodes : Loop → Nodes
turn_nodes c = let n = c.names in
    byte_nodes (c.line 3) n n.byte
    (tree.then (c.line 4) (if_so (named n.new ∷ [])
    (tree.then (c.line 5) (does (assign n.from) (named n.index ∷ []))
    (tree.then (c.line 6) (does (assign n.new) (bool_constant false ∷ [])) tree.none)))
    c.by_byte)

-- {{if not $is_new}}{{slice $text $from}}{{end}}, and then the texts
abbrev pub end_nodes : Loop → Nodes
end_nodes c = let n = c.names in
    tree.then (c.line 7) (if_so (function Not ∷ named n.new ∷ [])
    (tree.then (c.line 8) (does unbound (function Slice ∷ named n.text ∷ named n.from ∷ [])) tree.none))
    (texts c.after tree.none)

-- {{range $i := len $text}} .. {{end}} and all after it
abbrev pub loop_nodes : Loop → Nodes
loop_nodes c = let n = c.names in
    tree.then (c.line 9) (control_node control.Range
    (record { binding = declare n.index; pipeline = one (function Len ∷ named n.text ∷ []) }) (turn_nodes c) tree.none)
    (end_nodes c)

-- {{$text := .}}{{$from := 0}}{{$is_new := false}}, what stands before the loop, the loop, and what comes after it
abbrev pub copy_loop : Loop → Nodes
copy_loop c = let n = c.names in
    tree.then (c.line 0) (does (declare n.text) (dot ∷ []))
    (tree.then (c.line 1) (does (declare n.from) (number_constant (pos 0) ∷ []))
    (tree.then (c.line 2) (does (declare n.new) (bool_constant false ∷ []))
    (before_nodes c.before (loop_nodes c))))

-- ---- pipelines that see only some variables

-- a variable of this name is among these
abbrev pub has_name : List ℕ → Environment → Bool
has_name name env = list_any (λ v. bytes_eq v.0 name) env

module _ (sees : List ℕ → Bool) (is_byte : Pipeline → Bool) where
  abbrev mutual
    -- made of constants, functions, variables that are seen, and what stands for the byte
    pub is_seen : Operand → Bool
    is_seen dot = false
    is_seen nil = true
    is_seen (fields names) = false
    is_seen (variable name []) = sees name
    is_seen (variable name (f ∷ fs)) = false
    is_seen (bool_constant b) = true
    is_seen (number_constant n) = true
    is_seen (text_constant bytes) = true
    is_seen (function f) = true
    is_seen (group cs []) = is_byte cs || are_all_seen cs
    is_seen (group cs (f ∷ fs)) = false

    pub are_seen : Operands → Bool
    are_seen no_operand = true
    are_seen (operand o os) = is_seen o && are_seen os

    pub are_all_seen : Pipeline → Bool
    are_all_seen no_command = true
    are_all_seen (command os cs) = are_seen os && are_all_seen cs

  -- the value of such a pipeline among these variables
  abbrev pub value_among : Environment → Pipeline → Option Value
  value_among env p = if are_all_seen p
      then result_ok (commands_value (record { missing_key = Zero; dot = nothing; env = env }) p None).result else None

-- ---- constants

abbrev pub constant_value : Environment → Pipeline → Option Value
constant_value env p = value_among (λ name. has_name name env) (λ p. false) env p

-- the variables before the loop, the newest first, where each has a constant value
abbrev pub constants_after : List Before → Environment → Option Environment
constants_after [] env = Some env
constants_after (says line bytes ∷ bs) env = constants_after bs env
constants_after (constant line name p ∷ bs) env =
    option_and_then (λ v. constants_after bs ((name, v) ∷ env)) (constant_value env p)

-- ---- pipelines of the byte

-- the operand is this variable
abbrev pub is_variable : List ℕ → Operand → Bool
is_variable name (variable n []) = bytes_eq name n
is_variable name o = false

abbrev pub are_variables : List (List ℕ) → Operands → Bool
are_variables [] no_operand = true
are_variables (n ∷ ns) (operand o os) = is_variable n o && are_variables ns os
are_variables ns os = false

-- the call that is a whole pipeline: its function and operands
abbrev pub call_of : Operands → Option (Func × Operands)
call_of (operand (function f) os) = Some (f, os)
call_of os = None

abbrev pub call_in : Pipeline → Option (Func × Operands)
call_in (command os no_command) = call_of os
call_in p = None

-- a call of `index`, and of `slice`, with variables of these names
abbrev pub indexes : List (List ℕ) → Func → Operands → Bool
indexes ns Index os = are_variables ns os
indexes ns f os = false

abbrev pub slices : List (List ℕ) → Func → Operands → Bool
slices ns Slice os = are_variables ns os
slices ns f os = false

-- index $text $i
abbrev pub is_indexing : Names → Pipeline → Bool
is_indexing n p = option_map_or (λ call. indexes (n.text ∷ n.index ∷ []) call.0 call.1) (call_in p) false

-- slice $text $from $i
abbrev pub is_slicing : Names → Pipeline → Bool
is_slicing n p = option_map_or (λ call. slices (n.text ∷ n.from ∷ n.index ∷ []) call.0 call.1) (call_in p) false

-- the operand that is a whole pipeline
abbrev pub lone : Pipeline → Option Operand
lone (command (operand o no_operand) no_command) = Some o
lone p = None

-- true
abbrev pub is_yes : Option Operand → Bool
is_yes (Some (bool_constant b)) = b
is_yes o = false

-- the variable of the byte, if it has a name
abbrev pub byte_as : ℕ → Option (List ℕ) → Environment
byte_as b None = []
byte_as b (Some name) = (name, number (pos b)) ∷ []

abbrev pub byte_variable : Names → ℕ → Environment
byte_variable n b = byte_as b n.byte

-- the byte and the constants, and a text of the byte alone with its place
abbrev pub alone : Names → Environment → ℕ → Environment
alone n constants b =
    byte_variable n b ++ (constants ++ (n.index, number (pos 0)) ∷ (n.text, string (b ∷ [])) ∷ [])

-- the value of a pipeline of the byte and of these constants, at this byte
abbrev pub value_at : Names → Environment → ℕ → Pipeline → Option Value
value_at n constants b p = value_among (λ name. has_name name (byte_variable n b ++ constants)) (is_indexing n) (alone n constants b) p

-- ---- what a turn does

-- how far a turn has come: what it put after the bytes that were kept, if it has put these, and whether the bytes to
-- be kept begin anew; or that it is at a stop; or that it is no turn of a copy loop
pub data Turn : Type 0 where
  going : Option (List ℕ) → Bool → Turn
  stopped : List ℕ → Turn
  refused : Turn

-- .. with this put too: only after the bytes that were kept
abbrev pub putting : List ℕ → Option (List ℕ) → Bool → Turn
putting bytes None anew = refused
putting bytes (Some t) anew = going (Some (t ++ bytes)) anew

abbrev pub keeping : Option (List ℕ) → Bool → Turn
keeping None anew = going (Some []) anew
keeping (Some t) anew = refused

abbrev pub showing : Option Value → Option (List ℕ) → Bool → Turn
showing None put anew = refused
showing (Some v) put anew = putting (text_of v) put anew

abbrev pub choosing : Option Value → Turn → Turn → Turn
choosing None body other = refused
choosing (Some v) body other = if truth v then body else other

abbrev pub going_on : Turn → (Option (List ℕ) → Bool → Turn) → Turn
going_on (going put anew) next = next put anew
going_on turn next = turn

-- an action: {{slice $text $from $i}}, {{$is_new = true}}, or the value of a pipeline
abbrev pub acting : Names → (Pipeline → Option Value) → Binding → Pipeline → Option (List ℕ) → Bool → Turn
acting n value unbound p put anew = if is_slicing n p then keeping put anew else showing (value p) put anew
acting n value (assign name) p put anew = if bytes_eq n.new name && is_yes (lone p) then going put true else refused
acting n value b p put anew = refused

-- an `if` without variables
abbrev pub branching : Control → Binding → Turn → Turn
branching control.If unbound t = t
branching c b t = refused

-- by the values of the pipelines
abbrev mutual
  pub after_node : Names → (Pipeline → Option Value) → NodeKind → Option (List ℕ) → Bool → Turn
  after_node n value (text bytes) put anew = putting bytes put anew
  after_node n value (action h) put anew = acting n value h.binding h.pipeline put anew
  after_node n value (control_node c h body other) put anew = branching c h.binding
      (choosing (value h.pipeline) (after_nodes n value body put anew) (after_nodes n value other put anew))
  after_node n value (template_node name given) put anew = stopped name
  after_node n value x put anew = refused

  pub after_nodes : Names → (Pipeline → Option Value) → Nodes → Option (List ℕ) → Bool → Turn
  after_nodes n value tree.none put anew = going put anew
  after_nodes n value (tree.then line x xs) put anew =
      going_on (after_node n value x put anew) (after_nodes n value xs)

-- the whole turn of a byte, with these constants
abbrev pub turn_of : Loop → Environment → ℕ → Turn
turn_of c constants b = after_nodes c.names (value_at c.names constants b) c.by_byte None false

-- what is put for a byte: itself where the turn puts nothing
abbrev pub put_by : ℕ → Turn → List ℕ
put_by b (going None anew) = b ∷ []
put_by b (going (Some t) anew) = t
put_by b turn = []

abbrev pub put_for : Loop → Environment → ℕ → List ℕ
put_for c constants b = put_by b (turn_of c constants b)

-- ---- names that differ

abbrev pub is_byte_name : Option (List ℕ) → List ℕ → Bool
is_byte_name None name = false
is_byte_name (Some byte) name = bytes_eq byte name

-- neither a constant nor the byte has this name
pub record IsFree (c : Loop) (constants : Environment) (name : List ℕ) : Type 0 where
  pub constant : has_name name constants ≡ false
  pub byte : is_byte_name c.names.byte name ≡ false

pub record AreApart (c : Loop) (constants : Environment) : Type 0 where
  pub text : IsFree c constants c.names.text
  pub from : IsFree c constants c.names.from
  pub new : IsFree c constants c.names.new
  pub index : IsFree c constants c.names.index
  pub from_text : bytes_eq c.names.from c.names.text ≡ false
  pub new_text : bytes_eq c.names.new c.names.text ≡ false
  pub new_from : bytes_eq c.names.new c.names.from ≡ false
  pub index_text : bytes_eq c.names.index c.names.text ≡ false
  pub index_from : bytes_eq c.names.index c.names.from ≡ false
  pub index_new : bytes_eq c.names.index c.names.new ≡ false
