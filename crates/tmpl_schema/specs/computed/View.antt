-- What the program's values that only the check has stand for.
use Rattle.std.specs.Prelude.{ℕ, Bool, true, false, not, List, [], ◌∷◌, ◌++◌, map, Option, Some, None, Vec, option_to_list, if◌then◌else◌}
use Rattle.std.specs.Option.{option_and_then, option_map}
use Rattle.std.specs.Borrow.{Bor}
use Rattle.std.specs.Global.{Global}
use Rattle.tmpl_shape.specs.Shape as spec
use Rattle.tmpl_shape.specs.View.{shape_of}
use Rattle.tmpl_shape.specs.computed.View.{base_of, test_seen}
use Rattle.tmpl_shape.specs.computed.Calls.{call_shape}
use Rattle.tmpl_shape.specs.declared.kind.Kinds.{Kinds}
use Rattle.tmpl_grammar.specs.View.{operand_of, operands_in}
use Rattle.tmpl_grammar.specs.declared.tree.Operand as held_operand
use Rattle.tmpl_schema.specs.declared.facts.Fact as held_fact
use Rattle.tmpl_schema.specs.declared.facts.Head as held_head
use Rattle.tmpl_schema.specs.declared.facts.Head.TheVariants as head
use Rattle.tmpl_schema.specs.declared.facts.Place as held_place
use Rattle.tmpl_schema.specs.computed.Check.{Fact, Head, calls, is_nil, is_value, Place, texts_in}
use Rattle.tmpl_schema.specs.computed.Check.{Known, Variable, Origin, Tie, untied, valued, keyed, State, After, Callee, Table, handed, absent, operand_shapes, after_choice, after_nodes}
use Rattle.tmpl_schema.specs.computed.Check.{after_range, fall_through, past_parts, call_state, command_call, counts_in, narrow_all, narrow_as, piped_fact, turn_known}
use Rattle.tmpl_grammar.specs.Tree.{Header}
use Rattle.tmpl_syntax.specs.Tree.{Nodes}
use Rattle.tmpl_grammar.specs.declared.tree.Control.{Control}
use Rattle.tmpl_grammar.specs.declared.tree.Control.TheVariants as control
use Rattle.std.specs.Str.{bytes_eq}
use Rattle.tmpl_schema.specs.declared.table.Callee as held_callee
use Rattle.tmpl_schema.specs.declared.table.Callee.TheVariants as callee_kind
use Rattle.tmpl_schema.specs.declared.table.Entry as held_entry
use Rattle.tmpl_grammar.specs.Tree.{Operands}
use Rattle.tmpl_funcs.specs.declared.func.Func.{Func}
use Rattle.tmpl_meaning.specs.declared.missing_key.MissingKey.{MissingKey}
use Rattle.tmpl_shape.specs.computed.Shapes as computed
use Rattle.tmpl_shape.specs.computed.Shapes.{kinds_of, visit_of}
use Rattle.tmpl_schema.specs.declared.after.After as held_after
use Rattle.tmpl_schema.specs.declared.known.Known as held_known
use Rattle.tmpl_schema.specs.declared.origin.Tie as held_tie
use Rattle.tmpl_schema.specs.declared.origin.Tie.TheVariants as tie
use Rattle.tmpl_schema.specs.declared.known.Known.{fold-Known}
use Rattle.tmpl_schema.specs.declared.known.Known.TheOpen.{Known-F, Variable-F}
use Rattle.tmpl_schema.specs.declared.known.Variable as held_variable
use Rattle.tmpl_schema.specs.declared.known.Variable.{out-Variable}
use Rattle.tmpl_schema.specs.declared.pipeline.Context as held_context
use Rattle.tmpl_schema.specs.declared.state.State as held_state

abbrev pub origin_of : Option (Vec (List ℕ) Global) → Origin
origin_of o = option_map (λ path. path.items) o

abbrev pub tie_seen : held_tie.Tie → Tie
tie_seen (tie.Valued path) = valued path.items
tie_seen (tie.Keyed path) = keyed path.items
tie_seen tie.Untied = untied

abbrev pub variable_of : held_variable.Variable → Variable
variable_of v = let held = out-Variable v in (held.name, shape_of held.shape.value, tie_seen held.tie)

abbrev pub known_step : Known-F Known Known → Known
known_step Known-F.Empty = []
known_step (Known-F.More v) = v.value

abbrev pub variable_step : Variable-F Known Known → Known
variable_step v = (v.name, shape_of v.shape.value, tie_seen v.tie) ∷ v.older

abbrev pub known_of : held_known.Known → Known
known_of = fold-Known Known Known known_step variable_step

abbrev pub known_seen : Option (Bor held_known.Known) → Option Known
known_seen head = option_map (λ k. known_of k.now) head

-- the variables with which a range may be left
abbrev pub left_of : Option held_known.Known → Option Known
left_of left = option_map known_of left

abbrev pub after_of : held_after.After → After
after_of a = record { env = known_of a.known; left = left_of a.left }

-- the first list has more elements
abbrev pub is_longer : {T : Type 0} → List T → List T → Bool
is_longer [] ys = false
is_longer (x ∷ xs) [] = true
is_longer (x ∷ xs) (y ∷ ys) = is_longer xs ys

abbrev pub state_of : held_state.State → State
state_of k = record { dot = shape_of k.dot.value; from = origin_of k.origin; env = known_of k.known }

-- what is computed where a pipeline stands
abbrev pub in_context : {T : Type 0} → held_context.Context → (computed.Base → MissingKey → State → T) → T
in_context c f = f (base_of c.base.now) c.mode (state_of c.state.now)

abbrev pub head_seen : held_head.Head → Head
head_seen (head.Function f) = calls f
head_seen head.Nil = is_nil
head_seen head.Value = is_value

abbrev pub place_seen : held_place.Place → Place
place_seen p = record { root = option_map (λ name. name.now) p.root; path = p.fields.now ++ texts_in (operands_in p.keys.now) }

abbrev pub fact_seen : held_fact.Fact → Fact
fact_seen f = record { test = test_seen f.test; about = operand_of f.about.now }

-- the function and the operands of a call
abbrev pub call_seen : Func × Bor (List held_operand.Operand) → Func × Operands
call_seen c = (c.0, operands_in c.1.now)

-- of a call's arguments, of which a piped one is the last, the kinds of which they may be
abbrev pub argument_kinds : computed.Base → MissingKey → State → Operands → Option spec.Shape → Option (List Kinds)
argument_kinds base m k os piped = option_map (λ ss. map (kinds_of base) (ss ++ option_to_list piped)) (operand_shapes base m k os)

abbrev pub called_shape : computed.Base → MissingKey → State → Func → Operands → Option spec.Shape → Option spec.Shape
called_shape base m k f os piped =
    option_and_then (λ ss. call_shape base f (ss ++ option_to_list piped)) (operand_shapes base m k os)

-- where a call of these gives what is not empty, or else what is
abbrev pub narrow_call : computed.Base → Bool → Func → Operands → State → State
narrow_call base c f os k = call_state base c f os k (narrow_all base c os k) (narrow_all base (not c) os k)

-- where the value of two commands is so
abbrev pub narrow_piped : computed.Base → Bool → Operands → Operands → State → State
narrow_piped base c os us k = narrow_as base (piped_fact c (counts_in (command_call os)) (command_call us)) k

abbrev pub callee_of : held_callee.Callee → Callee
callee_of (callee_kind.Handed s) = handed (shape_of s)
callee_of callee_kind.Absent = absent

abbrev pub callee_seen : Option (Bor held_callee.Callee) → Option Callee
callee_seen c = option_map (λ c. callee_of c.now) c

abbrev pub table_of : List held_entry.Entry → Table
table_of [] x = None
table_of (e ∷ es) x = if bytes_eq x e.name then Some (callee_of e.callee) else table_of es x

-- after a turn of a range with this body
abbrev pub turn_by : computed.Base → MissingKey → Table → Header → computed.Visit → Origin → Nodes → Known → Option Known
turn_by base m table h v over body = turn_known base h v over (λ l u. after_nodes base m table l None u body)

-- after an `if` or a `with`, and after a range, by their nodes
abbrev pub after_choice_by :
    computed.Base → MissingKey → Table → Option Known → Control → Header → State → Nodes → Nodes → spec.Shape → Option After
after_choice_by base m table loop c h k body other s =
    after_choice base (fall_through table body other) c h k (λ u. after_nodes base m table loop None u body) (λ u. after_nodes base m table loop None u other) s

abbrev pub after_range_by :
    computed.Base → MissingKey → Table → Option Known → Header → State → Nodes → Nodes → spec.Shape → Option After
after_range_by base m table loop h k body other s =
    option_and_then (after_range base (past_parts control.Range table body other) h k (λ l u. after_nodes base m table l None u body)
    (λ u. after_nodes base m table loop None u other)) (visit_of base h.binding s)

-- the entries of a table
abbrev pub entries_of : List held_entry.Entry → List (List ℕ × Callee)
entries_of es = map (λ e. (e.name, callee_of e.callee)) es
