-- Templates that are accepted, and templates that are not.
use Rattle.std.proofs.Common.{◌≡◌, ℕ, true, false, List, [], ◌∷◌, Some, None, refl, codes}
use Rattle.tmpl_grammar.specs.Tree.{Operand, dot, fields, variable, bool_constant, text_constant, nil, Operands, no_operand, operand, Pipeline, no_command, command, unbound, declare, assign, Header}
use Rattle.tmpl_grammar.specs.declared.tree.Control.TheVariants as control
use Rattle.tmpl_syntax.specs.Tree as tree
use Rattle.tmpl_syntax.specs.Tree.{NodeKind, Nodes, text, action, control_node, break_node, template_node}
use Rattle.tmpl_meaning.specs.declared.missing_key.MissingKey.TheVariants as mode
use Rattle.tmpl_shape.specs.Shape.{Shape, nulls, numbers, texts, anything, list_of, record_of, either, named, Defs, no_field, others, field}
use Rattle.tmpl_schema.specs.computed.Check.{Table, handed, absent, is_safe, settle_soon}
use Rattle.tmpl_shape.specs.computed.Shapes.{Base, within, join, has_kind}
use Rattle.std.specs.Prelude.{pos}
use Rattle.tmpl_funcs.specs.declared.func.Func.{Func}
use Rattle.tmpl_funcs.specs.declared.func.Func.TheVariants as func
use Rattle.tmpl_grammar.specs.Tree.{function, group, number_constant, operands_from}

abbrev no_names : Defs
no_names x = None

abbrev plain_base : Base
plain_base = record { defs = no_names; names = 6; limit = 40 }

abbrev none : Table
none name = None

abbrev just : Operand → Pipeline
just o = command (operand o no_operand) no_command

abbrev plain : Operand → Header
plain o = record { binding = unbound; pipeline = just o }

abbrev one : NodeKind → Nodes
one n = tree.then 1 n tree.none

abbrev show : Operand → Nodes
show o = one (action (plain o))

abbrev x : List ℕ
x = codes "x"

abbrev y : List ℕ
y = codes "y"

abbrev user : List ℕ
user = codes "user"

abbrev name : List ℕ
name = codes "name"

abbrev items : List ℕ
items = codes "items"

-- {user?: {name: text} | null, items: [{name: text}], x: number}
abbrev page : Shape
page = record_of (field user false (either nulls (record_of (field name true texts no_field)))
    (field items true (list_of 0 (record_of (field name true texts no_field))) (field x true numbers no_field)))

-- {{.user.name}}: refused where an absent field is null, since null has no fields
unguarded : is_safe plain_base mode.Zero none page (show (fields (user ∷ name ∷ []))) ≡ false
unfolding within join has_kind settle_soon
unguarded = refl

-- {{if .user}}{{.user.name}}{{end}}
guarded : is_safe plain_base mode.Zero none page (one (control_node control.If (plain (fields (user ∷ []))) (show (fields (user ∷ name ∷ []))) tree.none)) ≡ true
unfolding within join has_kind settle_soon
guarded = refl

-- .. is refused where an absent field is a fault, since the `if` asks for it
guarded_error : is_safe plain_base mode.Error none page (one (control_node control.If (plain (fields (user ∷ []))) (show (fields (user ∷ name ∷ []))) tree.none)) ≡ false
unfolding within join has_kind settle_soon
guarded_error = refl

-- {{with .user}}{{.name}}{{end}}
with_user : is_safe plain_base mode.Zero none page (one (control_node control.With (plain (fields (user ∷ []))) (show (fields (name ∷ []))) tree.none)) ≡ true
unfolding within join has_kind settle_soon
with_user = refl

-- {{range .items}}{{.name}}{{end}}
ranged : is_safe plain_base mode.Error none page (one (control_node control.Range (plain (fields (items ∷ []))) (show (fields (name ∷ []))) tree.none)) ≡ true
unfolding within join has_kind settle_soon
ranged = refl

-- {{range .items}}{{.y}}{{end}}
ranged_wrong : is_safe plain_base mode.Error none page (one (control_node control.Range (plain (fields (items ∷ []))) (show (fields (y ∷ []))) tree.none)) ≡ false
unfolding within join has_kind settle_soon
ranged_wrong = refl

-- {{$x := nil-like false}}{{range .items}}{{$x = .name}}{{end}}{{$x}}: the head of the range is settled in two rounds
settles : is_safe plain_base mode.Error none page (tree.then 1 (action (record { binding = declare x; pipeline = just (bool_constant false) }))
    (tree.then 1 (control_node control.Range (plain (fields (items ∷ []))) (one (action (record { binding = assign x; pipeline = just (fields (name ∷ [])) }))) tree.none)
    (show (variable x [])))) ≡ true
unfolding within join has_kind settle_soon
settles = refl

-- .. after which `$x` may be false, which has no fields
settled_wrong : is_safe plain_base mode.Error none page (tree.then 1 (action (record { binding = declare x; pipeline = just (bool_constant false) }))
    (tree.then 1 (control_node control.Range (plain (fields (items ∷ []))) (one (action (record { binding = assign x; pipeline = just dot }))) tree.none)
    (show (variable x (name ∷ []))))) ≡ false
unfolding within join has_kind settle_soon
settled_wrong = refl

-- {{$x := .user}}{{range .items}}{{if $x}}{{$x.name}}{{break}}{{end}}{{$x = .}}{{end}}, in a mode in which an absent field is null
breaks : is_safe plain_base mode.Zero none page (tree.then 1 (action (record { binding = declare x; pipeline = just (fields (user ∷ [])) }))
    (one (control_node control.Range (plain (fields (items ∷ [])))
    (tree.then 1 (control_node control.If (plain (variable x [])) (tree.then 1 (action (plain (variable x (name ∷ [])))) (one break_node)) tree.none)
    (one (action (record { binding = assign x; pipeline = just dot })))) tree.none))) ≡ true
unfolding within join has_kind settle_soon
breaks = refl

abbrev call : Func → List Operand → Operands
call f os = operand (function f) (operands_from os)

-- {{if and .user (gt (len .user.name) 0)}}{{.user.name}}{{end}}: after `and` an operand is known not to be empty
joined_tests : is_safe plain_base mode.Zero none page (one (control_node control.If (record {
  binding = unbound;
  pipeline = command (call func.And (fields (user ∷ []) ∷
      group (command (call func.Gt (group (command (call func.Len (fields (user ∷ name ∷ []) ∷ [])) no_command) [] ∷ number_constant (pos 0) ∷ [])) no_command) [] ∷ [])) no_command;
})
    (show (fields (user ∷ name ∷ []))) tree.none)) ≡ true
unfolding within join has_kind settle_soon
joined_tests = refl

-- {{if not .user}}{{else}}{{.user.name}}{{end}}
denied : is_safe plain_base mode.Zero none page (one (control_node control.If (record { binding = unbound; pipeline = command (call func.Not (fields (user ∷ []) ∷ [])) no_command })
    tree.none (show (fields (user ∷ name ∷ []))))) ≡ true
unfolding within join has_kind settle_soon
denied = refl

-- {{lt .x "a"}}
unordered : is_safe plain_base mode.Error none page (one (action (record { binding = unbound; pipeline = command (call func.Lt (fields (x ∷ []) ∷ text_constant y ∷ [])) no_command }))) ≡ false
unfolding within join has_kind settle_soon
unordered = refl

-- {{.x | print "a" | len}}
piped : is_safe plain_base mode.Error none page (one (action (record {
  binding = unbound;
  pipeline = command (operand (fields (x ∷ [])) no_operand)
      (command (call func.Print (text_constant y ∷ [])) (command (call func.Len []) no_command));
}))) ≡ true
unfolding within join has_kind settle_soon
piped = refl

-- {{template "y" .items}}, where the table has lists of such records for it, and numbers
abbrev of_items : Table
of_items n = Some (handed (list_of 0 (record_of (field name true texts no_field))))

abbrev of_numbers : Table
of_numbers n = Some (handed numbers)

handed_on : is_safe plain_base mode.Error of_items page (one (template_node y (Some (just (fields (items ∷ [])))))) ≡ true
unfolding within join has_kind settle_soon
handed_on = refl

handed_wrong : is_safe plain_base mode.Error of_numbers page (one (template_node y (Some (just (fields (items ∷ [])))))) ≡ false
unfolding within join has_kind settle_soon
handed_wrong = refl

-- trees: {name: text, children: [tree]}
abbrev tree_shape : Shape
tree_shape = record_of (field name true texts (field items true (list_of 0 (named x)) no_field))

abbrev trees : Defs
trees n = Some tree_shape

abbrev tree_base : Base
tree_base = record { defs = trees; names = 6; limit = 40 }

abbrev of_trees : Table
of_trees n = Some (handed (named x))

-- {{define "x"}}{{.name}}{{range .items}}{{template "x" .}}{{end}}{{end}}, which calls itself
walks : is_safe tree_base mode.Error of_trees (named x) (tree.then 1 (action (plain (fields (name ∷ []))))
    (one (control_node control.Range (plain (fields (items ∷ []))) (one (template_node x (Some (just dot)))) tree.none))) ≡ true
unfolding within join has_kind settle_soon
walks = refl

-- .. with the whole list handed on
walks_wrong : is_safe tree_base mode.Error of_trees (named x) (tree.then 1 (action (plain (fields (name ∷ []))))
    (one (control_node control.Range (plain (fields (items ∷ []))) (one (template_node x (Some (just (variable [] (items ∷ [])))))) tree.none))) ≡ false
unfolding within join has_kind settle_soon
walks_wrong = refl

-- {name: text, and any other field}: {{.name}} is accepted, {{.y}} is not
abbrev open_page : Shape
open_page = record_of (field name true texts (others anything))

listed : is_safe plain_base mode.Error none open_page (show (fields (name ∷ []))) ≡ true
unfolding within join has_kind settle_soon
listed = refl

unlisted : is_safe plain_base mode.Error none open_page (show (fields (y ∷ []))) ≡ false
unfolding within join has_kind settle_soon
unlisted = refl

-- {{template "y"}}, which is not there and stops the run: accepted as a stop, and refused where it is none
abbrev stop : Table
stop n = Some absent

stopped : is_safe plain_base mode.Error stop page (one (template_node y None)) ≡ true
unfolding within join has_kind settle_soon
stopped = refl

unknown : is_safe plain_base mode.Error none page (one (template_node y None)) ≡ false
unfolding within join has_kind settle_soon
unknown = refl

-- ---- lists

-- the first of the items, and its name
abbrev first : Operand → Operand
first o = group (command (call func.Index (o ∷ number_constant (pos 0) ∷ [])) no_command) []

abbrev first_name : Operand → Operand
first_name o = group (command (call func.Index (o ∷ number_constant (pos 0) ∷ [])) no_command) (name ∷ [])

abbrev items_field : Operand
items_field = fields (items ∷ [])

-- {{(index .items 0).name}}: refused, since the list may be empty
first_unguarded : is_safe plain_base mode.Error none page (show (first_name items_field)) ≡ false
unfolding within join has_kind settle_soon
first_unguarded = refl

-- {{if .items}}{{(index .items 0).name}}{{end}}
first_guarded : is_safe plain_base mode.Error none page (one (control_node control.If (plain items_field) (show (first_name items_field)) tree.none)) ≡ true
unfolding within join has_kind settle_soon
first_guarded = refl

-- {{with .items}}{{(index . 0).name}}{{end}}
first_with : is_safe plain_base mode.Error none page (one (control_node control.With (plain items_field) (show (first_name dot)) tree.none)) ≡ true
unfolding within join has_kind settle_soon
first_with = refl

-- {{if ne .items nil}}{{index .items 0}}{{end}}: refused, since a list that is there may be empty
there_only : is_safe plain_base mode.Error none page (one (control_node control.If
    (record { binding = unbound; pipeline = command (call func.Ne (items_field ∷ nil ∷ [])) no_command })
    (show (first items_field)) tree.none)) ≡ false
unfolding within join has_kind settle_soon
there_only = refl

-- two texts at least: {{index . 1}} is accepted, {{index . 2}} is not, and no more is {{index (slice . 1) 1}}
abbrev pair : Shape
pair = list_of 2 texts

abbrev item_at : Operand → ℕ → Pipeline
item_at o i = command (call func.Index (o ∷ number_constant (pos i) ∷ [])) no_command

abbrev gives : Pipeline → Nodes
gives p = one (action (record { binding = unbound; pipeline = p }))

second : is_safe plain_base mode.Error none pair (gives (item_at dot 1)) ≡ true
unfolding within join has_kind settle_soon
second = refl

third : is_safe plain_base mode.Error none pair (gives (item_at dot 2)) ≡ false
unfolding within join has_kind settle_soon
third = refl

abbrev rest : Operand
rest = group (command (call func.Slice (dot ∷ number_constant (pos 1) ∷ [])) no_command) []

first_of_rest : is_safe plain_base mode.Error none pair (gives (item_at rest 0)) ≡ true
unfolding within join has_kind settle_soon
first_of_rest = refl

second_of_rest : is_safe plain_base mode.Error none pair (gives (item_at rest 1)) ≡ false
unfolding within join has_kind settle_soon
second_of_rest = refl
