-- The check of a template against a shape, as a function that visits the tree.
use Rattle.std.specs.Prelude.{ℕ, zero, suc, pos, ◌+◌, ◌-◌, ◌==◌, nat_le, Bool, true, false, not, ◌&&◌, ◌||◌, List, [], ◌∷◌, ◌++◌, length, drop}
use Rattle.std.specs.Prelude.{Option, Some, None, option_to_list, unwrap_or, if◌then◌else◌}
use Rattle.std.specs.Option.{option_map, option_map_or, option_and_then}
use Rattle.std.specs.List.{find}
use Rattle.std.specs.Str.{bytes_eq}
use Rattle.tmpl_grammar.specs.Tree.{Operand, dot, fields, variable, bool_constant, number_constant, text_constant, nil}
use Rattle.tmpl_grammar.specs.Tree.{function, group, Operands, no_operand, operand, Pipeline, no_command, command}
use Rattle.tmpl_grammar.specs.Tree.{Binding, unbound, declare, assign, declare_pair, Header}
use Rattle.tmpl_grammar.specs.declared.tree.Control.{Control}
use Rattle.tmpl_grammar.specs.declared.tree.Control.TheVariants as control
use Rattle.tmpl_syntax.specs.Tree as tree
use Rattle.tmpl_syntax.specs.Tree.{NodeKind, text, action, control_node, break_node, continue_node, template_node, Nodes}
use Rattle.tmpl_meaning.specs.declared.missing_key.MissingKey.{MissingKey}
use Rattle.tmpl_meaning.specs.declared.missing_key.MissingKey.TheVariants as mode
use Rattle.tmpl_shape.specs.declared.field.AbsentField.{AbsentField}
use Rattle.tmpl_shape.specs.declared.field.AbsentField.TheVariants as absent_as
use Rattle.tmpl_shape.specs.Shape.{Shape, nothings, numbers, texts, exactly}
use Rattle.tmpl_shape.specs.declared.constant.Constant.TheVariants as constant
use Rattle.tmpl_funcs.specs.Func.{takes}
use Rattle.tmpl_funcs.specs.declared.func.Func.{Func}
use Rattle.tmpl_funcs.specs.declared.func.Func.TheVariants.{And, Or, Not, Len, Index, Eq, Ne, Lt, Le, Gt, Ge}
use Rattle.tmpl_grammar.specs.Tree.{operand_count}
use Rattle.tmpl_shape.specs.declared.kind.Kind.TheVariants.{Blank, Number}
use Rattle.tmpl_shape.specs.computed.Shapes.{Base, Test, has_least, is_among, is_apart, has_kind, within, join, both, fill, null_gone, refine, chain_shape}
use Rattle.tmpl_shape.specs.computed.Shapes.{Key, of_name, of_text, of_place, index_shape, part_shape, Visit, visit_of}
use Rattle.tmpl_shape.specs.computed.Calls.{call_shape, shape_by_function}
use Rattle.tmpl_shape.specs.computed.Formats.{printf_shape}
use Rattle.tmpl_schema.specs.declared.flow.FallThrough.{FallThrough}
use Rattle.tmpl_schema.specs.declared.flow.FallThrough.TheVariants.{Both, Body, Other}

-- the chain of fields from the data of the template at which a value is, but for nothing and null, where that is known
abbrev pub Origin : Type 0
Origin = Option (List (List ℕ))

-- how a variable is tied to the data of the template: it has the value at a chain of fields, or is an index or a key of that
pub data Tie : Type 0 where
  untied : Tie
  valued keyed : List (List ℕ) → Tie

abbrev pub tie_of : Origin → Tie
tie_of None = untied
tie_of (Some ps) = valued ps

abbrev pub key_tie : Origin → Tie
key_tie None = untied
key_tie (Some ps) = keyed ps

-- the chain at which its value is
abbrev pub path_of : Tie → Origin
path_of (valued ps) = Some ps
path_of t = None

-- a variable: its name, its shape and its tie
abbrev pub Variable : Type 0
Variable = List ℕ × Shape × Tie

-- the variables in scope, the newest first, and the newest of a name
abbrev pub Known : Type 0
Known = List Variable

abbrev pub find_variable : List ℕ → Known → Option Variable
find_variable name ks = find (λ k. bytes_eq k.0 name) ks

abbrev pub assigned_shape : List ℕ → Shape → Tie → Known → Known
assigned_shape name s t [] = []
assigned_shape name s t (k ∷ ks) = if bytes_eq k.0 name then (k.0, s, t) ∷ ks else k ∷ assigned_shape name s t ks

-- .. where a header binds them to an element of this shape and provenance, which has a key of what is at a chain
abbrev pub bound_shapes : Binding → Shape → Shape → Origin → Origin → Known → Known
bound_shapes unbound k e over o ks = ks
bound_shapes (declare name) k e over o ks = (name, e, tie_of o) ∷ ks
bound_shapes (assign name) k e over o ks = assigned_shape name e (tie_of o) ks
bound_shapes (declare_pair key name) k e over o ks = (name, e, tie_of o) ∷ (key, k, key_tie over) ∷ ks

-- the oldest, as many as this
abbrev pub last_of : {T : Type 0} → ℕ → List T → List T
last_of n xs = drop (length xs - n) xs

-- what stands for an absent field by the option `missingkey`
abbrev pub absent_field : MissingKey → AbsentField
absent_field mode.Error = absent_as.Fault
absent_field mode.Zero = absent_as.Null
absent_field m = absent_as.Nothing

-- the shape of a text that is written out: an empty one has a shape of its own
abbrev pub text_shape : List ℕ → Shape
text_shape [] = exactly (constant.Text [])
text_shape (b ∷ bs) = texts

-- the shape of an operand to which nothing is piped and no argument given
abbrev pub alone : Option Shape → Option Shape → Operands → Option Shape
alone s None no_operand = s
alone s None (operand o os) = None
alone s (Some piped) os = None

-- the text of a constant
abbrev pub text_of : Operand → Option (List ℕ)
text_of (text_constant bytes) = Some bytes
text_of o = None

-- the operands are constants of texts, and these are their texts
abbrev pub are_texts : Operands → Bool
are_texts no_operand = true
are_texts (operand (text_constant bytes) os) = are_texts os
are_texts (operand o os) = false

abbrev pub texts_in : Operands → List (List ℕ)
texts_in (operand (text_constant bytes) os) = bytes ∷ texts_in os
texts_in os = []

-- the number of a constant that counts from 0 on
abbrev pub count_of : Operand → Option ℕ
count_of (number_constant (pos n)) = Some n
count_of o = None

-- the key that a constant is
abbrev pub key_of : Operand → Option Key
key_of (text_constant bytes) = Some (of_name bytes)
key_of (number_constant (pos n)) = Some (of_place n)
key_of o = None

-- the operand, where there is one
abbrev pub one_of : Operands → Option Operand
one_of (operand o no_operand) = Some o
one_of os = None

-- the bounds of a part that are written out: where it begins, and where it ends if not where the whole does
abbrev pub bounds_of : Option Shape → Operands → Option (ℕ × Option ℕ)
bounds_of (Some piped) os = None
bounds_of None no_operand = Some (0, None)
bounds_of None (operand o no_operand) = option_map (λ i. (i, None)) (count_of o)
bounds_of None (operand o (operand p no_operand)) = option_and_then (λ i. option_map (λ j. (i, Some j)) (count_of p)) (count_of o)
bounds_of None (operand o (operand p (operand q os))) = None

-- the operand is a constant, and not `nil`, or else is `nil`
abbrev pub tells : Bool → Operand → Bool
tells true (bool_constant c) = true
tells true (number_constant n) = true
tells true (text_constant bytes) = true
tells false nil = true
tells c o = false

-- what the first operand of a command is: a function that is called, `nil`, or what gives a value
pub data Head : Type 0 where
  calls : Func → Head
  is_nil : Head
  is_value : Head

abbrev pub head_of : Operand → Head
head_of (function f) = calls f
head_of nil = is_nil
head_of o = is_value

-- the function that a command calls, with its operands, and the one that is the whole pipeline
abbrev pub head_call : Head → Operands → Option (Func × Operands)
head_call (calls f) os = Some (f, os)
head_call h os = None

abbrev pub command_call : Operands → Option (Func × Operands)
command_call (operand o os) = head_call (head_of o) os
command_call no_operand = None

abbrev pub pipeline_call : Pipeline → Option (Func × Operands)
pipeline_call (command os no_command) = command_call os
pipeline_call p = None

-- a chain of fields from dot, or from the variable of a name
pub record Place : Type 0 where
  pub root : Option (List ℕ)
  pub path : List (List ℕ)

-- the place at the end of a chain of fields from dot or a variable, and of these after it
abbrev pub chain_place : Operand → List (List ℕ) → Option Place
chain_place dot ns = Some (record { root = None; path = ns })
chain_place (fields names) ns = Some (record { root = None; path = names ++ ns })
chain_place (variable name names) ns = Some (record { root = Some name; path = names ++ ns })
chain_place o ns = None

-- .. of what `index` gives by keys that are written out
abbrev pub index_place : Operands → Option Place
index_place (operand o os) = if are_texts os then chain_place o (texts_in os) else None
index_place no_operand = None

abbrev pub call_place : Func → Operands → Option Place
call_place Index os = index_place os
call_place f os = None

abbrev pub group_place : Pipeline → List (List ℕ) → Option Place
group_place p [] = option_and_then (λ call. call_place call.0 call.1) (pipeline_call p)
group_place p names = None

-- the place whose value is that of an operand, but for nothing and null
abbrev pub place_of : Operand → Option Place
place_of (group p names) = group_place p names
place_of o = chain_place o []

-- the operand of which a call gives the length
abbrev pub call_counts : Func → Operands → Option Operand
call_counts Len os = one_of os
call_counts f os = None

-- .. of which this gives it
abbrev pub counts_in : Option (Func × Operands) → Option Operand
counts_in c = option_and_then (λ call. call_counts call.0 call.1) c

abbrev pub group_counts : Pipeline → List (List ℕ) → Option Operand
group_counts p [] = counts_in (pipeline_call p)
group_counts p names = None

abbrev pub operand_counts : Operand → Option Operand
operand_counts (group p names) = group_counts p names
operand_counts o = None

-- that an operand has a value of which a test shows what it does
pub record Fact : Type 0 where
  pub test : Test
  pub about : Operand

-- one, where that is more than the number
abbrev pub more_than : ℕ → Option ℕ
more_than n = if n == 0 then Some 1 else None

-- how many items there are at least where their number compared with this one gives true, or else where it gives false
abbrev pub least_by : Bool → Func → ℕ → Option ℕ
least_by true Eq n = Some n
least_by true Ne n = more_than n
least_by true Ge n = Some n
least_by true Gt n = Some (n + 1)
least_by false Eq n = more_than n
least_by false Ne n = Some n
least_by false Lt n = Some n
least_by false Le n = Some (n + 1)
least_by c f n = None

-- the comparison of the second with the first that a comparison of the first with the second is
abbrev pub mirror : Func → Func
mirror Lt = Gt
mirror Le = Ge
mirror Gt = Lt
mirror Ge = Le
mirror f = f

-- by a comparison of the length of an operand with a number
abbrev pub length_fact : Bool → Func → Option Operand → Option ℕ → Option Fact
length_fact c f counted number =
    option_and_then (λ o. option_and_then (λ n. option_map (λ l. record { test = has_least l; about = o }) (least_by c f n)) number) counted

-- each operand is a constant, and not `nil`; and `nil` is the only one
abbrev pub are_constants : Operands → Bool
are_constants no_operand = true
are_constants (operand o os) = tells true o && are_constants os

abbrev pub is_nil_alone : Operands → Bool
is_nil_alone os = option_map_or (tells false) (one_of os) false

-- of what equals one of these, or else none
abbrev pub equal_test : Bool → Operands → Option Test
equal_test true os = if are_constants os then Some (is_among os) else None
equal_test false os = if is_nil_alone os then Some (has_least 0) else Some (is_apart os)

-- by `eq` or `ne`
abbrev pub constant_test : Bool → Func → Operands → Option Test
constant_test c Eq os = equal_test c os
constant_test c Ne os = equal_test (not c) os
constant_test c f os = None

-- the first that there is
abbrev pub first_fact : Option Fact → Option Fact → Option Fact
first_fact (Some fact) more = Some fact
first_fact None more = more

-- by a comparison of two operands of which one is a length
abbrev pub pair_fact : Bool → Func → Operand → Operand → Option Fact
pair_fact c f o p = first_fact (length_fact c f (operand_counts o) (count_of p)) (length_fact c (mirror f) (operand_counts p) (count_of o))

-- by a comparison of a string that is written out with an operand, which is the same as that of the operand with it
abbrev pub turned_by : Bool → Func → Operand → Operand → Option Fact
turned_by c f (text_constant t) p = option_map (λ test. record { test = test; about = p }) (constant_test c f (operand (text_constant t) no_operand))
turned_by c f o p = None

abbrev pub turned_fact : Bool → Func → Operand → Operands → Option Fact
turned_fact c f o os = option_and_then (turned_by c f o) (one_of os)

-- by a comparison of an operand with these
abbrev pub compare_fact : Bool → Func → Operand → Operands → Option Fact
compare_fact c f o os = first_fact (turned_fact c f o os) (first_fact (option_and_then (pair_fact c f o) (one_of os))
    (option_map (λ test. record { test = test; about = o }) (constant_test c f os)))

-- by a call that gives what is not empty, or else what is
abbrev pub call_fact : Bool → Func → Operands → Option Fact
call_fact c Len os = if c then option_map (λ o. record { test = has_least 1; about = o }) (one_of os) else None
call_fact c f no_operand = None
call_fact c f (operand o os) = compare_fact c f o os

-- by a call to which a length is piped
abbrev pub piped_fact : Bool → Option Operand → Option (Func × Operands) → Option Fact
piped_fact c counted call = option_and_then (λ call. length_fact c (mirror call.0) counted
    (option_and_then count_of (one_of call.1))) call

-- what is left of a chain of fields after this one, with which it begins
abbrev pub rest_of : List (List ℕ) → List (List ℕ) → Option (List (List ℕ))
rest_of [] ns = Some ns
rest_of (p ∷ ps) [] = None
rest_of (p ∷ ps) (n ∷ ns) = if bytes_eq p n then rest_of ps ns else None

abbrev pub is_path : List (List ℕ) → List (List ℕ) → Bool
is_path [] [] = true
is_path (p ∷ ps) (n ∷ ns) = bytes_eq p n && is_path ps ns
is_path ps ns = false

-- what is known of the second tie is known of the first
abbrev pub tie_within : Tie → Tie → Bool
tie_within t untied = true
tie_within (valued ps) (valued ns) = is_path ps ns
tie_within (keyed ps) (keyed ns) = is_path ps ns
tie_within t u = false

-- what is known of both
abbrev pub join_ties : Tie → Tie → Tie
join_ties t u = if tie_within t u then u else untied

-- dot and its provenance, and the variables
pub record State : Type 0 where
  pub dot : Shape
  pub from : Origin
  pub env : Known

-- where the value of a place is from
abbrev pub root_origin : State → Option (List ℕ) → Origin
root_origin k root = option_map_or (λ name. option_and_then (λ v. path_of v.2) (find_variable name k.env)) root k.from

abbrev pub place_origin : State → Place → Origin
place_origin k p = option_map (λ ps. ps ++ p.path) (root_origin k p.root)

-- the place of what a command gives, and of what a pipeline does
abbrev pub alone_place : Operand → Operands → Option Place
alone_place o no_operand = place_of o
alone_place o os = None

abbrev pub head_place : Head → Operand → Operands → Option Place
head_place (calls f) o os = call_place f os
head_place h o os = alone_place o os

abbrev pub pipeline_place : Pipeline → Option Place
pipeline_place (command (operand o os) no_command) = head_place (head_of o) o os
pipeline_place p = None

abbrev pub pipeline_origin : State → Pipeline → Origin
pipeline_origin k p = option_and_then (place_origin k) (pipeline_place p)

abbrev pub operand_origin : State → Operand → Origin
operand_origin k o = option_and_then (place_origin k) (place_of o)

-- an operand is a variable that is an index or a key of what is at this chain
abbrev pub is_index : State → Operand → Origin → Bool
is_index k (variable name []) (Some ps) = option_map_or (λ v. tie_within v.2 (keyed ps)) (find_variable name k.env) false
is_index k o from = false

-- what is known of a template that is called: the shape of what it is handed, or that it is not there
pub data Callee : Type 0 where
  handed : Shape → Callee
  absent : Callee

-- .. by their names
abbrev pub Table : Type 0
Table = List ℕ → Option Callee

-- the range's variables are there
abbrev pub holds_loop : Option Known → Known → Bool
holds_loop None ks = true
holds_loop (Some head) ks = nat_le (length head) (length ks)

abbrev pub dot_in : {T : Type 0} → Control → T → T → T
dot_in control.With s d = s
dot_in c s d = d

-- the variables after nodes, and those with which a break or a continue may leave the range around, if one may
pub record After : Type 0 where
  pub env : Known
  pub left : Option Known

-- .. after what leaves no range
abbrev pub past : Known → After
past ks = record { env = ks; left = None }

-- what a check of nodes gives, by what is known before them
abbrev pub Checked : Type 0
Checked = State → Option After

-- a template's start over a value of the shape
abbrev pub at_start : Shape → State
at_start s = record { dot = s; from = Some []; env = ([], s, valued []) ∷ [] }

-- a run never comes past the node
abbrev pub is_absent : Option Callee → Bool
is_absent (Some absent) = true
is_absent c = false

abbrev pub diverges : Table → NodeKind → Bool
diverges table break_node = true
diverges table continue_node = true
diverges table (template_node name given) = is_absent (table name)
diverges table n = false

-- .. past all of them
abbrev pub any_diverges : Table → Nodes → Bool
any_diverges table tree.none = false
any_diverges table (tree.then line n ns) = diverges table n || any_diverges table ns

-- which of the two parts of an `if` or a `with` a run may come past
abbrev pub fall_through : Table → Nodes → Nodes → FallThrough
fall_through table body other = if any_diverges table body then Other else if any_diverges table other then Body else Both

-- of which parts of a control a run may come past: a range goes on past a body that diverges
abbrev pub past_parts : Control → Table → Nodes → Nodes → FallThrough
past_parts control.Range table body other = if any_diverges table other then Body else Both
past_parts c table body other = fall_through table body other

-- the variables, where a header binds them to its value, which has this shape
abbrev pub bind_value : Header → State → Shape → Known → Known
bind_value h k s ks = bound_shapes h.binding nothings s None (pipeline_origin k h.pipeline) ks

-- where a turn of a range begins
abbrev pub in_turn : Header → Visit → Origin → Known → State
in_turn h v over ks = record { dot = v.element; from = None; env = bound_shapes h.binding v.key v.element over None ks }

-- a break or a continue leaves the range with the variables that were there at its head
abbrev pub leave_with : Known → Option Known → Option After
leave_with ks None = None
leave_with ks (Some head) = Some (record { env = ks; left = Some (last_of (length head) ks) })

module _ (base : Base) where
  -- ---- variables

  -- .. where a test shows what it does of a chain from a variable
  abbrev pub refine_variable : Test → List ℕ → List (List ℕ) → Known → Known
  refine_variable test name ns [] = []
  refine_variable test name ns (k ∷ ks) =
      if bytes_eq k.0 name then (k.0, refine base test ns k.1, k.2) ∷ ks else k ∷ refine_variable test name ns ks

  -- the values of a provenance, where this chain from the data of the template is so
  abbrev pub refine_from : Test → List (List ℕ) → Origin → Shape → Shape
  refine_from test ns o s = option_map_or (λ ms. refine base test ms s) (option_and_then (λ ps. rest_of ps ns) o) s

  abbrev pub refine_all : Test → List (List ℕ) → Known → Known
  refine_all test ns [] = []
  refine_all test ns (k ∷ ks) = (k.0, refine_from test ns (path_of k.2) k.1, k.2) ∷ refine_all test ns ks

  -- the same variables, each within the other's shape
  abbrev pub all_within : Known → Known → Bool
  all_within [] [] = true
  all_within (k ∷ ks) (l ∷ ls) = bytes_eq k.0 l.0 && (within base k.1 l.1 && (tie_within k.2 l.2 && all_within ks ls))
  all_within ks ls = false

  -- the same variables, each with the values of both
  abbrev pub join_all : Known → Known → Option Known
  join_all [] [] = Some []
  join_all (k ∷ ks) (l ∷ ls) = if bytes_eq k.0 l.0 then
      option_map (λ js. (k.0, join base k.1 l.1, join_ties k.2 l.2) ∷ js) (join_all ks ls) else None
  join_all ks ls = None

  -- ---- pipelines

  -- what is known where a test shows what it does of the value of a place of which no provenance is known, or else of what has
  -- this one
  abbrev pub narrow_root : Test → Place → State → State
  narrow_root test p k = option_map_or (λ name. record k { env = refine_variable test name p.path k.env })
      p.root (record k { dot = refine base test p.path k.dot })

  abbrev pub narrow_from : Test → List (List ℕ) → State → State
  narrow_from test ns k =
      record k { dot = refine_from test ns k.from k.dot; env = refine_all test ns k.env }

  abbrev pub narrow_at : Test → Place → State → State
  narrow_at test p k = option_map_or (λ ns. narrow_from test ns k) (place_origin k p) (narrow_root test p k)

  abbrev pub narrow_to : Test → Option Place → State → State
  narrow_to test p k = option_map_or (λ p. narrow_at test p k) p k

  -- .. where an operand is so
  abbrev pub narrow_by : Test → Operand → State → State
  narrow_by test o k = narrow_to test (place_of o) k

  abbrev pub narrow_as : Option Fact → State → State
  narrow_as fact k = option_map_or (λ fact. narrow_by fact.test fact.about k) fact k

  -- .. where a call of one operand tells that of the other kind, by what is known where the operand is so
  abbrev pub turned_state : Operands → State → State → State
  turned_state (operand o no_operand) k turned = turned
  turned_state os k turned = k

  -- .. where a call gives what is not empty, or else what is, by what is known where each operand is so, and where each
  -- is not
  abbrev pub call_state : Bool → Func → Operands → State → State → State → State
  call_state c And os k same turned = if c then same else k
  call_state c Or os k same turned = if c then k else same
  call_state c Not os k same turned = turned_state os k turned
  call_state c Index os k same turned = if c then narrow_to (has_least 1) (index_place os) k else k
  call_state c f os k same turned = narrow_as (call_fact c f os) k

  -- .. and a command that begins so, by what is known where its first operand is the whole
  abbrev pub head_state : Bool → Head → Operands → State → State → State → State → State
  head_state c (calls f) os k alone same turned = call_state c f os k same turned
  head_state c h no_operand k alone same turned = alone
  head_state c h os k alone same turned = k

  -- .. where a pipeline in parentheses is so, of which nothing is known where fields of it are asked for
  abbrev pub group_state : List (List ℕ) → State → State → State
  group_state [] k inside = inside
  group_state names k inside = k

  abbrev mutual
    -- .. where an operand is not empty, or else where it is, and where each of these is so
    pub narrow_operand : Bool → Operand → State → State
    narrow_operand c (group p names) k = group_state names k (narrow c p k)
    narrow_operand c o k = if c then narrow_by (has_least 1) o k else k

    pub narrow_all : Bool → Operands → State → State
    narrow_all c no_operand k = k
    narrow_all c (operand o os) k = narrow_all c os (narrow_operand c o k)

    pub narrow_command : Bool → Operands → State → State
    narrow_command c (operand o os) k =
        head_state c (head_of o) os k (narrow_operand c o k) (narrow_all c os k) (narrow_all (not c) os k)
    narrow_command c no_operand k = k

    -- .. where the value of a pipeline is not empty, or else where it is
    pub narrow : Bool → Pipeline → State → State
    narrow c (command os no_command) k = narrow_command c os k
    narrow c (command os (command us no_command)) k =
        narrow_as (piped_fact c (counts_in (command_call os)) (command_call us)) k
    narrow c p k = k

  -- the values that decide an `or`, or else an `and`, and those that do not
  abbrev pub deciding_shape : Bool → Shape → Shape
  deciding_shape is_or s = if is_or then fill base s else s

  abbrev pub passing_shape : Bool → Shape → Shape
  passing_shape is_or s = if is_or then s else fill base s

  -- after an operand that does not decide
  abbrev pub passed : Bool → Operand → State → State
  passed is_or o k = narrow_operand (not is_or) o k

  -- what `index` gives for a key of this shape, which has to be a text
  abbrev pub entry_by : Shape → Shape → Option Shape
  entry_by key s = if within base key texts then index_shape base of_text s else None

  -- .. for one of its own keys, or for an index of a list
  abbrev pub own_entry : Shape → Option Shape
  own_entry s = if has_kind base Blank s || has_kind base Number s then None else option_map (λ v. v.element) (visit_of base unbound s)

  -- .. for a key that is written out, or has the shape
  abbrev pub entry_for : Option Key → Shape → Shape → Option Shape
  entry_for (Some k) key s = index_shape base k s
  entry_for None key s = entry_by key s

  -- .. for the value of this operand
  abbrev pub entry_at : State → Operand → Origin → Shape → Shape → Option Shape
  entry_at k o from key s = if is_index k o from then own_entry s else entry_for (key_of o) key s

  abbrev mutual
    pub operand_shape : MissingKey → State → Operand → Option Shape
    operand_shape m k dot = Some k.dot
    operand_shape m k (fields names) = chain_shape base (absent_field m) names k.dot
    operand_shape m k (variable name names) = option_and_then (λ v. chain_shape base (absent_field m) names v.1) (find_variable name k.env)
    operand_shape m k (bool_constant c) = Some (exactly (constant.Bool c))
    operand_shape m k (number_constant n) = Some numbers
    operand_shape m k (text_constant bytes) = Some (text_shape bytes)
    operand_shape m k nil = Some nothings
    operand_shape m k (function f) = if takes f 0 then call_shape base f [] else None
    operand_shape m k (group p names) = option_and_then (chain_shape base (absent_field m) names) (commands_shape m k p None)

    pub operand_shapes : MissingKey → State → Operands → Option (List Shape)
    operand_shapes m k no_operand = Some []
    operand_shapes m k (operand o os) =
        option_and_then (λ s. option_map (λ ss. s ∷ ss) (operand_shapes m k os)) (operand_shape m k o)

    -- the operands of an `and` or an `or`, each known to be after those before it
    pub junction_shape : Bool → MissingKey → State → Shape → Operands → Option Shape → Option Shape
    junction_shape is_or m k last no_operand piped = Some (unwrap_or piped last)
    junction_shape is_or m k last (operand o os) piped =
        option_and_then (λ s. both base (Some (deciding_shape is_or s))
        (junction_shape is_or m (passed is_or o k) (passing_shape is_or s) os piped)) (operand_shape m k o)

    -- what `index` gives of values of the shape, and of this provenance, for all its keys
    pub entry_along : MissingKey → State → Operands → Option Shape → Origin → Shape → Option Shape
    entry_along m k no_operand None from s = Some s
    entry_along m k no_operand (Some key) from s = entry_by key s
    entry_along m k (operand o os) piped from s =
        option_and_then (λ key. option_and_then (entry_along m k os piped None) (entry_at k o from key s)) (operand_shape m k o)

    -- the operands of an `index`, of which the first may not be nothing
    pub indexed_shape : MissingKey → State → Operands → Option Shape → Option Shape
    indexed_shape m k no_operand piped = None
    indexed_shape m k (operand o os) piped =
        option_and_then (λ s. if has_kind base Blank s then None else entry_along m k os piped (operand_origin k o) s) (operand_shape m k o)

    -- the operands of a `slice`, whose bounds are written out
    pub sliced_shape : MissingKey → State → Operands → Option Shape → Option Shape
    sliced_shape m k no_operand piped = None
    sliced_shape m k (operand o os) piped =
        option_and_then (λ s. option_and_then (λ b. part_shape base b.0 b.1 s) (bounds_of piped os)) (operand_shape m k o)

    -- the operands of a `printf`, whose format is written out
    pub printed_shape : MissingKey → State → Operands → Option Shape → Option Shape
    printed_shape m k no_operand piped = None
    printed_shape m k (operand o os) piped =
        option_and_then (λ format. option_and_then (λ ss. printf_shape base format (ss ++ option_to_list piped))
        (operand_shapes m k os)) (text_of o)

    pub command_shape : MissingKey → State → Operands → Option Shape → Option Shape
    command_shape m k (operand (function f) os) piped =
        if takes f (operand_count os + length (option_to_list piped)) then
        shape_by_function f (option_and_then (λ ss. call_shape base f (ss ++ option_to_list piped)) (operand_shapes m k os))
        (junction_shape false m k nothings os piped) (junction_shape true m k nothings os piped)
        (indexed_shape m k os piped) (sliced_shape m k os piped) (printed_shape m k os piped) else None
    command_shape m k (operand nil os) piped = None
    command_shape m k (operand o os) piped = alone (operand_shape m k o) piped os
    command_shape m k no_operand piped = None

    pub commands_shape : MissingKey → State → Pipeline → Option Shape → Option Shape
    commands_shape m k no_command piped = Some (unwrap_or piped nothings)
    commands_shape m k (command os cs) piped =
        option_and_then (λ s. commands_shape m k cs (Some (null_gone base s))) (command_shape m k os piped)

  -- the shape of a pipeline's value, if it never is a fault
  abbrev pub pipeline_shape : MissingKey → State → Pipeline → Option Shape
  pipeline_shape m k p = commands_shape m k p None

  -- ---- nodes

  -- the values of both; where neither are among the other, but both among the third, those of the third
  abbrev pub is_split : Shape → Shape → Shape → Bool
  is_split r s t = not (within base s t || within base t s) && (within base s r && within base t r)

  abbrev pub join_to : Shape → Shape → Shape → Shape
  join_to r s t = if is_split r s t then r else join base s t

  -- the same variables, each with the values of both, by what was known of them before
  abbrev pub join_parts : Known → Known → Known → Option Known
  join_parts [] [] [] = Some []
  join_parts (r ∷ rs) (k ∷ ks) (l ∷ ls) = if bytes_eq k.0 l.0 then
      option_map (λ js. (k.0, join_to r.1 k.1 l.1, join_ties k.2 l.2) ∷ js) (join_parts rs ks ls) else None
  join_parts rs ks ls = None

  -- the variables that were there before, after two parts
  abbrev pub after_both : Known → Known → Known → Option Known
  after_both rs ks ls = join_parts rs (last_of (length rs) ks) (last_of (length rs) ls)

  -- the variables at the head of a range, if a turn keeps these; else those that are found from what a turn adds
  abbrev pub settle_step : (Known → Option Known) → (Known → Option Known) → Known → Option Known
  settle_step more turn ks =
      option_and_then (λ end. if all_within end ks then Some ks else option_and_then more (join_all ks end)) (turn ks)

  -- .. looked for in as many rounds as this
  abbrev pub settle_known : ℕ → (Known → Option Known) → Known → Option Known
  settle_known zero turn ks = None
  settle_known (suc n) turn ks = settle_step (settle_known n turn) turn ks

  unfoldable pub settle_soon : (Known → Option Known) → Known → Option Known
  settle_soon turn ks = settle_known 12 turn ks

  -- the variables of both, where the second may be none, and where each may
  abbrev pub with_left : Known → Option Known → Option Known
  with_left ks None = Some ks
  with_left ks (Some ls) = join_all ks ls

  abbrev pub join_left : Option Known → Option Known → Option (Option Known)
  join_left None ls = Some ls
  join_left (Some ks) ls = option_map (λ js. Some js) (with_left ks ls)

  -- the variables after a turn, however it ends
  abbrev pub turn_known : Header → Visit → Origin → (Option Known → Checked) → Known → Option Known
  turn_known h v over body ks = option_and_then (λ a. with_left (last_of (length ks) a.env) a.left) (body (Some ks) (in_turn h v over ks))

  -- where an `if` or a `with` whose value is not empty, or else is, goes on with a part, in which it has this shape
  abbrev pub in_part : Bool → Header → State → Shape → State
  in_part c h k s = let u = narrow c h.pipeline k in record u { env = bind_value h k s u.env }

  -- .. with its body
  abbrev pub in_body : Control → Header → State → Shape → State
  in_body c h k s =
      let u = in_part true h k (fill base s) in
      record u { dot = dot_in c (fill base s) u.dot; from = dot_in c (pipeline_origin k h.pipeline) u.from }

  -- .. of which a run may come past these
  abbrev pub after_parts : FallThrough → Known → Known → Known → Option Known
  after_parts Both rs ks ls = after_both rs ks ls
  after_parts Body rs ks ls = Some (last_of (length rs) ks)
  after_parts Other rs ks ls = Some (last_of (length rs) ls)

  -- .. with those with which one of the two leaves the range around
  abbrev pub end_parts : FallThrough → Known → After → After → Option After
  end_parts w rs a b =
      option_and_then (λ ks. option_map (λ ls. record { env = ks; left = ls }) (join_left a.left b.left)) (after_parts w rs a.env b.env)

  abbrev pub after_choice : FallThrough → Control → Header → State → Checked → Checked → Shape → Option After
  after_choice w c h k body other s =
      option_and_then (λ a. option_and_then (end_parts w k.env a) (other (in_part false h k s))) (body (in_body c h k s))

  -- what is known of dot after them
  abbrev pub dot_by : FallThrough → Pipeline → State → Shape
  dot_by Both p k = k.dot
  dot_by Body p k = (narrow true p k).dot
  dot_by Other p k = (narrow false p k).dot

  -- .. after a node
  abbrev pub dot_after : Table → State → NodeKind → Shape
  dot_after table k (control_node c h body other) = dot_by (past_parts c table body other) h.pipeline k
  dot_after table k n = k.dot

  -- where the first turn of a range begins: what it ranges over is not empty
  abbrev pub at_head : Header → State → Known
  at_head h k = (narrow true h.pipeline k).env

  abbrev pub after_range : FallThrough → Header → State → (Option Known → Checked) → Checked → Visit → Option After
  after_range w h k body other v =
      option_and_then (λ head. option_and_then (end_parts w k.env (past head)) (other k)) (settle_soon (turn_known h v (pipeline_origin k h.pipeline) body) (at_head h k))

  abbrev pub after_control :
      FallThrough → Control → Option Known → Header → State → (Option Known → Checked) → Checked → Shape → Option After
  after_control w control.Range loop h k body other s =
      option_and_then (after_range w h k body other) (visit_of base h.binding s)
  after_control w c loop h k body other s = after_choice w c h k (body loop) other s

  -- where a template that is known is handed a value of the shape
  abbrev pub after_call : Callee → Known → Option Shape → Option After
  after_call absent ks given = Some (past ks)
  after_call (handed t) ks given = option_and_then (λ s. if within base s t then Some (past ks) else None) given

  abbrev mutual
    -- the variables after a node, if it has no fault but those that may come
    pub after_node : MissingKey → Table → Option Known → State → NodeKind → Option After
    after_node m table loop k (text bytes) = Some (past k.env)
    after_node m table loop k (action h) =
        option_map (λ s. past (bind_value h k s k.env)) (pipeline_shape m k h.pipeline)
    after_node m table loop k (control_node c h body other) =
        if holds_loop loop k.env then option_and_then
        (after_control (past_parts c table body other) c loop h k (λ l u. after_nodes m table l None u body) (λ u. after_nodes m table loop None u other))
        (pipeline_shape m k h.pipeline) else None
    after_node m table loop k break_node = leave_with k.env loop
    after_node m table loop k continue_node = leave_with k.env loop
    after_node m table loop k (template_node name given) =
        option_and_then (λ c. after_call c k.env (option_map_or (pipeline_shape m k) given (Some nothings))) (table name)

    -- .. after nodes, where those before them leave the range with these
    pub after_nodes : MissingKey → Table → Option Known → Option Known → State → Nodes → Option After
    after_nodes m table loop left k tree.none = Some (record { env = k.env; left = left })
    after_nodes m table loop left k (tree.then line n ns) =
        option_and_then (λ a. option_and_then (λ ls. after_nodes m table loop ls (record k { dot = dot_after table k n; env = a.env }) ns)
        (join_left left a.left)) (after_node m table loop k n)

  -- the nodes of a template are accepted for values of the shape
  abbrev pub is_safe : MissingKey → Table → Shape → Nodes → Bool
  is_safe m table s ns = option_map_or (λ a. true) (after_nodes m table None None (at_start s) ns) false
