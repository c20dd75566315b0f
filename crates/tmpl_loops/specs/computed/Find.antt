-- The parts of copy loops, by tests of nodes.
use Rattle.std.specs.Prelude.{◌≡◌, ◌&&◌, pos, ℕ, nat_eq, Bool, true, false, not, List, [], ◌∷◌, bytes_eq, Option, Some, None, if◌then◌else◌}
use Rattle.std.specs.Option.{option_and_then, option_map, option_map_or}
use Rattle.tmpl_grammar.specs.Tree.{Operand, dot, bool_constant, number_constant, Operands, Pipeline, Binding, unbound, declare, assign, Header}
use Rattle.tmpl_grammar.specs.declared.tree.Control.{Control}
use Rattle.tmpl_grammar.specs.declared.tree.Control.TheVariants as control
use Rattle.tmpl_funcs.specs.declared.func.Func.{Func}
use Rattle.tmpl_funcs.specs.declared.func.Func.TheVariants.{Len, Not}
use Rattle.tmpl_syntax.specs.Tree as tree
use Rattle.tmpl_syntax.specs.Tree.{NodeKind, action, control_node, Nodes}
use Rattle.tmpl_loops.specs.Form.{AreApart, Loop, Names, are_variables, constants_after, copy_loop, call_in, indexes, is_variable, lone, slices}

-- ---- pipelines

abbrev pub counts : List (List ℕ) → Func → Operands → Bool
counts ns Len os = are_variables ns os
counts ns f os = false

abbrev pub negates : List (List ℕ) → Func → Operands → Bool
negates ns Not os = are_variables ns os
negates ns f os = false

-- a call that passes a test
abbrev pub is_call : (Func → Operands → Bool) → Pipeline → Bool
is_call test p = option_map_or (λ call. test call.0 call.1) (call_in p) false

abbrev pub is_dot : Operand → Bool
is_dot dot = true
is_dot o = false

abbrev pub is_zero : Operand → Bool
is_zero (number_constant (pos n)) = nat_eq n 0
is_zero o = false

abbrev pub is_no : Operand → Bool
is_no (bool_constant b) = not b
is_no o = false

-- what an operand is held to that is a whole pipeline: dot, 0, false, or the variable of a name
pub data Wanted : Type 0 where
  the_dot the_zero the_no : Wanted
  the_variable : List ℕ → Wanted

abbrev pub is_wanted : Wanted → Option Operand → Bool
is_wanted w None = false
is_wanted the_dot (Some o) = is_dot o
is_wanted the_zero (Some o) = is_zero o
is_wanted the_no (Some o) = is_no o
is_wanted (the_variable name) (Some o) = is_variable name o

-- ---- nodes

-- the name and the pipeline of a variable that is declared, and of one that is assigned
abbrev pub declared : Binding → Pipeline → Option (List ℕ × Pipeline)
declared (declare name) p = Some (name, p)
declared b p = None

abbrev pub assigned : Binding → Pipeline → Option (List ℕ × Pipeline)
assigned (assign name) p = Some (name, p)
assigned b p = None

abbrev pub plain : Binding → Pipeline → Option Pipeline
plain unbound p = Some p
plain b p = None

abbrev pub declares : NodeKind → Option (List ℕ × Pipeline)
declares (action h) = declared h.binding h.pipeline
declares x = None

abbrev pub assigns : NodeKind → Option (List ℕ × Pipeline)
assigns (action h) = assigned h.binding h.pipeline
assigns x = None

abbrev pub shows : NodeKind → Option Pipeline
shows (action h) = plain h.binding h.pipeline
shows x = None

-- an `if` with no other part
abbrev pub if_alone : Control → Header → Nodes → Nodes → Option (Pipeline × Nodes)
if_alone control.If h body tree.none = option_map (λ p. (p, body)) (plain h.binding h.pipeline)
if_alone c h body other = None

abbrev pub ifs : NodeKind → Option (Pipeline × Nodes)
ifs (control_node c h body other) = if_alone c h body other
ifs x = None

-- a range with one variable and no other part
abbrev pub range_alone : Control → Header → Nodes → Nodes → Option ((List ℕ × Pipeline) × Nodes)
range_alone control.Range h body tree.none = option_map (λ d. (d, body)) (declared h.binding h.pipeline)
range_alone c h body other = None

abbrev pub ranges : NodeKind → Option ((List ℕ × Pipeline) × Nodes)
ranges (control_node c h body other) = range_alone c h body other
ranges x = None

-- ---- the parts of a loop

-- the variable that the first node declares by what passes a test, and the nodes after it
abbrev pub declared_so : Wanted → Nodes → Option (List ℕ × Pipeline) → Option (List ℕ × Nodes)
declared_so w xs (Some d) = if is_wanted w (lone d.1) then Some (d.0, xs) else None
declared_so w xs None = None

abbrev pub first_declared : Wanted → Nodes → Option (List ℕ × Nodes)
first_declared w tree.none = None
first_declared w (tree.then line x xs) = declared_so w xs (declares x)

-- the nodes after texts
abbrev pub after_texts : Nodes → Nodes
after_texts (tree.then line (tree.text bytes) xs) = after_texts xs
after_texts xs = xs

-- the names of the text, of where the bytes begin and of whether they begin anew, and the nodes after these and texts
abbrev pub Start : Type 0
Start = List ℕ × List ℕ × List ℕ × Nodes

abbrev pub start_of : Nodes → Option Start
start_of ns = option_and_then (λ a. option_and_then (λ b. option_map (λ c. (a.0, b.0, c.0, after_texts c.1))
    (first_declared the_no b.1)) (first_declared the_zero a.1)) (first_declared the_dot ns)

-- the name of the index and the body, where the first node is the range, and the nodes after it
abbrev pub ranged_so : List ℕ → Nodes → Option ((List ℕ × Pipeline) × Nodes) → Option (List ℕ × Nodes × Nodes)
ranged_so text xs (Some r) = if is_call (counts (text ∷ [])) r.0.1 then Some (r.0.0, r.1, xs) else None
ranged_so text xs None = None

abbrev pub first_range : List ℕ → Nodes → Option (List ℕ × Nodes × Nodes)
first_range text tree.none = None
first_range text (tree.then line x xs) = ranged_so text xs (ranges x)

-- the name of the byte, where the first node declares it, and the nodes after it
abbrev pub byte_so : List (List ℕ) → Nodes → Option (List ℕ × Pipeline) → Option (List ℕ × Nodes)
byte_so ns xs (Some d) = if is_call (indexes ns) d.1 then Some (d.0, xs) else None
byte_so ns xs None = None

abbrev pub first_byte : List ℕ → List ℕ → Nodes → Option (List ℕ × Nodes)
first_byte text index tree.none = None
first_byte text index (tree.then line x xs) = byte_so (text ∷ index ∷ []) xs (declares x)

-- the nodes after the first, where that is an assignment to a variable by what passes a test
abbrev pub assigned_so : List ℕ → Wanted → Nodes → Option (List ℕ × Pipeline) → Option Nodes
assigned_so name w xs (Some d) = if bytes_eq d.0 name && is_wanted w (lone d.1) then Some xs else None
assigned_so name w xs None = None

abbrev pub first_assigned : List ℕ → Wanted → Nodes → Option Nodes
first_assigned name w tree.none = None
first_assigned name w (tree.then line x xs) = assigned_so name w xs (assigns x)

abbrev pub is_end : Nodes → Bool
is_end tree.none = true
is_end (tree.then line x xs) = false

-- {{$from = $i}}{{$is_new = false}}
abbrev pub begins : List ℕ → List ℕ → List ℕ → Nodes → Bool
begins from new index ns =
    option_map_or is_end (option_and_then (first_assigned new the_no) (first_assigned from (the_variable index) ns)) false

-- the nodes after the first, where that is {{if $is_new}}{{$from = $i}}{{$is_new = false}}{{end}}
abbrev pub begun_so : List ℕ → List ℕ → List ℕ → Nodes → Option (Pipeline × Nodes) → Option Nodes
begun_so from new index xs (Some b) =
    if is_wanted (the_variable new) (lone b.0) && begins from new index b.1 then Some xs else None
begun_so from new index xs None = None

abbrev pub first_begun : List ℕ → List ℕ → List ℕ → Nodes → Option Nodes
first_begun from new index tree.none = None
first_begun from new index (tree.then line x xs) = begun_so from new index xs (ifs x)

-- {{slice $text $from}}
abbrev pub rest_so : List (List ℕ) → Nodes → Option Pipeline → Bool
rest_so ns xs (Some p) = is_end xs && is_call (slices ns) p
rest_so ns xs None = false

abbrev pub is_rest : List ℕ → List ℕ → Nodes → Bool
is_rest text from tree.none = false
is_rest text from (tree.then line x xs) = rest_so (text ∷ from ∷ []) xs (shows x)

-- the nodes after the first, where that is {{if not $is_new}}{{slice $text $from}}{{end}}
abbrev pub ended_so : List ℕ → List ℕ → List ℕ → Nodes → Option (Pipeline × Nodes) → Option Nodes
ended_so text from new xs (Some b) = if is_call (negates (new ∷ [])) b.0 && is_rest text from b.1 then Some xs else None
ended_so text from new xs None = None

abbrev pub first_ended : List ℕ → List ℕ → List ℕ → Nodes → Option Nodes
first_ended text from new tree.none = None
first_ended text from new (tree.then line x xs) = ended_so text from new xs (ifs x)

-- the names of a loop, what its turns do after they begin, and what stands behind it
pub record Parts : Type 0 where
  pub text : List ℕ
  pub from : List ℕ
  pub new : List ℕ
  pub index : List ℕ
  pub byte : List ℕ
  pub steps : Nodes
  pub tail : Nodes

-- .. by a start, where the range is this one
abbrev pub parts_in : Start → List ℕ × Nodes × Nodes → Option Parts
parts_in s r = option_and_then (λ b. option_and_then (λ steps. option_map (λ tail. record {
  text = s.0;
  from = s.1;
  new = s.2;
  index = r.0;
  byte = b.0;
  steps = steps;
  tail = tail;
}) (first_ended s.0 s.1 s.2 r.2)) (first_begun s.1 s.2 r.0 b.1)) (first_byte s.0 r.0 r.1)

abbrev pub parts_after : Start → Option Parts
parts_after s = option_and_then (parts_in s) (first_range s.0 s.3)

abbrev pub parts_of : Nodes → Option Parts
parts_of ns = option_and_then parts_after (start_of ns)

abbrev pub differ : List ℕ → List ℕ → Bool
differ a b = not (bytes_eq a b)

-- the names differ
abbrev pub are_apart : Parts → Bool
are_apart p = differ p.byte p.text && (differ p.byte p.from && (differ p.byte p.new && (differ p.byte p.index
    && (differ p.from p.text && (differ p.new p.text && (differ p.new p.from && (differ p.index p.text
    && (differ p.index p.from && differ p.index p.new))))))))

abbrev pub names_of : Parts → Names
names_of p = record { text = p.text; from = p.from; new = p.new; index = p.index; byte = Some p.byte }

-- what is found is a copy loop
abbrev pub FindsLoops : Type 0
FindsLoops = (ns : Nodes) (p : Parts) → parts_of ns ≡ Some p → is_end (after_texts p.tail) ≡ true → are_apart p ≡ true
    → (c : Loop) × (ns ≡ copy_loop c) × (constants_after c.before [] ≡ Some []) × AreApart c [] × (c.names ≡ names_of p)
    × (c.by_byte ≡ p.steps)
