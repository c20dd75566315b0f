-- Not needed by any proof: what the meaning says where no row of tests/ can show it, computed: which runs make text, and what no file spells.
use Rattle.std.proofs.Common.{◌≡◌, ℕ, true, false, List, [], ◌∷◌, Some, None, refl, codes}
use Rattle.std.specs.Prelude.{pos}
use Rattle.tmpl_values.specs.Text.{text_of}
use Rattle.tmpl_values.specs.Value.{Value, nothing, null, number, string, sequence, mapping, no_item, item, no_entry, entry}
use Rattle.tmpl_funcs.specs.declared.func.Func.TheVariants.{And, Not, Index, Print, Println, Printf, Html, Urlquery}
use Rattle.tmpl_funcs.specs.declared.fault.CallFault.TheVariants.{WrongCount, WrongKind}
use Rattle.tmpl_grammar.specs.Tree.{Operand, dot, fields, variable, text_constant, function, group, Operands}
use Rattle.tmpl_grammar.specs.Tree.{no_operand, operand, no_command, command, Pipeline, Binding, unbound, declare, assign}
use Rattle.tmpl_grammar.specs.declared.tree.Control.TheVariants as control
use Rattle.tmpl_syntax.specs.Tree.{NodeKind, Nodes, Tree, none, then, text, action, control_node, break_node, continue_node, template_node}
use Rattle.tmpl_meaning.specs.Laws.{with_older, within}
use Rattle.tmpl_meaning.specs.Meaning.{Ran, Run, Cause, Rules, call_failed, lacks_field, meanings, ran}
use Rattle.tmpl_syntax.specs.Set.{Template}
use Rattle.tmpl_meaning.specs.declared.missing_key.MissingKey.TheVariants.{Default}
use Rattle.tmpl_meaning.specs.declared.missing_key.MissingKey.{MissingKey}

-- ---- short ways to write them

abbrev a : List ℕ
a = codes "a"

abbrev b : List ℕ
b = codes "b"

abbrev x : List ℕ
x = codes "x"

abbrev only : Operand → Pipeline
only o = command (operand o no_operand) no_command

abbrev put : Operand → NodeKind
put o = action (record { binding = unbound; pipeline = only o })

abbrev set : Binding → Operand → NodeKind
set b o = action (record { binding = b; pipeline = only o })

abbrev if_dot : Nodes → Nodes → NodeKind
if_dot body other = control_node control.If (record { binding = unbound; pipeline = only dot }) body other

abbrev one : ℕ → Value
one n = number (pos n)

abbrev three : Value
three = sequence (item (string (codes "1")) (item (string (codes "2")) (item (string (codes "3")) no_item)))

abbrev tree_of : Nodes → Tree
tree_of ns = record { file = codes "f"; nodes = ns }

abbrev rules : MissingKey → ℕ → ℕ → Rules
rules mode steps depth = record { missing_key = mode; step_limit = steps; depth_limit = depth }

-- a run with this many steps over this dot
abbrev run : ℕ → Nodes → Value → Ran
run steps ns d = ran (rules Default steps 1000) [] (codes "t") (tree_of ns) (Some d)

abbrev puts : List ℕ → Ran
puts bytes = record { text = bytes; fault = None; made_text = false }

abbrev stops : List ℕ → ℕ → Cause → Ran
stops bytes line cause =
    record { text = bytes; fault = Some (record { file = codes "f"; line = line; template = codes "t"; cause = cause }); made_text = false }

-- ---- texts that are made

abbrev runs : Nodes → Value → Ran
runs ns d = run 20 ns d

abbrev call : Operands → Pipeline
call os = command os no_command

abbrev calls : Operands → NodeKind
calls os = action (record { binding = unbound; pipeline = call os })

abbrev letter : Operand
letter = text_constant (codes "a")

abbrev puts_made : List ℕ → Ran
puts_made bytes = record (puts bytes) { made_text = true }

abbrev stops_made : List ℕ → ℕ → Cause → Ran
stops_made bytes line cause = record (stops bytes line cause) { made_text = true }

-- {{print "a"}}
print-makes-text : runs (then 1 (calls (operand (function Print) (operand letter no_operand))) none) nothing ≡ puts_made (codes "a")
print-makes-text = refl

-- {{not print}}: a function as an argument is a call of it
bare-print-makes-text : runs (then 1 (calls (operand (function Not) (operand (function Print) no_operand))) none) nothing ≡ puts_made (codes "true")
bare-print-makes-text = refl

-- {{printf}}: the number of its arguments is refused before it makes anything
printf-without-a-format : runs (then 1 (calls (operand (function Printf) no_operand)) none) nothing ≡ stops [] 1 (call_failed Printf WrongCount)
printf-without-a-format = refl

-- {{printf .}} of nothing: it was called with all its arguments
printf-of-a-wrong-kind : runs (then 1 (calls (operand (function Printf) (operand dot no_operand))) none) nothing
    ≡ stops_made [] 1 (call_failed Printf WrongKind)
printf-of-a-wrong-kind = refl

-- {{print .a.b}}: an operand without a value, so no call
print-of-a-fault : runs (then 1 (calls (operand (function Print) (operand (fields (a ∷ b ∷ [])) no_operand))) none) (mapping (entry a null no_entry))
    ≡ stops [] 1 (lacks_field b)
print-of-a-fault = refl

-- {{and "" (print "a")}}: the call after the deciding operand is none
cut-off-by-and : runs (then 1 (calls (operand (function And) (operand (text_constant [])
    (operand (group (command (operand (function Print) (operand letter no_operand)) no_command) []) no_operand)))) none) nothing ≡ puts []
cut-off-by-and = refl

-- {{print "a"}}{{.a.b}}: the mark stays
made-before-a-fault : runs (then 1 (calls (operand (function Print) (operand letter no_operand))) (then 2 (put (fields (a ∷ b ∷ []))) none))
    (mapping (entry a null no_entry)) ≡ stops_made (codes "a") 2 (lacks_field b)
made-before-a-fault = refl

-- {{if .}}{{print "a"}}{{end}}, which is not taken
not-taken : runs (then 1 (if_dot (then 1 (calls (operand (function Print) (operand letter no_operand))) none) none) none) nothing ≡ puts []
not-taken = refl

-- {{html}}, {{urlquery}} and {{println}} make text, and {{index .}} does not
html-makes-text : runs (then 1 (put (function Html)) (then 1 (put (function Urlquery)) none)) nothing ≡ puts_made []
html-makes-text = refl

println-makes-text : runs (then 1 (put (function Println)) none) nothing ≡ puts_made (codes "\n")
println-makes-text = refl

index-makes-none : runs (then 1 (calls (operand (function Index) (operand dot no_operand))) none) (string (codes "s")) ≡ puts (codes "s")
index-makes-none = refl

-- ---- what no file spells

-- the template t in the file f, and these of the file g
abbrev beside : List ℕ → Nodes → Template
beside name ns = (name, record { file = codes "g"; nodes = ns })

abbrev run_with : ℕ → ℕ → List Template → Nodes → Value → Ran
run_with steps depth set ns d = ran (rules Default steps depth) set (codes "t") (tree_of ns) (Some d)

abbrev bare_call : List ℕ → Nodes → Nodes
bare_call name ns = then 1 (template_node name None) ns

-- {{$x}}: a name without a variable is nothing
undeclared : run 9 (then 1 (put (variable x [])) none) three ≡ puts (text_of nothing)
undeclared = refl

-- {{$x = .}}A: assigned to such a name, a value is lost
unassigned : run 9 (then 1 (set (assign x) dot) (then 1 (text (codes "A")) none)) three ≡ puts (codes "A")
unassigned = refl

-- A{{break}}B, A{{continue}}B: out of a template they end it, and so they do where it is called
a-break-alone : run 9 (then 1 (text (codes "A")) (then 1 break_node (then 1 (text (codes "B")) none))) three ≡ puts (codes "A")
a-break-alone = refl

a-continue-alone : run 9 (then 1 (text (codes "A")) (then 1 continue_node (then 1 (text (codes "B")) none))) three ≡ puts (codes "A")
a-continue-alone = refl

-- {{define "a"}}A{{break}}B{{end}}{{template "a"}}C
a-break-called : run_with 9 9 (beside a (then 1 (text (codes "A")) (then 1 break_node (then 1 (text (codes "B")) none))) ∷ [])
    (bare_call a (then 1 (text (codes "C")) none)) nothing ≡ puts (codes "AC")
a-break-called = refl

-- {{$x}}, and {{$x := .}}{{$x}}, with an older variable of that name: what is not formed is another run, what is formed the same
abbrev with_one : Nodes → List ℕ
with_one ns =
    let start : Run = record { env = ([], three) ∷ []; text = []; left = 9; made_text = false } in
    (meanings (within (rules Default 9 9) [] 9 (codes "t") (tree_of ns)) ns three (with_older ((x, one 1) ∷ []) start)).0.text

an-older-one : with_one (then 1 (put (variable x [])) none) ≡ text_of (one 1)
an-older-one = refl

its-own-one : with_one (then 1 (set (declare x) dot) (then 1 (put (variable x [])) none)) ≡ text_of three
its-own-one = refl
