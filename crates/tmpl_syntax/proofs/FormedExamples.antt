-- For the reader of `Formed`: which templates are formed, computed.
use Rattle.std.proofs.Common.{◌≡◌, ℕ, zero, suc, Bool, true, false, List, [], ◌∷◌, Some, refl, codes, map}
use Rattle.tmpl_grammar.specs.Tree.{Operand, dot, variable, group, operands_from, commands_from, Pipeline, Binding}
use Rattle.tmpl_grammar.specs.Tree.{unbound, declare, assign, declare_pair, Header}
use Rattle.tmpl_grammar.specs.declared.tree.Control.{Control}
use Rattle.tmpl_grammar.specs.declared.tree.Control.TheVariants as control
use Rattle.tmpl_syntax.specs.Tree.{NodeKind, Nodes, none, then, text, action, control_node, break_node, continue_node, template_node}
use Rattle.tmpl_syntax.specs.Formed.{are_formed}

-- nodes of the line 1
abbrev listed : List NodeKind → Nodes
listed [] = none
listed (n ∷ ns) = then 1 n (listed ns)

abbrev value : Operand → Pipeline
value o = commands_from (operands_from (o ∷ []) ∷ [])

abbrev headed : Binding → Operand → Header
headed b o = record { binding = b; pipeline = value o }

-- an action; a control, with its else part
abbrev acts : Binding → Operand → NodeKind
acts b o = action (headed b o)

abbrev controls : Control → Binding → List NodeKind → List NodeKind → NodeKind
controls c b body other = control_node c (headed b dot) (listed body) (listed other)

-- `$x`, `$y`, `$`
abbrev x : List ℕ
x = codes "x"

abbrev y : List ℕ
y = codes "y"

abbrev the : List ℕ → Operand
the name = variable name []

-- `{{$x}}`, `{{$x := .}}`, `{{$x = .}}`
abbrev show : NodeKind
show = acts unbound (the x)

abbrev make : NodeKind
make = acts (declare x) dot

abbrev change : NodeKind
change = acts (assign x) dot

-- this many controls inside one another, in bodies and in else parts
abbrev bodies : ℕ → List NodeKind
bodies zero = []
bodies (suc n) = controls control.If unbound (bodies n) [] ∷ []

abbrev others : ℕ → List NodeKind
others zero = []
others (suc n) = controls control.With unbound [] (others n) ∷ []

-- whether a template is formed, and its nodes
abbrev examples : List (Bool × List NodeKind)
examples =
    -- ---- names
    -- ``, `word`, `{{$}}`
    (true, [])
    ∷ (true, text (codes "word") ∷ [])
    ∷ (true, acts unbound (the []) ∷ [])
    -- `{{$x}}`, `{{$x = .}}`, `{{($x).y}}`, `{{template "y" $x}}`
    ∷ (false, show ∷ [])
    ∷ (false, change ∷ [])
    ∷ (false, acts unbound (group (commands_from (operands_from (the x ∷ []) ∷ [])) (y ∷ [])) ∷ [])
    ∷ (false, template_node y (Some (value (the x))) ∷ [])
    -- `{{$x := .}}{{$x}}{{$x = .}}`, `{{$x}}{{$x := .}}`, `{{$x := $x}}`, `{{$x := .}}{{$x := $x}}`
    ∷ (true, make ∷ show ∷ change ∷ [])
    ∷ (false, show ∷ make ∷ [])
    ∷ (false, acts (declare x) (the x) ∷ [])
    ∷ (true, make ∷ acts (declare x) (the x) ∷ [])
    -- `{{$y := .}}{{$x}}`, `{{$y := .}}{{$x := .}}{{$y}}{{$x}}`
    ∷ (false, acts (declare y) dot ∷ show ∷ [])
    ∷ (true, acts (declare y) dot ∷ make ∷ acts unbound (the y) ∷ show ∷ [])
    -- ---- controls
    -- `{{if .}}{{$x := .}}{{$x}}{{end}}`, `{{if .}}{{$x := .}}{{end}}{{$x}}`, `{{if .}}{{$x := .}}{{else}}{{$x}}{{end}}`
    ∷ (true, controls control.If unbound (make ∷ show ∷ []) [] ∷ [])
    ∷ (false, controls control.If unbound (make ∷ []) [] ∷ show ∷ [])
    ∷ (false, controls control.If unbound (make ∷ []) (show ∷ []) ∷ [])
    -- `{{$x := .}}{{with .}}{{$x}}{{else}}{{$x = .}}{{end}}{{$x}}`
    ∷ (true, make ∷ controls control.With unbound (show ∷ []) (change ∷ []) ∷ show ∷ [])
    -- `{{if $x := .}}{{$x}}{{else}}{{$x}}{{end}}`, and after it; the same of a `with`
    ∷ (true, controls control.If (declare x) (show ∷ []) (show ∷ []) ∷ [])
    ∷ (false, controls control.If (declare x) [] [] ∷ show ∷ [])
    ∷ (true, controls control.With (declare x) (show ∷ []) (show ∷ []) ∷ [])
    -- `{{if $x = .}}{{end}}`, `{{$x := .}}{{if $x = .}}{{end}}`
    ∷ (false, controls control.If (assign x) [] [] ∷ [])
    ∷ (true, make ∷ controls control.If (assign x) [] [] ∷ [])
    -- `{{range $x := .}}{{$x}}{{end}}`, with two variables, and in the else part
    ∷ (true, controls control.Range (declare x) (show ∷ []) [] ∷ [])
    ∷ (true, controls control.Range (declare_pair x y) (show ∷ []) [] ∷ [])
    ∷ (true, controls control.Range (declare_pair y x) (show ∷ []) [] ∷ [])
    ∷ (false, controls control.Range (declare_pair y x) [] (show ∷ []) ∷ [])
    -- ---- breaks
    -- `{{break}}`, `{{if .}}{{continue}}{{end}}`
    ∷ (false, break_node ∷ [])
    ∷ (false, controls control.If unbound (continue_node ∷ []) [] ∷ [])
    -- `{{range .}}{{if .}}{{break}}{{else}}{{continue}}{{end}}{{end}}`
    ∷ (true, controls control.Range unbound (controls control.If unbound (break_node ∷ []) (continue_node ∷ []) ∷ []) [] ∷ [])
    -- `{{range .}}{{else}}{{break}}{{end}}`, and inside another range
    ∷ (false, controls control.Range unbound [] (break_node ∷ []) ∷ [])
    ∷ (true, controls control.Range unbound (controls control.Range unbound [] (break_node ∷ []) ∷ []) [] ∷ [])
    -- `{{range .}}{{end}}{{continue}}`
    ∷ (false, controls control.Range unbound [] [] ∷ continue_node ∷ [])
    -- ---- levels
    ∷ (true, bodies 500)
    ∷ (false, bodies 501)
    ∷ (true, others 500)
    ∷ (false, others 501)
    ∷ []

each-formed : map (λ e. are_formed (listed e.1) [] false 0) examples ≡ map (λ e. e.0) examples
each-formed = refl
