-- How many cells of a stack a template needs while it is run, where each value that is held has one: told by the
-- nesting of its tree alone. That cells are counted is our own rule.
use Rattle.std.specs.Prelude.{◌≤◌, ℕ, ◌+◌, max, List, [], ◌∷◌}
use Rattle.tmpl_grammar.specs.Need.{need_of_pipeline, need_of_given, declared_count}
use Rattle.tmpl_grammar.specs.declared.tree.Control.{Control}
use Rattle.tmpl_grammar.specs.declared.tree.Control.TheVariants as control
use Rattle.tmpl_syntax.specs.Tree as tree
use Rattle.tmpl_syntax.specs.Tree.{NodeKind, text, action, control_node, break_node, continue_node, template_node}
use Rattle.tmpl_syntax.specs.Tree.{Nodes, Tree}
use Rattle.tmpl_syntax.specs.Set.{Template}

-- a control whose header declares this many variables, by what the nodes of its body and of its else part need
abbrev pub need_of_parts : Control → ℕ → ℕ → ℕ → ℕ
-- an `if`: the variable is there in both parts
need_of_parts control.If declared body other = max (declared + body) (declared + other)
-- a `with`: so it is, and while the body is run the dot from outside is kept
need_of_parts control.With declared body other = max (1 + declared + body) (declared + other)
-- a `range`: its variables are there in the body alone, while the dot from outside and the value gone over are kept
need_of_parts control.Range declared body other = max (2 + declared + body) other

-- how many variables a node leaves to the nodes after it: an action the one that it declares, a control none
abbrev pub left_after : NodeKind → ℕ
left_after (text bytes) = 0
left_after (action h) = declared_count h.binding
left_after (control_node c h body other) = 0
left_after break_node = 0
left_after continue_node = 0
left_after (template_node name given) = 0

abbrev mutual
  -- while the pipeline of a header is computed its variables are not there yet
  pub need_of_node : NodeKind → ℕ
  need_of_node (text bytes) = 0
  need_of_node (action h) = need_of_pipeline h.pipeline
  need_of_node (control_node c h body other) =
      max (need_of_pipeline h.pipeline)
      (need_of_parts c (declared_count h.binding) (need_of_nodes body) (need_of_nodes other))
  need_of_node break_node = 0
  need_of_node continue_node = 0
  need_of_node (template_node name given) = need_of_given given

  -- the most that one of the nodes needs, above the variables that those before it in this list leave
  pub need_of_nodes : Nodes → ℕ
  need_of_nodes tree.none = 0
  need_of_nodes (tree.then line n ns) = max (need_of_node n) (left_after n + need_of_nodes ns)

-- a template, with three cells of its own: for dot, for `$`, and for where its caller goes on
abbrev pub need : Tree → ℕ
need t = 3 + need_of_nodes t.nodes

-- the most that a template needs that a file within the limit of length spells: three, and one for each byte
abbrev pub most_need : ℕ
most_need = 16777219

-- each of these templates needs at most this many
abbrev pub NeedAtMost : ℕ → List Template → Type 0
NeedAtMost n [] = Unit {0}
NeedAtMost n (t ∷ ts) = (need t.1 ≤ n) × NeedAtMost n ts
