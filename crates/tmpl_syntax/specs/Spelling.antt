-- The definitions and the nodes that a file's items spell, by cases on the nodes. A control has the nodes of its
-- body, up to its `end` or the else part that belongs to it. A part that is left out is one of no nodes, and an else
-- branch is its control, at its own line, that is the whole else part and shares the `end`. A `define` is no node and
-- a `block` is a call of its template; the body of each is a definition, which comes before those inside it.
use Rattle.std.specs.Prelude.{ℕ, List, [], ◌∷◌, ◌++◌, Option, Some}
use Rattle.tmpl_grammar.specs.Tree.{Pipeline, Header}
use Rattle.tmpl_grammar.specs.Action.{pipeline_action, opening, plain_else, else_branch, end_action, break_action}
use Rattle.tmpl_grammar.specs.Action.{continue_action, define_action, template_action, block_action, control_in}
use Rattle.tmpl_grammar.specs.declared.tree.Control.{Control}
use Rattle.tmpl_grammar.specs.declared.action.Branch.{Branch}
use Rattle.tmpl_syntax.specs.Tree.{NodeKind, Nodes, none, then, text, action, control_node, break_node, continue_node}
use Rattle.tmpl_syntax.specs.Tree.{template_node, Definition}
use Rattle.tmpl_syntax.specs.Item.{ItemKind, Item, item, text_item, action_item}

abbrev pub definition : ℕ → List ℕ → Nodes → Definition
definition line name nodes = record { line = line; name = name; nodes = nodes }

-- an item that is a node by itself
pub data IsNode : ItemKind → NodeKind → Type 0 where
  a_text : {bytes : List ℕ} → IsNode (text_item bytes) (text bytes)
  an_action : {h : Header} → IsNode (action_item (pipeline_action h)) (action h)
  a_break : IsNode (action_item break_action) break_node
  a_continue : IsNode (action_item continue_action) continue_node
  a_template : {n : List ℕ} {p : Option Pipeline} → IsNode (action_item (template_action n p)) (template_node n p)

mutual
  -- these items spell these definitions, in the order of their headers, and these nodes
  pub data Spells : List Item → List Definition → Nodes → Type 0 where
    nothing : Spells [] [] none
    a_node : {line : ℕ} {what : ItemKind} {n : NodeKind} {xs : List Item} {ds : List Definition} {ns : Nodes}
        → IsNode what n → Spells xs ds ns → Spells (item line what ∷ xs) ds (then line n ns)
    a_control : {line : ℕ} {c : Control} {h : Header} {xs ys zs : List Item} {ds es fs : List Definition}
        {body other ns : Nodes} → Spells xs ds body → SpellsElse ys es other → Spells zs fs ns
        → Spells (item line (action_item (opening c h)) ∷ (xs ++ (ys ++ zs))) (ds ++ (es ++ fs))
        (then line (control_node c h body other) ns)
    a_define : {line : ℕ} {name : List ℕ} {xs ys : List Item} {ds es : List Definition} {body ns : Nodes}
        → SpellsBody xs ds body → Spells ys es ns
        → Spells (item line (action_item (define_action name)) ∷ (xs ++ ys)) (definition line name body ∷ (ds ++ es)) ns
    a_block : {line : ℕ} {name : List ℕ} {p : Pipeline} {xs ys : List Item} {ds es : List Definition} {body ns : Nodes}
        → SpellsBody xs ds body → Spells ys es ns
        → Spells (item line (action_item (block_action name p)) ∷ (xs ++ ys)) (definition line name body ∷ (ds ++ es))
        (then line (template_node name (Some p)) ns)

  -- .. with an `end` after them
  pub data SpellsBody : List Item → List Definition → Nodes → Type 0 where
    ended : {xs : List Item} {ds : List Definition} {ns : Nodes} (line : ℕ) → Spells xs ds ns
        → SpellsBody (xs ++ item line (action_item end_action) ∷ []) ds ns

  -- the rest of a control after its body, to its `end`, spells the nodes of its else part
  pub data SpellsElse : List Item → List Definition → Nodes → Type 0 where
    an_end : {line : ℕ} → SpellsElse (item line (action_item end_action) ∷ []) [] none
    an_else : {line : ℕ} {xs : List Item} {ds : List Definition} {other : Nodes} → SpellsBody xs ds other
        → SpellsElse (item line (action_item plain_else) ∷ xs) ds other
    an_else_branch : {line : ℕ} {branch : Branch} {h : Header} {xs ys : List Item} {ds es : List Definition}
        {body other : Nodes} → Spells xs ds body → SpellsElse ys es other
        → SpellsElse (item line (action_item (else_branch branch h)) ∷ (xs ++ ys)) (ds ++ es)
        (then line (control_node (control_in branch) h body other) none)
