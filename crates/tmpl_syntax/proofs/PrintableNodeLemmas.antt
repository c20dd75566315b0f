-- For `printable`: what a file spells can be printed, its definitions and the nodes of its own template.
use Rattle.std.proofs.Common.{◌≡◌, refl, ℕ, List, [], ◌∷◌, ◌++◌, map}
use Rattle.tmpl_lex.specs.Piece.{Piece}
use Rattle.tmpl_grammar.specs.Tree.{Header}
use Rattle.tmpl_grammar.specs.Action.{opening, else_branch, end_action, control_in}
use Rattle.tmpl_grammar.specs.declared.tree.Control.{Control}
use Rattle.tmpl_syntax.specs.Tree.{Nodes, none, then, control_node, Definition}
use Rattle.tmpl_syntax.specs.Language.{Language}
use Rattle.tmpl_syntax.specs.Item.{Item, item, text_item, action_item, IsItem, a_text as text_read, read}
use Rattle.std.specs.List.{AllZip}
use Rattle.tmpl_syntax.specs.Spelling.{a_text}
use Rattle.tmpl_syntax.proofs.LeadsLemmas.{Leads, nothing, a_node, a_control, a_define, a_block, Closes, an_end, an_else, an_else_branch, led}
use Rattle.tmpl_grammar.specs.declared.action.Branch.{Branch}
use Rattle.tmpl_grammar.specs.declared.action.Branch.TheVariants as branch
use Rattle.tmpl_syntax.specs.Print.Join.{IsText}
use Rattle.tmpl_syntax.specs.Print.Printed.{Said, said_text, said, node_said, nodes_said}
use Rattle.tmpl_syntax.specs.computed.Print.{else_said}
use Rattle.tmpl_grammar.specs.Printable.{OfAction}
use Rattle.tmpl_syntax.specs.Print.Printable.{AreSaid, ArePrintable}
use Rattle.tmpl_syntax.specs.Parse.{template_in}
use Rattle.tmpl_syntax.specs.Print.Laws.{KeepsPrintable}
use Rattle.tmpl_syntax.proofs.PrintablePieceLemmas.{OfPiece, OfPieces, cuts-of}
use Rattle.tmpl_grammar.proofs.PrintableActionLemmas.{of_action}

abbrev OfItem : Item → Type 0
OfItem (item line (text_item bytes)) = IsText bytes
OfItem (item line (action_item a)) = OfAction a
OfItem _ = Unit {0}

abbrev OfItems : List Item → Type 0
OfItems [] = Unit {0}
OfItems (x ∷ xs) = OfItem x × OfItems xs

of-item : {language : Language} {p : Piece} {x : Item} → IsItem language p x → OfPiece p → OfItem x
of-item text_read h = h
of-item (read {ts = ts} {a = a} s t le) h = of_action a ts le h s
of-item _ h = tt

of-items : (language : Language) (ps : List Piece) (xs : List Item) → AllZip (IsItem language) ps xs → OfPieces ps → OfItems xs
of-items language [] [] is h = tt
of-items language (p ∷ ps) (x ∷ xs) is h = (of-item is.0 h.0, of-items language ps xs is.1 h.1)
of-items language _ _ is h = absurd is

pub said-append : (ss ts : List Said) → AreSaid ss → AreSaid ts → AreSaid (ss ++ ts)
said-append [] ts h k = k
said-append (said_text t ∷ ss) ts h k = (h.0, said-append ss ts h.1 k)
said-append (said a ∷ ss) ts h k = (h.0, said-append ss ts h.1 k)

control-of : (c : Control) (r : Header) (body other : List Said) → OfAction (opening c r) → AreSaid body → AreSaid other
    → AreSaid (said (opening c r) ∷ (body ++ (other ++ said end_action ∷ [])))
control-of c r body other h b o = (h, said-append body (other ++ said end_action ∷ []) b (said-append other (said end_action ∷ []) o (tt, tt)))

-- the header of an else branch may be that of its control
branch-of : (b : Branch) (r : Header) → OfAction (else_branch b r) → OfAction (opening (control_in b) r)
branch-of branch.If r h = h
branch-of branch.With r h = h

else-of : (other : Nodes) → AreSaid (nodes_said other) → AreSaid (else_said other (nodes_said other))
else-of none h = tt
else-of (then line n ns) h = (tt, h)

-- what a control says, with its else part or without one
pub control-said : (c : Control) (h : Header) (body other : Nodes) → node_said (control_node c h body other)
    ≡ said (opening c h) ∷ (nodes_said body ++ (else_said other (nodes_said other) ++ said end_action ∷ []))
control-said c h body none = refl
control-said c h body (then line n ns) = refl

-- this can be printed, and the items after it are as good; the definitions can if those after them can
abbrev Kept : List Said → List Item → List Definition → List Definition → Type 0
Kept ss ys ds es = AreSaid ss × OfItems ys × ((path : List ℕ) → ArePrintable (map (template_in path) es) → ArePrintable (map (template_in path) ds))

mutual
  leads-of : {xs ys : List Item} {ds es : List Definition} {ns : Nodes} → Leads xs ds ns ys es → OfItems xs → Kept (nodes_said ns) ys ds es
  leads-of nothing h = (tt, h, λ path k. k)
  leads-of (a_node a_text l) h = let m = leads-of l h.1 in ((h.0, m.0), m.1, m.2)
  leads-of (a_node _ l) h = let m = leads-of l h.1 in ((h.0, m.0), m.1, m.2)
  leads-of (a_control {c = c} {h = r} {body = body} {other = other} {ns = ns} b o l) h =
      let i = leads-of b h.1 in
      let e = closes-of o i.1 in
      let m = leads-of l e.1 in (
        said-append (node_said (control_node c r body other)) (nodes_said ns)
            (rw (control-said c r body other) (control-of c r (nodes_said body) (else_said other (nodes_said other)) h.0 i.0 e.0)) m.0,
        m.1,
        λ path k. i.2 path (e.2 path (m.2 path k)),
      )
  leads-of (a_define b l) h =
      let i = leads-of b h.1 in
      let m = leads-of l i.1.1 in (m.0, m.1, λ path k. (h.0, i.0, i.2 path (m.2 path k)))
  leads-of (a_block b l) h =
      let i = leads-of b h.1 in
      let m = leads-of l i.1.1 in ((h.0, m.0), m.1, λ path k. (h.0.0, i.0, i.2 path (m.2 path k)))

  closes-of : {xs ys : List Item} {ds es : List Definition} {other : Nodes} → Closes xs ds other ys es → OfItems xs
      → Kept (else_said other (nodes_said other)) ys ds es
  closes-of an_end h = (tt, h.1, λ path k. k)
  closes-of (an_else {other = other} l) h = let m = leads-of l h.1 in (else-of other m.0, m.1.1, m.2)
  closes-of (an_else_branch {branch = br} {h = r} {body = body} {other = other} l o) h =
      let i = leads-of l h.1 in
      let e = closes-of o i.1 in
      let parts = control-of (control_in br) r (nodes_said body) (else_said other (nodes_said other)) (branch-of br r h.0) i.0 e.0 in
      let can : AreSaid (node_said (control_node (control_in br) r body other)) = rw (control-said (control_in br) r body other) parts in
      ((tt, said-append (node_said (control_node (control_in br) r body other)) [] can tt), e.1, λ path k. i.2 path (e.2 path k))

pub keeps-printable : KeepsPrintable
keeps-printable language bytes items ds own h has spells =
    let k = leads-of (led spells) (of-items language has.0 items has.2 (cuts-of has.1 h)) in
    (λ path. k.2 path tt, k.0)
