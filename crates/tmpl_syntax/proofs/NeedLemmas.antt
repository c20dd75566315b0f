-- For `bounded_need`: what a template needs is no more than three and the bytes of its file.
use Rattle.std.proofs.Common.{arith, ◌≤◌, ℕ, ◌+◌, List, [], ◌∷◌, length, map}
use Rattle.tmpl_lex.specs.Piece.{Piece}
use Rattle.tmpl_lex.proofs.WeightLemmas.{weight_of, weight, weight-within}
use Rattle.tmpl_grammar.specs.Need.{declared_count}
use Rattle.tmpl_grammar.specs.declared.tree.Control.{Control}
use Rattle.tmpl_grammar.specs.declared.tree.Control.TheVariants as control
use Rattle.tmpl_grammar.specs.Action.{control_in}
use Rattle.tmpl_grammar.proofs.NeedLemmas.{cells_of, action-within}
use Rattle.tmpl_syntax.specs.Tree.{Nodes, Definition}
use Rattle.tmpl_syntax.specs.Set.{Template}
use Rattle.tmpl_syntax.specs.Language.{Language}
use Rattle.tmpl_syntax.specs.Item.{Item, item, action_item, IsItem, read}
use Rattle.std.specs.List.{AllZip}
use Rattle.tmpl_syntax.specs.Spelling.{a_text}
use Rattle.tmpl_syntax.proofs.LeadsLemmas.{Leads, nothing, a_node, a_control, a_define, a_block, Closes, an_end, an_else, an_else_branch, led}
use Rattle.tmpl_syntax.specs.Need.{need_of_parts, need_of_nodes, NeedAtMost, most_need}
use Rattle.tmpl_syntax.specs.Parse.{all_defined, template_in}
use Rattle.tmpl_syntax.specs.Laws.{NeedsAtMostBytes, NeedsAtMost}

-- ---- items

abbrev cells_at : Item → ℕ
cells_at (item line (action_item a)) = cells_of a
cells_at _ = 0

abbrev cells : List Item → ℕ
cells [] = 0
cells (x ∷ xs) = cells_at x + cells xs

item-within : {language : Language} {p : Piece} {x : Item} → IsItem language p x → cells_at x ≤ weight_of p
item-within (read {ts = ts} {a = a} s has le) = action-within a ts s
item-within _ = omega arith

items-within : (language : Language) (ps : List Piece) (xs : List Item) → AllZip (IsItem language) ps xs → cells xs ≤ weight ps
items-within language [] [] is = omega arith
items-within language (p ∷ ps) (x ∷ xs) is = omega (arith, item-within is.0, items-within language ps xs is.1)
items-within language _ _ is = absurd is

-- ---- nodes

parts-within : (c : Control) (declared body other : ℕ) → need_of_parts c declared body other ≤ 2 + declared + body + other
parts-within control.If declared body other = omega arith
parts-within _ declared body other = omega arith

-- the nodes of each need at most this many
abbrev Within : ℕ → List Definition → Type 0
Within n [] = Unit {0}
Within n (d ∷ ds) = (need_of_nodes d.nodes ≤ n) × Within n ds

-- what these nodes and the items after them need, the first items have, and the definitions need no more than the items before
abbrev Bound : List Item → List Definition → Nodes → List Item → List Definition → Type 0
Bound xs ds ns ys es = (need_of_nodes ns + cells ys ≤ cells xs) × ((n : ℕ) → cells xs ≤ n → Within n es → Within n ds)

mutual
  leads-within : {xs ys : List Item} {ds es : List Definition} {ns : Nodes} → Leads xs ds ns ys es → Bound xs ds ns ys es
  leads-within nothing = (omega arith, λ n le w. w)
  leads-within (a_node a_text l) = let m = leads-within l in (omega (arith, m.0), λ n le w. m.1 n (omega (arith, le)) w)
  leads-within (a_node _ l) = let m = leads-within l in (omega (arith, m.0), λ n le w. m.1 n (omega (arith, le)) w)
  leads-within (a_control {c = c} {h = h} {body = body} {other = other} b o l) =
      let i = leads-within b in
      let e = closes-within o in
      let m = leads-within l in (
        omega (arith, i.0, e.0, m.0, parts-within c (declared_count h.binding) (need_of_nodes body) (need_of_nodes other)),
        λ n le w. i.1 n (omega (arith, le)) (e.1 n (omega (arith, le, i.0)) (m.1 n (omega (arith, le, i.0, e.0)) w)),
      )
  leads-within (a_define b l) =
      let i = leads-within b in
      let m = leads-within l in
      (omega (arith, i.0, m.0), λ n le w. (omega (arith, i.0, le), i.1 n (omega (arith, le)) (m.1 n (omega (arith, le, i.0)) w)))
  leads-within (a_block b l) =
      let i = leads-within b in
      let m = leads-within l in
      (omega (arith, i.0, m.0), λ n le w. (omega (arith, i.0, le), i.1 n (omega (arith, le)) (m.1 n (omega (arith, le, i.0)) w)))

  closes-within : {xs ys : List Item} {ds es : List Definition} {other : Nodes} → Closes xs ds other ys es → Bound xs ds other ys es
  closes-within an_end = (omega arith, λ n le w. w)
  closes-within (an_else l) = let m = leads-within l in (omega (arith, m.0), λ n le w. m.1 n (omega (arith, le)) w)
  closes-within (an_else_branch {branch = branch} {h = h} {body = body} {other = other} b o) =
      let i = leads-within b in
      let e = closes-within o in (
        omega (arith, i.0, e.0, parts-within (control_in branch) (declared_count h.binding) (need_of_nodes body) (need_of_nodes other)),
        λ n le w. i.1 n (omega (arith, le)) (e.1 n (omega (arith, le, i.0)) w),
      )

-- ---- files

all-within : (file : List ℕ) (n : ℕ) (ds : List Definition) (own : Nodes) → Within n ds → need_of_nodes own ≤ n
    → NeedAtMost (3 + n) (map (template_in file) (all_defined file ds own))
all-within file n [] own w le = (omega (arith, le), tt)
all-within file n (d ∷ ds) own w le = let here = w.0 in (omega (arith, here), all-within file n ds own w.1 le)

pub need-within : NeedsAtMostBytes
need-within language file bytes items ds own has spells =
    let spelled = leads-within (led spells) in
    let read = items-within language has.0 items has.2 in
    let cut = weight-within has.1 in
    all-within file (length bytes) ds own (spelled.1 (length bytes) (omega (arith, read, cut)) tt) (omega (arith, spelled.0, read, cut))

need-less : (n m : ℕ) (ts : List Template) → n ≤ m → NeedAtMost n ts → NeedAtMost m ts
need-less n m [] le h = tt
need-less n m (t ∷ ts) le h = let here = h.0 in (omega (arith, here, le), need-less n m ts le h.1)

pub need-most : NeedsAtMost
need-most language file bytes items ds own within has spells =
    need-less (3 + length bytes) most_need _ (omega (arith, within)) (need-within language file bytes items ds own has spells)
