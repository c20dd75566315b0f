-- For `print_set` and `print_tree`: what is said first and what is said next are one page.
use Rattle.std.proofs.Common.{◌≡◌, ◌∙◌, ℕ, true, false, List, [], ◌∷◌, ◌++◌, refl, sym, ap, append_assoc, append-nil, Option, Some}
use Rattle.std.proofs.Common.{◌+◌, ◌<◌, ◌≤◌, get_or, None, codes, length, drop, arith, ◌==◌}
use Rattle.std.proofs.lemmas.List.{at_drop_all, at_drop_more}
use Rattle.std.proofs.lemmas.Bool.{eqb-true}
use Rattle.tmpl_grammar.specs.Print.{action_tokens, bytes_of}
use Rattle.tmpl_grammar.specs.Action.{Action, plain_else}
use Rattle.tmpl_syntax.specs.View.{node_of, nodes_in}
use Rattle.tmpl_syntax.specs.declared.tree.Node as held
use Rattle.tmpl_syntax.proofs.PrintableNodeLemmas.{control-said}
use Rattle.tmpl_syntax.proofs.ViewLemmas.{control_of-fields}
use Rattle.tmpl_syntax.specs.Print.Printed.{Said, said, said_text, node_said, nodes_said, file_of, opening_after, parting}
use Rattle.tmpl_syntax.specs.computed.Print.{else_said}
use Rattle.tmpl_syntax.specs.computed.Print.{Page, last_text, page_with}

joined-append : (before : Option (List ℕ)) (ps qs : List Said) → file_of before (ps ++ qs) ≡ file_of before ps ++ file_of (last_text before ps) qs
joined-append before [] qs = refl
joined-append before (said_text t ∷ ps) qs = simp (joined-append (Some t) ps qs, append_assoc)
joined-append before (said a ∷ ps) qs = simp (joined-append None ps qs, append_assoc)

last-append : (before : Option (List ℕ)) (ps qs : List Said) → last_text before (ps ++ qs) ≡ last_text (last_text before ps) qs
last-append before [] qs = refl
last-append before (said_text t ∷ ps) qs = last-append (Some t) ps qs
last-append before (said a ∷ ps) qs = last-append None ps qs

pub page_append : (p : Page) (ss rs : List Said) → page_with (page_with p ss) rs ≡ page_with p (ss ++ rs)
unfolding page_with
page_append p ss rs = simp (joined-append, last-append, append_assoc)

pub page_nothing : (p : Page) → page_with p [] ≡ p
unfolding page_with
page_nothing p = ap (λ bs. (bs, p.1)) (append-nil p.0)

-- an action, put piece by piece
pub action-put : (before : Option (List ℕ)) (a : Action) (old : List ℕ) {opened inside closed : List ℕ} → opened ≡ old ++ opening_after before
    → inside ≡ opened ++ bytes_of (action_tokens a) → closed ≡ inside ++ codes "}}" → (closed, None) ≡ page_with (old, before) (said a ∷ [])
unfolding page_with
action-put before a old h i j = simp (j, i, h, append_assoc)

-- a text, put piece by piece
pub text-put : (before : Option (List ℕ)) (t old : List ℕ) {parted ended : List ℕ} → parted ≡ old ++ parting before → ended ≡ parted ++ t
    → (ended, Some t) ≡ page_with (old, before) (said_text t ∷ [])
unfolding page_with
text-put before t old h i = simp (i, h, append_assoc, append-nil)

-- an else part of no nodes, and one of nodes
pub no_else : (p : Page) (ns : List held.Node) → true ≡ (length ns == 0) → p ≡ page_with p (else_said (nodes_in ns) (nodes_said (nodes_in ns)))
no_else p [] e = sym (page_nothing p)
no_else p (n ∷ ns) e = let none = eqb-true (length (n ∷ ns)) 0 (sym e) in absurd (let g : ⊥ = omega (arith, none) in g)

pub some_else : (ns : List held.Node) (ss : List Said) → false ≡ (length ns == 0) → else_said (nodes_in ns) ss ≡ said plain_else ∷ ss
some_else [] ss e = absurd (cc)
some_else (n ∷ ns) ss e = refl

-- nodes one by one
module _ (p : Page) (ns : List held.Node) (i : ℕ) where
  pub page-next : (n : held.Node) → i < length ns → n ≡ get_or ns i n
      → page_with (page_with p (node_said (node_of n).what)) (nodes_said (nodes_in (drop (i + 1) ns))) ≡ page_with p (nodes_said (nodes_in (drop i ns)))
  page-next n lt is =
      let rest = nodes_said (nodes_in (drop (i + 1) ns)) in
      page_append p (node_said (node_of n).what) rest ∙ ap (λ m. page_with p (node_said (node_of m).what ++ rest)) is
      ∙ sym (at_drop_more (λ ms. page_with p (nodes_said (nodes_in ms))) ns i n lt)

  pub page-done : length ns ≤ i → page_with p (nodes_said (nodes_in (drop i ns))) ≡ p
  page-done le = at_drop_all (λ ms. page_with p (nodes_said (nodes_in ms))) ns i le ∙ page_nothing p

pub ruleset nodes = (page-next, page-done)

pub ruleset pages = (action-put, text-put, page_append, page_nothing, no_else, some_else, control-said, control_of-fields)
