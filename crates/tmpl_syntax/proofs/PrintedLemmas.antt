-- For `printed_back` and `set_back`: the pieces of what is printed are read as what its nodes say, and this spells the same nodes, apart from lines.
use Rattle.std.proofs.Common.{◌≡◌, ℕ, false, List, [], ◌∷◌, ◌++◌, refl, ap, subst, append_assoc, append-nil, map, codes, arith, ◌≤◌, Option, Some, None}
use Rattle.tmpl_grammar.specs.Tree.{Header}
use Rattle.tmpl_grammar.specs.declared.tree.Control.{Control}
use Rattle.tmpl_grammar.specs.Action.{end_action, plain_else, define_action, Action, pipeline_action, opening, else_branch, template_action, block_action}
use Rattle.tmpl_syntax.specs.Tree.{NodeKind, text, action, control_node, break_node, continue_node, template_node, Nodes, none, then, Definition}
use Rattle.tmpl_syntax.specs.Item.{Item, item, action_item, text_item, a_text as text_read, read, IsItem, HasItems}
use Rattle.tmpl_syntax.specs.Set.{Template}
use Rattle.tmpl_syntax.specs.Spelling.{definition, a_text, an_action, a_break, a_continue, a_template, Spells}
use Rattle.tmpl_syntax.proofs.LeadsLemmas.{Leads, nothing, a_node, a_control, a_define, Closes, an_end, an_else, led, spelled}
use Rattle.tmpl_syntax.specs.Print.Printed.{Said, said_text, said, node_said, nodes_said, template_said, unlined_node, unlined}
use Rattle.tmpl_syntax.specs.computed.Print.{else_said}
use Rattle.tmpl_syntax.specs.Print.Printed.{opening_after, parting, file_of}
use Rattle.tmpl_syntax.specs.computed.Print.{part_of}
use Rattle.std.specs.List.{flat_map, AllZip}
use Rattle.tmpl_syntax.specs.Print.Laws.{Says, says_nothing, says_text, says, unlined_definition, unlined_template, newline_nodes, ReadsSame, SetReadsSame}
use Rattle.tmpl_lex.specs.Piece.{Piece}
use Rattle.tmpl_lex.specs.Cut.{Cuts}
use Rattle.tmpl_grammar.specs.Print.{action_tokens, bytes_of}
use Rattle.tmpl_grammar.specs.Depth.{depth_of, most_deep}
use Rattle.tmpl_syntax.specs.Language.{every_action}
use Rattle.tmpl_syntax.specs.Print.Join.{joined_parts, IsText, AreParts, SamePieces, no_piece, same_text, same_action}
use Rattle.tmpl_grammar.specs.Printable.{OfAction}
use Rattle.tmpl_syntax.specs.Print.Printable.{AreSaid, ArePrintable}
use Rattle.tmpl_lex.proofs.PartLemmas.{absent-nil, absent-cons}
use Rattle.tmpl_syntax.proofs.JoinLemmas.{cut-back}
use Rattle.tmpl_grammar.proofs.PrintedTokenLemmas.{action-inside}
use Rattle.tmpl_grammar.proofs.PrintedSpellingLemmas.{spells-tokens}
use Rattle.tmpl_syntax.proofs.PrintableNodeLemmas.{said-append, control-said}

-- ---- nodes

-- the first items spell the nodes, apart from lines, with no definition among them, and the others say the rest
abbrev LeadsBy : (List Item → List Definition → Nodes → List Item → List Definition → Type 0) → Nodes → List Said → List Item → Type 0
LeadsBy Spell ns ss xs =
    (ms : Nodes) × (unlined ms ≡ unlined ns) × (ys : List Item) × ((ds : List Definition) → Spell xs ds ms ys ds) × Says ss ys

abbrev LeadsNodes : Nodes → List Said → List Item → Type 0
LeadsNodes = LeadsBy Leads

-- .. a node, after which they go on
abbrev LeadsNode : NodeKind → List Said → List Item → Type 0
LeadsNode n ss xs =
    (line : ℕ) × (m : NodeKind) × (unlined_node m ≡ unlined_node n) × (ys : List Item)
    × ((ms : Nodes) (zs : List Item) (ds es : List Definition) → Leads ys ds ms zs es → Leads xs ds (then line m ms) zs es) × Says ss ys

-- a part with the `end` after it
ended : (other : Nodes) (ss : List Said) (xs : List Item) (line : ℕ) → LeadsNodes other (said end_action ∷ ss) xs
    → LeadsBy Closes other ss (item line (action_item plain_else) ∷ xs)
ended other ss xs line (ms, alike, _, leads, says s) = (ms, alike, _, λ ds. an_else (leads ds), s)

else-leads : (other : Nodes) → ((ss : List Said) (xs : List Item) → Says (nodes_said other ++ ss) xs → LeadsNodes other ss xs)
    → (ss : List Said) (xs : List Item) → Says (else_said other (nodes_said other) ++ said end_action ∷ ss) xs → LeadsBy Closes other ss xs
else-leads none ih ss _ (says s) = (none, refl, _, λ ds. an_end, s)
else-leads (then line n ns) ih ss _ (says s) = ended (then line n ns) ss _ _ (ih (said end_action ∷ ss) _ s)

control-parts : (c : Control) (h : Header) (body other : Nodes)
    → ((ss : List Said) (xs : List Item) → Says (nodes_said body ++ ss) xs → LeadsNodes body ss xs)
    → ((ss : List Said) (xs : List Item) → Says (nodes_said other ++ ss) xs → LeadsNodes other ss xs)
    → (ss : List Said) (xs : List Item)
    → Says ((said (opening c h) ∷ (nodes_said body ++ (else_said other (nodes_said other) ++ said end_action ∷ []))) ++ ss) xs
    → LeadsNode (control_node c h body other) ss xs
control-parts c h body other in_body in_other ss _ (says {line = line} s) =
    let (bs, e, ys, b, t) = in_body _ _ (simp append_assoc at s) in
    let (os, f, zs, o, u) = else-leads other in_other ss ys t in
    (line, control_node c h bs os, cc, zs, λ ms ws ds es l. a_control {zs = zs} {other = os} (b ds) (o ds) l, u)

mutual
  node-leads : (n : NodeKind) (ss : List Said) (xs : List Item) → Says (node_said n ++ ss) xs → LeadsNode n ss xs
  node-leads (text bytes) ss _ (says_text s) = (_, text bytes, refl, _, λ ms zs ds es. a_node a_text, s)
  node-leads (action h) ss _ (says s) = (_, action h, refl, _, λ ms zs ds es. a_node an_action, s)
  node-leads (control_node c h body other) ss xs s =
      control-parts c h body other (nodes-leads body) (nodes-leads other) ss xs (rw (control-said c h body other) at s)
  node-leads break_node ss _ (says s) = (_, break_node, refl, _, λ ms zs ds es. a_node a_break, s)
  node-leads continue_node ss _ (says s) = (_, continue_node, refl, _, λ ms zs ds es. a_node a_continue, s)
  node-leads (template_node name given) ss _ (says s) = (_, template_node name given, refl, _, λ ms zs ds es. a_node a_template, s)

  nodes-leads : (ns : Nodes) (ss : List Said) (xs : List Item) → Says (nodes_said ns ++ ss) xs → LeadsNodes ns ss xs
  nodes-leads none ss xs s = (none, refl, xs, λ ds. nothing, s)
  nodes-leads (then line n ns) ss xs s =
      let (at, m, e, ys, leads, t) = node-leads n (nodes_said ns ++ ss) xs (rw append_assoc at s) in
      let (ms, f, zs, more, u) = nodes-leads ns ss ys t in
      (then at m ms, cc, zs, λ ds. leads ms zs ds ds (more ds), u)

-- ---- all of them

pub spells-alike : (ns : Nodes) (xs : List Item) → Says (nodes_said ns) xs → (ms : Nodes) × Spells xs [] ms × (unlined ms ≡ unlined ns)
spells-alike ns xs s = all (nodes-leads ns [] xs (rw append-nil s))
  where
    all : LeadsNodes ns [] xs → (ms : Nodes) × Spells xs [] ms × (unlined ms ≡ unlined ns)
    all (ms, alike, _, leads, says_nothing) = (ms, spelled (leads []), alike)

-- ---- a set

-- the items spell these templates, apart from files and lines, and a newline after each
abbrev pub SpellsSet : List Template → List Item → Type 0
SpellsSet ts xs =
    (ds : List Definition) × (own : Nodes) × Spells xs ds own × (map unlined_definition ds ≡ map unlined_template ts) × (unlined own ≡ newline_nodes ts)

pub set-leads : (ts : List Template) (xs : List Item) → Says (flat_map template_said ts) xs → SpellsSet ts xs
set-leads [] _ says_nothing = ([], none, spelled nothing, refl, refl)
set-leads (t ∷ ts) _ (says {line = line} s) = first _ (nodes-leads t.1.nodes _ _ (rw append_assoc at s)) (set-leads ts)
  where
    first : (xs : List Item) → LeadsNodes t.1.nodes (said end_action ∷ said_text (codes "\n") ∷ flat_map template_said ts) xs
        → ((xs : List Item) → Says (flat_map template_said ts) xs → SpellsSet ts xs)
        → SpellsSet (t ∷ ts) (item line (action_item (define_action t.0)) ∷ xs)
    first _ (ms, alike, _, leads, says (says_text {line = at} s)) more =
        let (ds, own, spells, same, newlines) = more _ s in
        (definition line t.0 ms ∷ ds, then at (text (codes "\n")) own, spelled (a_define (leads ds) (a_node a_text (led spells))), cc, cc)

are-parts : (ss : List Said) → AreSaid ss → AreParts (map part_of ss)
are-parts [] h = tt
are-parts (said_text t ∷ ss) h = (h.0, are-parts ss h.1)
are-parts (said a ∷ ss) h = (action-inside a h.0, are-parts ss h.1)

within : (a : Action) → OfAction a → depth_of a ≤ most_deep
within (pipeline_action r) h = h.2.1
within (opening c r) h = h.2.1
within (else_branch br r) h = h.2.1
within (template_action name (Some p)) h = h.1.1
within (block_action name p) h = h.1.1
within _ h = omega arith

-- pieces are read as items that say this
items-said : (ss : List Said) (ps : List Piece) → AreSaid ss → SamePieces (map part_of ss) ps
    → (xs : List Item) × AllZip (IsItem every_action) ps xs × Says ss xs
items-said [] _ h no_piece = ([], tt, says_nothing)
items-said (said_text t ∷ ss) _ h (same_text {line = line} s) =
    let (xs, are, say) = items-said ss _ h.1 s in (item line (text_item t) ∷ xs, (text_read, are), says_text say)
items-said (said a ∷ ss) _ h (same_action {line = line} s) =
    let (xs, are, say) = items-said ss _ h.1 s in
    (item line (action_item a) ∷ xs, (read (spells-tokens a h.0) refl (within a h.0), are), says say)

-- what is said is joined part by part
said-joined : (before : Option (List ℕ)) (ss : List Said) → joined_parts before (map part_of ss) ≡ file_of before ss
said-joined before [] = refl
said-joined before (said_text t ∷ ss) = ap (λ bs. parting before ++ (t ++ bs)) (said-joined (Some t) ss)
said-joined before (said a ∷ ss) = ap (λ bs. opening_after before ++ (bytes_of (action_tokens a) ++ (codes "}}" ++ bs))) (said-joined None ss)

-- a file of what is said has items that say it
pub has-said : (ss : List Said) → AreSaid ss → (xs : List Item) × HasItems every_action (file_of None ss) xs × Says ss xs
has-said ss h =
    let c = cut-back (map part_of ss) (are-parts ss h) [] (absent-nil 123 123) 1 in
    let (xs, are, say) = items-said ss c.pieces h c.same in
    (xs, (c.pieces, subst (λ bs. Cuts false 1 bs c.pieces) (said-joined None ss) c.cuts, are), say)

pub reads_same : ReadsSame
reads_same ns h =
    let (xs, has, say) = has-said (nodes_said ns) h in
    let (ms, spells, alike) = spells-alike ns xs say in
    record { items = xs; has = has; say = say; nodes = ms; spells = spells; alike = alike }

-- ---- a set

newline-is-text : IsText (codes "\n")
newline-is-text = record { some = omega arith; clear = absent-cons 123 123 10 [] refl (absent-nil 123 123) }

pub set-is-said : (ts : List Template) → ArePrintable ts → AreSaid (flat_map template_said ts)
set-is-said [] h = tt
set-is-said (t ∷ ts) h = said-append (template_said t) (flat_map template_said ts)
    (h.0, said-append (nodes_said t.1.nodes) (said end_action ∷ said_text (codes "\n") ∷ []) h.1 (tt, (newline-is-text, tt))) (set-is-said ts h.2)

pub set_reads_same : SetReadsSame
set_reads_same ts h =
    let (xs, has, say) = has-said (flat_map template_said ts) (set-is-said ts h) in
    let (ds, own, spells, alike, newlines) = set-leads ts xs say in
    record { items = xs; has = has; definitions = ds; own = own; spells = spells; alike = alike; newlines = newlines }
