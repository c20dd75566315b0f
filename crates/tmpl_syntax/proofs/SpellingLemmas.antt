-- For `one_spelling` and `parts_before`: the items of an accepted file spell what is built from them, and nothing else.
use Rattle.std.proofs.Common.{◌≡◌, ℕ, Bool, true, false, not, ◌||◌, List, [], ◌∷◌, ◌++◌, refl, sym, ap, ◌∙◌, Option, Some, None}
use Rattle.std.proofs.lemmas.List.{map-append}
use Rattle.std.proofs.lemmas.Bool.{and_parts, not-true, or_right}
use Rattle.tmpl_syntax.specs.Fault.{Reason}
use Rattle.tmpl_syntax.specs.computed.Frames.{Frame, Known, none_known, top, takes_else, names_at, fault_at, frames_after, unless_fault, verdict_from}
use Rattle.tmpl_syntax.specs.computed.Frames.{verdict_of}
use Rattle.tmpl_syntax.specs.Tree.{NodeKind, template_node, Nodes, none, Definition}
use Rattle.tmpl_grammar.specs.Action.{pipeline_action, opening, plain_else, else_branch, end_action, break_action, continue_action}
use Rattle.tmpl_grammar.specs.Action.{define_action, template_action, block_action}
use Rattle.tmpl_syntax.specs.Item.{ItemKind, Item, item, text_item, flawed_item, deep_item, action_item}
use Rattle.tmpl_syntax.specs.Place.Role.{Name, role_of, roles_of}
use Rattle.tmpl_syntax.specs.Place.Open.{is_template}
use Rattle.tmpl_syntax.specs.Place.Body.{joins}
use Rattle.tmpl_syntax.specs.computed.Frames.{Verdict, fine}
use Rattle.tmpl_syntax.proofs.StepLemmas.{joins-own}
use Rattle.tmpl_syntax.proofs.VerdictLemmas.{one-verdict, judged-all}
use Rattle.tmpl_grammar.specs.declared.action.Branch.{Branch}
use Rattle.tmpl_syntax.specs.Spelling.{IsNode, a_text, an_action, a_break, a_continue, a_template, Spells}
use Rattle.tmpl_syntax.proofs.LeadsLemmas.{Leads, nothing, a_node, a_control, a_define, a_block, Closes, an_end, an_else, an_else_branch, led, spelled}
use Rattle.tmpl_syntax.specs.computed.Build as build
use Rattle.tmpl_syntax.specs.computed.Build.{no_parts, first_of, rest_of, with_node_before, put_before, control_before, definition_before, else_before}
use Rattle.tmpl_syntax.specs.computed.Build.{branch_before, end_before, parts_with, parts_before, nodes_from, definitions_from}
use Rattle.tmpl_syntax.specs.Laws.{SpellsWhereFine, SpellsAtMostOne}
use Rattle.tmpl_syntax.proofs.NameLemmas.{faultless}

-- a part after which an else may stand
open-end : (b : Option Branch) (f : Frame) → takes_else b (Some f) ≡ true → (is_template f.opening || f.has_else) ≡ false
open-end b f e =
    let p = and_parts (joins b f.opening) (not f.has_else) e in ap (λ t. t || f.has_else) (joins-own b f.opening p.0) ∙ not-true f.has_else p.1

-- only the `end` may stand after a part: its plain else came already, or it is the body of a template
abbrev ends_only : Frame → Bool
ends_only f = is_template f.opening || f.has_else

-- what stands after a part
data Closing : Bool → List Item → List Definition → Nodes → List Item → List Definition → Type 0 where
  by_end : {b : Bool} {line : ℕ} {zs : List Item} {gs : List Definition} → Closing b (item line (action_item end_action) ∷ zs) gs none zs gs
  by_else : {ys zs : List Item} {es gs : List Definition} {other : Nodes} → Closes ys es other zs gs → Closing false ys es other zs gs

-- inside these frames the rest of the items spells these parts
abbrev Rest : List Frame → List Item → List Definition → build.Level → List build.Level → Type 0
Rest [] xs ds l ls = Leads xs ds l.nodes [] []
Rest (f ∷ fs) xs ds l ls =
    (ys : List Item) × (es : List Definition) × Leads xs ds l.nodes ys es × (zs : List Item) × (gs : List Definition)
    × Closing (ends_only f) ys es l.other zs gs × Rest fs zs gs (first_of ls) (rest_of ls)

-- items before the rest
rest-led : (fs : List Frame) (xs zs : List Item) (ds gs : List Definition) (ns : Nodes) (l : build.Level) (ls : List build.Level)
    → ((ys : List Item) (es : List Definition) → Leads zs gs l.nodes ys es → Leads xs ds ns ys es) → Rest fs zs gs l ls
    → Rest fs xs ds (record { nodes = ns; other = l.other }) ls
rest-led [] xs zs ds gs ns l ls more r = more [] [] r
rest-led (f ∷ fs) xs zs ds gs ns l ls more r = (r.0, r.1, more r.0 r.1 r.2, r.3, r.4, r.5, r.6)

closes-of : {ys zs : List Item} {es gs : List Definition} {other : Nodes} (b : Bool) → b ≡ false → Closing b ys es other zs gs → Closes ys es other zs gs
closes-of b e by_end = an_end
closes-of _ e (by_else c) = c

closing-of : {ys zs : List Item} {es gs : List Definition} {other : Nodes} (b : Bool) → b ≡ false → Closes ys es other zs gs → Closing b ys es other zs gs
closing-of b e c = rw e (by_else c)

-- after a plain else, and in the body of a template, only the `end` stands
ended : {xs ys zs : List Item} {ds es gs : List Definition} {ns other : Nodes} (b : Bool) → b ≡ true → Closing b ys es other zs gs → Leads xs ds ns ys es
    → (line : ℕ) × Leads xs ds ns (item line (action_item end_action) ∷ zs) gs
ended b e (by_end {line = line}) d = (line, d)
ended _ e (by_else c) d = cc

module _ (names : List Name) (xs : List Item) (p : build.OpenParts) where
  -- a plain action's node
  at-node : {what : ItemKind} {n : NodeKind} (fs : List Frame) (line : ℕ) → IsNode what n → Rest fs xs p.definitions p.inner p.around
      → Rest fs (item line what ∷ xs) p.definitions (with_node_before line n p.inner) p.around
  at-node {n = n} fs line is r = rest-led fs _ xs p.definitions p.definitions _ p.inner p.around (λ ys es d. a_node is d) r

  step : (x : Item) (fs : List Frame) → fault_at (role_of x) (top fs) names ≡ None
      → Rest (frames_after (role_of x) fs names) xs p.definitions p.inner p.around
      → Rest fs (x ∷ xs) (parts_with x p).definitions (parts_with x p).inner (parts_with x p).around
  step (item line (text_item bytes)) fs e r = at-node fs line a_text r
  step (item line (flawed_item reason)) fs e r = cc
  step (item line (deep_item branch)) fs e r = let g : true ≡ false = (faultless _ _ _ e).1 in cc
  step (item line (action_item (pipeline_action h))) fs e r = at-node fs line an_action r
  step (item line (action_item (opening c h))) fs e r =
      rest-led fs _ r.3 p.definitions r.4 _ (first_of p.around) (rest_of p.around) (λ ys es d. a_control r.2 (closes-of false refl r.5) d) r.6
  step (item line (action_item plain_else)) [] e r = cc
  step (item line (action_item plain_else)) (f ∷ fs) e r =
      let takes = open-end None f (faultless _ _ _ e).0 in
      let body = ended (is_template f.opening || true) (or_right (is_template f.opening) true refl) r.5 r.2 in
      (item line (action_item plain_else) ∷ xs, p.definitions, nothing, r.3, r.4, closing-of (ends_only f) takes (an_else {last = body.0} body.1), r.6)
  step (item line (action_item (else_branch branch h))) [] e r = cc
  step (item line (action_item (else_branch branch h))) (f ∷ fs) e r =
      let takes = open-end (Some branch) f (faultless _ _ _ e).0 in
      let other = closes-of (ends_only f) takes r.5 in
      (item line (action_item (else_branch branch h)) ∷ xs, p.definitions, nothing, r.3, r.4, closing-of (ends_only f) takes (an_else_branch r.2 other), r.6)
  step (item line (action_item end_action)) [] e r = cc
  step (item line (action_item end_action)) (f ∷ fs) e r =
      (item line (action_item end_action) ∷ xs, p.definitions, nothing, xs, p.definitions, by_end, r)
  step (item line (action_item break_action)) fs e r = at-node fs line a_break r
  step (item line (action_item continue_action)) fs e r = at-node fs line a_continue r
  step (item line (action_item (template_action name given))) fs e r = at-node fs line a_template r
  step (item line (action_item (define_action name))) fs e r =
      let body = ended true refl r.5 r.2 in
      rest-led fs _ r.3 _ r.4 _ (first_of p.around) (rest_of p.around) (λ ys es d. a_define {last = body.0} body.1 d) r.6
  step (item line (action_item (block_action name q))) fs e r =
      let body = ended true refl r.5 r.2 in
      rest-led fs _ r.3 _ r.4 _ (first_of p.around) (rest_of p.around) (λ ys es d. a_block {last = body.0} body.1 d) r.6

unless-fine : (o : Option Reason) (i : ℕ) (v : Verdict) → unless_fault o i v ≡ fine → (o ≡ None) × (v ≡ fine)
unless-fine None i v e = (refl, e)
unless-fine (Some f) i v e = cc

rest-from : (xs : List Item) (i : ℕ) (known : Known) (fs : List Frame) → verdict_from i fs known (roles_of xs) ≡ fine
    → let p = parts_before xs no_parts in Rest fs xs p.definitions p.inner p.around
rest-from [] i known [] e = nothing
rest-from [] i known (f ∷ fs) e = cc
rest-from (x ∷ xs) i known fs e =
    let seen = names_at (role_of x) (top fs) known.inner in
    let h = unless-fine (fault_at (role_of x) (top fs) seen) i _ e in
    step seen xs (parts_before xs no_parts) x fs h.0 (rest-from xs _ _ _ h.1)

-- an accepted file's items spell the definitions and nodes that are built from them
pub spells-fine : (items : List Item) → verdict_of (roles_of items) ≡ fine → Spells items (definitions_from items) (nodes_from items)
unfolding verdict_of nodes_from definitions_from
spells-fine items e = spelled (rest-from items 0 none_known [] e)

pub spells-where-fine : SpellsWhereFine
spells-where-fine items j = spells-fine items (one-verdict (roles_of items) (verdict_of (roles_of items)) fine (judged-all (roles_of items)) j)

-- ---- what items spell is built from them, so they spell nothing else

-- a part of these nodes, those around it, and definitions
abbrev seen_parts : Nodes → Nodes → List build.Level → List Definition → build.OpenParts
seen_parts nodes other around ds = record { inner = record { nodes = nodes; other = other }; around = around; definitions = ds }

-- .. by the whole part
abbrev parts_at : build.Level → List build.Level → List Definition → build.OpenParts
parts_at l around ds = record { inner = l; around = around; definitions = ds }

node-built : {what : ItemKind} {n : NodeKind} (line : ℕ) (p : build.OpenParts) → IsNode what n → parts_with (item line what) p ≡ put_before line n p
node-built line p a_text = refl
node-built line p _ = refl

-- what is built of the items before others, by what is built of those others
mutual
  leads-built : {xs ys : List Item} {ds es : List Definition} {ns : Nodes} → Leads xs ds ns ys es → (other : Nodes) (around : List build.Level)
      → parts_before ys no_parts ≡ seen_parts none other around es → parts_before xs no_parts ≡ seen_parts ns other around ds
  leads-built nothing other around e = e
  leads-built (a_node {line = line} {n = n} is l) other around e = node-built line _ is ∙ ap (put_before line n) (leads-built l other around e)
  leads-built (a_control {line = line} {c = c} {h = h} b o l) other around e =
      ap (control_before line c h) (leads-built b _ _ (closes-built o _ _ (leads-built l other around e)))
  leads-built (a_define {line = line} {name = name} b l) other around e =
      ap (definition_before line name) (leads-built b _ _ (ap end_before (leads-built l other around e)))
  leads-built (a_block {line = line} {name = name} {p = p} b l) other around e =
      ap (λ q. put_before line (template_node name (Some p)) (definition_before line name q)) (leads-built b _ _ (ap end_before (leads-built l other around e)))

  closes-built : {xs ys : List Item} {ds es : List Definition} {ns : Nodes} → Closes xs ds ns ys es → (l : build.Level) (around : List build.Level)
      → parts_before ys no_parts ≡ parts_at l around es → parts_before xs no_parts ≡ seen_parts none ns (l ∷ around) ds
  closes-built an_end l around e = ap end_before e
  closes-built (an_else d) l around e = ap else_before (leads-built d _ _ (ap end_before e))
  closes-built (an_else_branch {line = line} {branch = branch} {h = h} d o) l around e =
      ap (branch_before line branch h) (leads-built d _ _ (closes-built o l around e))

pub spells-built : (items : List Item) (ds : List Definition) (ns : Nodes) → Spells items ds ns → (definitions_from items ≡ ds) × (nodes_from items ≡ ns)
unfolding nodes_from definitions_from
spells-built items ds ns d =
    let e = leads-built (led d) none [] refl in (ap (λ (p : build.OpenParts). p.definitions) e, ap (λ (p : build.OpenParts). p.inner.nodes) e)

pub one-spelling : SpellsAtMostOne
one-spelling items ds es ns ms d e =
    let p = spells-built items ds ns d in let q = spells-built items es ms e in (sym p.0 ∙ q.0, sym p.1 ∙ q.1)

pub ruleset spellings = (spells-where-fine, one-spelling)

-- ---- the last item's part, which is built first

pub before-last : (xs : List Item) (x : Item) (p : build.OpenParts) → parts_before (xs ++ x ∷ []) p ≡ parts_before xs (parts_with x p)
before-last [] x p = refl
before-last (y ∷ xs) x p = ap (parts_with y) (before-last xs x p)

pub ruleset lasts = (before-last, map-append)
