-- For `formed` and `accepted_back`: what an accepted list spells is formed, and what formed nodes say is accepted.
use Rattle.std.proofs.Common.{arith, ◌≡◌, ◌∙◌, ℕ, ◌+◌, ◌≤◌, Bool, true, false, not, ◌&&◌, leb, nat_lt, List, [], ◌∷◌, ◌++◌, length, take, Some, None}
use Rattle.std.proofs.Common.{refl, sym, ap, subst, map, append_assoc, length-take}
use Rattle.std.proofs.Math.Seq.{take-length}
use Rattle.std.proofs.lemmas.Bool.{and_parts}
use Rattle.std.proofs.lemmas.List.{append-nil, take-take}
use Rattle.tmpl_syntax.proofs.NameLemmas.{with-longer, take-with, part-low, part-high}
use Rattle.std.specs.Cmp.Derive.{both_true}
use Rattle.tmpl_grammar.specs.declared.action.Branch.{Branch}
use Rattle.tmpl_grammar.specs.declared.action.Branch.TheVariants as branch
use Rattle.tmpl_grammar.specs.declared.tree.Control.{Control}
use Rattle.tmpl_grammar.specs.declared.tree.Control.TheVariants.{If}
use Rattle.tmpl_syntax.specs.computed.Frames.{Frame, top, loops, in_loop, levels, takes_else, is_known, knows, enter_opening, with_part, Known, with_inner, with_names}
use Rattle.tmpl_syntax.specs.Place.Opening.{Opening}
use Rattle.tmpl_syntax.specs.Place.Opening as opened
use Rattle.tmpl_grammar.specs.Tree.{Header}
use Rattle.tmpl_syntax.specs.Tree.{NodeKind, text, action, control_node, break_node, continue_node, template_node, Nodes, none, then, Definition}
use Rattle.tmpl_grammar.specs.Action.{end_action, control_in}
use Rattle.tmpl_syntax.specs.Item.{Item}
use Rattle.tmpl_syntax.specs.Place.Role.{Name, names_of, names_given, plain, opener, act_of, Role, roles_of}
use Rattle.tmpl_syntax.specs.Place.Open.{is_template}
use Rattle.tmpl_syntax.specs.Place.Body.{joins, most_levels}
use Rattle.tmpl_syntax.specs.computed.Frames.{fine, Judged}
use Rattle.tmpl_syntax.specs.computed.Frames.{opened_names, closed_if, none_known, verdict_of}
use Rattle.tmpl_syntax.specs.Spelling.{a_text, an_action, a_break, a_continue, a_template}
use Rattle.tmpl_syntax.proofs.LeadsLemmas.{Leads, nothing, a_node, a_control, a_define, a_block, Closes, an_end, an_else, an_else_branch, led}
use Rattle.tmpl_syntax.specs.Print.Printed.{Said, said_text, said, node_said, nodes_said}
use Rattle.tmpl_syntax.specs.computed.Print.{else_said}
use Rattle.tmpl_syntax.specs.Print.Laws.{Says, says_nothing, says_text, says, AcceptsBack}
use Rattle.tmpl_syntax.proofs.StepLemmas.{joins-control}
use Rattle.tmpl_syntax.proofs.PrintableNodeLemmas.{control-said}
use Rattle.tmpl_syntax.proofs.VerdictLemmas.{one-verdict, judged-all}
use Rattle.tmpl_syntax.specs.Formed.{are_among, declared_to, else_scope, scope_after, is_formed, are_formed, AreFormed}
use Rattle.tmpl_syntax.specs.Laws.{SpellsFormed}
use Rattle.tmpl_syntax.proofs.FormedLemmas.{passes, is_fine, fine-back, passes-fine, seen_past, seen_after, take-seen, part-long, control-names}
use Rattle.tmpl_syntax.proofs.FormedLemmas.{Alike, alike-declared, alike-part, alike-past, placed-test, headed, alone-passes, opened-passes}
use Rattle.tmpl_syntax.proofs.FormedLemmas.{looped, unlooped, formed-lower, control-formed}

branch-loops : (b : Branch) (o : Opening) (x a : Bool) → o ≡ opened.control (control_in b) → loops o x a ≡ a
branch-loops branch.If o x a e = ap (λ j. loops j x a) e
branch-loops branch.With o x a e = ap (λ j. loops j x a) e

branch-formed : (b : Branch) (line : ℕ) (r : Header) (body other : Nodes) (scope : List Name) (loop : Bool) (n : ℕ)
    → are_formed (then line (control_node If r body other) none) scope loop n ≡ true
    → are_formed (then line (control_node (control_in b) r body other) none) scope loop n ≡ true
branch-formed branch.If line r body other scope loop n e = e
branch-formed branch.With line r body other scope loop n e = e

-- ---- an accepted list

-- the nodes that stand here are formed, the rest of the list passes, and the definitions are formed if those after them are
abbrev Formed : List Name → Bool → ℕ → Nodes → List Frame → Known → List Item → List Definition → List Definition → Type 0
Formed scope loop n ns fs after ys ds es =
    (are_formed ns scope loop n ≡ true) × (passes fs after (roles_of ys) ≡ true) × (AreFormed es → AreFormed ds)

-- after the `end` of a definition or a block the names are those before it, whatever its body is
mutual
  leads-formed : {xs ys : List Item} {ds es : List Definition} {ns : Nodes} → Leads xs ds ns ys es → (fs : List Frame) (known : Known) (scope : List Name)
      → Alike known.inner scope → passes fs known (roles_of xs) ≡ true
      → Formed scope (in_loop (top fs)) (levels (top fs)) ns fs (with_inner known (seen_after known.inner ns)) ys ds es
  leads-formed nothing fs known scope a h = (refl, h, λ k. k)
  leads-formed (a_node {line = line} {n = n} {xs = xs} is l) fs known scope a h =
      let past : Known = with_inner known (seen_past known.inner n) in
      let e = and_parts (is_formed n scope (in_loop (top fs)) (levels (top fs))) (passes fs past (roles_of xs))
      (sym (alone-passes fs known scope (roles_of xs) a line is) ∙ h) in
      let more = leads-formed l fs past (scope_after n scope) (alike-past n known.inner scope a) e.1 in
      (both_true e.0 more.0, more.1, more.2)
  leads-formed (a_define {xs = xs} {body = body} b l) fs known scope a h =
      let f : Frame = enter_opening opened.define (names_given None) (top fs) known.inner in
      let e = and_parts _ (passes (f ∷ fs) (opened_names opened.define [] known) (roles_of xs)) h in
      let inner = leads-formed b (f ∷ fs) (opened_names opened.define [] known) [] (λ x. refl) e.1 in
      let more = leads-formed l fs known scope a inner.1 in
      (more.0, more.1, λ k. (formed-lower body [] false f.levels 0 (omega arith) inner.0, inner.2 (more.2 k)))
  leads-formed (a_block {p = p} {xs = xs} {body = body} b l) fs known scope a h =
      let f : Frame = enter_opening opened.block (names_given (Some p)) (top fs) known.inner in
      let head = are_among scope (names_given (Some p)).uses in
      let e = and_parts (head && nat_lt (levels (top fs)) most_levels) (passes (f ∷ fs) (opened_names opened.block [] known) (roles_of xs))
      (sym (opened-passes fs known scope (roles_of xs) a opened.block (names_given (Some p)) refl) ∙ h) in
      let inner = leads-formed b (f ∷ fs) (opened_names opened.block [] known) [] (λ x. refl) e.1 in
      let more = leads-formed l fs known scope a inner.1 in (
        both_true (and_parts head (nat_lt (levels (top fs)) most_levels) e.0).0 more.0,
        more.1,
        λ k. (formed-lower body [] false f.levels 0 (omega arith) inner.0, inner.2 (more.2 k)),
      )
  leads-formed (a_control {c = c} {h = r} {xs = xs} {zs = zs} {body = body} {other = other} b o l) fs known scope a h =
      let names : List Name = known.inner in
      let ds : List Name = (names_of r).declares in
      let n : ℕ = levels (top fs) in
      let f : Frame = enter_opening (opened.control c) (names_of r) (top fs) names in
      let inside : Known = with_inner known (with_names names ds) in
      let e = and_parts (are_among scope (names_of r).uses && nat_lt n most_levels) (passes (f ∷ fs) inside (roles_of xs))
      (sym (opened-passes fs known scope (roles_of xs) a (opened.control c) (names_of r) refl) ∙ h) in
      let inner = leads-formed b (f ∷ fs) inside (declared_to r.binding scope) (alike-declared r.binding names scope a) e.1 in
      let after = closes-formed o f fs (with_inner known (seen_after inside.inner body)) (else_scope c r.binding scope) (alike-part c r names scope body a)
      refl (part-low c names ds) (part-long inside.inner body _ (part-high c names ds)) inner.1 in
      let here = both_true (both_true e.0
      (subst (λ k. are_formed body (declared_to r.binding scope) k (n + 1) ≡ true) (looped c (in_loop (top fs))) inner.0))
      (subst (λ k. are_formed other (else_scope c r.binding scope) k (n + 1) ≡ true) (unlooped c (in_loop (top fs))) after.0) in
      let more = leads-formed l fs known scope a (subst (λ k. passes fs (with_inner known k) (roles_of zs) ≡ true) (control-names names ds body) after.1) in
      (both_true here more.0, more.1, λ k. inner.2 (after.2 (more.2 k)))

  closes-formed : {xs zs : List Item} {ds es : List Definition} {other : Nodes} → Closes xs ds other zs es
      → (f : Frame) (fs : List Frame) (known : Known) (scope : List Name) → Alike (take f.part known.inner) scope
      → is_template f.opening ≡ false → f.start ≤ f.part → f.part ≤ length known.inner → passes (f ∷ fs) known (roles_of xs) ≡ true
      → Formed scope (loops f.opening true f.around) f.levels other fs (with_inner known (take f.start known.inner)) zs ds es
  closes-formed (an_end {xs = xs}) f fs known scope a own low high h =
      (refl, subst (λ t. passes fs (closed_if t (with_inner known (take f.start known.inner))) (roles_of xs) ≡ true) own h, λ k. k)
  closes-formed (an_else {xs = xs} {ys = ys} {other = other} l) f fs known scope a own low high h =
      let seen : List Name = take f.part known.inner in
      let g : Frame = with_part false (length seen) f in
      let e = and_parts _ (passes (g ∷ fs) (with_inner known seen) (roles_of xs)) h in
      let inner = leads-formed l (g ∷ fs) (with_inner known seen) scope a e.1 in
      let fits_in = length-take f.part known.inner in
      let last = subst (λ t. passes fs (closed_if t (with_inner known (take f.start (seen_after seen other)))) (roles_of ys) ≡ true) own inner.1 in (
        inner.0,
        subst (λ k. passes fs (with_inner known k) (roles_of ys) ≡ true) (take-seen f.start other seen (omega arith) ∙ take-take f.start f.part known.inner low)
            last,
        inner.2,
      )
  closes-formed (an_else_branch {line = line} {branch = b} {h = r} {xs = xs} {zs = zs} {body = body} {other = other} l o) f fs known scope a own low high h =
      let seen : List Name = take f.part known.inner in
      let ds : List Name = (names_of r).declares in
      let inside : List Name = with_names seen ds in
      let g : Frame = with_part true (length inside) f in
      let e = and_parts _ (passes (g ∷ fs) (with_inner known inside) (roles_of xs)) h in
      let t = placed-test (takes_else (Some b) (Some f)) (leb most_levels f.levels) (knows seen (names_of r).uses) e.0 in
      let control_is = joins-control b f.opening (and_parts (joins (Some b) f.opening) (not f.has_else) t.0).0 in
      let alike : Alike inside (declared_to r.binding scope) = alike-declared r.binding seen scope a in
      let inner = leads-formed l (g ∷ fs) (with_inner known inside) (declared_to r.binding scope) alike e.1 in
      let count = with-longer seen ds in
      let fits_in = length-take f.part known.inner in
      let whole = take-seen (length inside) body inside (omega arith) ∙ take-length inside in
      let after = closes-formed o g fs (with_inner known (seen_after inside body)) (declared_to r.binding scope)
      (λ x. ap (λ ns. is_known ns x) whole ∙ alike x) own (omega arith) (part-long inside body (length inside) (omega arith)) inner.1 in
      let in_body = subst (λ k. are_formed body (declared_to r.binding scope) k (f.levels + 1) ≡ true) (branch-loops b f.opening f.has_else f.around control_is
      ∙ sym (branch-loops b f.opening true f.around control_is)) inner.0 in
      let heads = sym (headed seen scope (names_of r).uses f.levels a) ∙ t.1 in (
        branch-formed b line r body other scope (loops f.opening true f.around) f.levels (both_true (both_true (both_true heads in_body) after.0) refl),
        subst (λ k. passes fs (with_inner known k) (roles_of zs) ≡ true) (take-seen f.start body inside (omega arith)
            ∙ take-with f.start seen ds (omega arith) ∙ take-take f.start f.part known.inner low) after.1,
        λ k. inner.2 (after.2 k),
      )

pub spells_formed : SpellsFormed
unfolding verdict_of
spells_formed items ds own judged spells =
    let v = one-verdict (roles_of items) (verdict_of (roles_of items)) fine (judged-all (roles_of items)) judged in
    let fit = leads-formed (led spells) [] none_known [] (λ x. refl) (sym (passes-fine (roles_of items) 0 [] none_known) ∙ ap is_fine v) in
    (fit.2 tt, fit.0)

-- ---- a printed list

abbrev pub role_said : Said → Role
role_said (said_text t) = plain (names_given None)
role_said (said a) = (act_of a)

abbrev pub roles_said : List Said → List Role
roles_said ss = map role_said ss

pub says-roles : {ss : List Said} {xs : List Item} → Says ss xs → roles_of xs ≡ roles_said ss
says-roles says_nothing = refl
says-roles (says_text s) = ap (λ rs. plain (names_given None) ∷ rs) (says-roles s)
says-roles (says {a = a} s) = ap (λ rs. (act_of a) ∷ rs) (says-roles s)

abbrev control_frame : Control → Bool → ℕ → ℕ → ℕ → Frame
control_frame c around n start part =
    record { opening = opened.control c; has_else = false; around = around; levels = n; start = start; part = part }

-- what formed nodes say passes where what is said after them does
abbrev pub Passes : Nodes → Type 0
Passes ns =
    (fs : List Frame) (known : Known) (scope : List Name) (ss : List Said) → Alike known.inner scope
    → are_formed ns scope (in_loop (top fs)) (levels (top fs)) ≡ true
    → passes fs (with_inner known (seen_after known.inner ns)) (roles_said ss) ≡ true → passes fs known (roles_said (nodes_said ns ++ ss)) ≡ true

-- .. an else part with the `end` after it
else-passes : (c : Control) (other : Nodes) → Passes other → (around : Bool) (n start part : ℕ) (fs : List Frame) (known : Known) (scope : List Name)
    (ss : List Said) → Alike (take part known.inner) scope → start ≤ part → part ≤ length known.inner → are_formed other scope around n ≡ true
    → passes fs (with_inner known (take start known.inner)) (roles_said ss) ≡ true
    → passes (control_frame c around n start part ∷ fs) known (roles_said (else_said other (nodes_said other) ++ said end_action ∷ ss)) ≡ true
else-passes c none in_other around n start part fs known scope ss a low high e more = more
else-passes c (then line m ms) in_other around n start part fs known scope ss a low high e more =
    let other : Nodes = then line m ms in
    let seen : List Name = take part known.inner in
    let fits_in = length-take part known.inner in
    in_other (with_part false (length seen) (control_frame c around n start part) ∷ fs) (with_inner known seen) scope (said end_action ∷ ss) a
    (subst (λ l. are_formed other scope l n ≡ true) (sym (unlooped c around)) e)
    (subst (λ ns. passes fs (with_inner known ns) (roles_said ss) ≡ true)
    (sym (take-seen start other seen (omega arith) ∙ take-take start part known.inner low)) more)

mutual
  node-passes : (n : NodeKind) (fs : List Frame) (known : Known) (scope : List Name) (ss : List Said) → Alike known.inner scope
      → is_formed n scope (in_loop (top fs)) (levels (top fs)) ≡ true
      → passes fs (with_inner known (seen_past known.inner n)) (roles_said ss) ≡ true → passes fs known (roles_said (node_said n ++ ss)) ≡ true
  node-passes (control_node c h body other) fs known scope ss a e more =
      let names : List Name = known.inner in
      let ds : List Name = (names_of h).declares in
      let n : ℕ = levels (top fs) in
      let f : Frame = enter_opening (opened.control c) (names_of h) (top fs) names in
      let inside : Known = with_inner known (with_names names ds) in
      let ends : List Said = else_said other (nodes_said other) in
      let rest : List Said = ends ++ said end_action ∷ ss in
      let p = control-formed c h body other scope (in_loop (top fs)) n e in
      let in_rest = else-passes c other (nodes-passes other) f.around f.levels f.start f.part fs (with_inner known (seen_after inside.inner body))
      (else_scope c h.binding scope) ss (alike-part c h names scope body a) (part-low c names ds) (part-long inside.inner body _ (part-high c names ds))
      p.in_other (subst (λ ns. passes fs (with_inner known ns) (roles_said ss) ≡ true) (sym (control-names names ds body)) more) in
      let in_body = nodes-passes body (f ∷ fs) inside (declared_to h.binding scope) rest (alike-declared h.binding names scope a)
      (subst (λ l. are_formed body (declared_to h.binding scope) l (n + 1) ≡ true) (sym (looped c (in_loop (top fs)))) p.in_body) in_rest in
      let joined : (nodes_said body ++ (ends ++ said end_action ∷ [])) ++ ss ≡ nodes_said body ++ rest = simp append_assoc in
      ap (λ ts. passes fs known (roles_said (ts ++ ss))) (control-said c h body other)
      ∙ ap (λ ts. passes fs known ((opener (opened.control c) (names_of h)) ∷ roles_said ts)) joined
      ∙ opened-passes fs known scope (roles_said (nodes_said body ++ rest)) a (opened.control c) (names_of h) refl
      ∙ both_true (both_true p.uses p.room) in_body
  node-passes (text bytes) fs known scope ss a e more = alone-passes fs known scope (roles_said ss) a 0 (a_text {bytes = bytes}) ∙ both_true e more
  node-passes (action h) fs known scope ss a e more = alone-passes fs known scope (roles_said ss) a 0 (an_action {h = h}) ∙ both_true e more
  node-passes (template_node name given) fs known scope ss a e more =
      alone-passes fs known scope (roles_said ss) a 0 (a_template {n = name} {p = given}) ∙ both_true e more
  node-passes break_node fs known scope ss a e more = alone-passes fs known scope (roles_said ss) a 0 a_break ∙ both_true e more
  node-passes continue_node fs known scope ss a e more = alone-passes fs known scope (roles_said ss) a 0 a_continue ∙ both_true e more

  pub nodes-passes : (ns : Nodes) → Passes ns
  nodes-passes none fs known scope ss a e more = more
  nodes-passes (then line n ns) fs known scope ss a e more =
      let p = and_parts (is_formed n scope (in_loop (top fs)) (levels (top fs))) _ e in
      rw append_assoc (node-passes n fs known scope (nodes_said ns ++ ss) a p.0
      (nodes-passes ns fs (with_inner known (seen_past known.inner n)) (scope_after n scope) ss (alike-past n known.inner scope a) p.1 more))

-- the own template of an accepted list
pub accepts-back : AcceptsBack
unfolding verdict_of
accepts-back items ds own judged spells read s =
    let passed = nodes-passes own [] none_known [] [] (λ x. refl) (spells_formed items ds own judged spells).1 refl in
    subst (Judged (roles_of read)) (fine-back (verdict_of (roles_of read))
    (passes-fine (roles_of read) 0 [] none_known ∙ ap (passes [] none_known) (says-roles s) ∙ rw append-nil at passed)) (judged-all (roles_of read))
