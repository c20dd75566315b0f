-- For `formed` and `accepted_back`: what the judge asks of items, as a test, and what it says of nodes and a scope.
use Rattle.std.proofs.Common.{arith, ◌≡◌, ◌∙◌, ℕ, ◌+◌, ◌≤◌, Bool, true, false, not, ◌||◌, ◌&&◌, leb, nat_lt, List, [], ◌∷◌, length, take}
use Rattle.std.proofs.Common.{Option, Some, None, refl, sym, ap, length-take}
use Rattle.std.proofs.Math.Bool.{and_comm, or_comm}
use Rattle.std.proofs.lemmas.Bool.{false≢true, and_parts, lt-ltb, ltb-true}
pub use Rattle.std.proofs.lemmas.Bool.{or_left as or-left, or_right as or-right}
use Rattle.std.specs.Cmp.Derive.{both_true}
use Rattle.std.specs.Str.{bytes_eq}
use Rattle.tmpl_grammar.specs.Tree.{Binding, unbound, declare, assign, declare_pair, Header}
use Rattle.tmpl_grammar.specs.declared.tree.Control.{Control}
use Rattle.tmpl_grammar.specs.declared.tree.Control.TheVariants.{If, Range}
use Rattle.tmpl_syntax.specs.Fault.{Reason}
use Rattle.tmpl_syntax.specs.Tree.{NodeKind, action, control_node, Nodes, none, then}
use Rattle.tmpl_syntax.specs.Item.{ItemKind, item}
use Rattle.tmpl_syntax.specs.Spelling.{IsNode, a_text, an_action, a_break, a_continue, a_template}
use Rattle.tmpl_syntax.specs.Formed.{are_among, declared_to, else_scope, is_looped, scope_after, is_formed, are_formed}
use Rattle.tmpl_syntax.specs.Place.Opening.{Opening}
use Rattle.tmpl_syntax.specs.Place.Opening as opened
use Rattle.tmpl_syntax.specs.Place.Role.{Name, Names, declared_by, names_of, names_given, opener, Role, role_of}
use Rattle.tmpl_syntax.specs.Place.Body.{most_levels}
use Rattle.tmpl_syntax.specs.computed.Frames.{Verdict, fine, is_level}
use Rattle.tmpl_syntax.specs.computed.Frames.{Frame, top, loops, in_loop, levels, is_known, knows, first_fault, part_of, enter_opening, names_at, fault_at}
use Rattle.tmpl_syntax.specs.computed.Frames.{frames_after, unless_fault, Known, with_inner, with_names, opened_names, known_after, verdict_from}
use Rattle.tmpl_syntax.proofs.NameLemmas.{one-known, with-longer, take-with, take-before, part-high, else_names, take-part}
use Rattle.std.proofs.lemmas.Bool.Decides.{nat_tests}

-- ---- what the judge asks, as a test

abbrev pub no_fault : Option Reason → Bool
no_fault None = true
no_fault (Some f) = false

abbrev pub no_frame : List Frame → Bool
no_frame [] = true
no_frame (f ∷ fs) = false

-- none of the items has a fault, and nothing is open at their end
abbrev pub passes : List Frame → Known → List Role → Bool
passes fs known [] = no_frame fs
passes fs known (x ∷ xs) =
    let seen = names_at x (top fs) known.inner in
    no_fault (fault_at x (top fs) seen)
    && passes (frames_after x fs seen) (known_after x (top fs) (with_inner known seen)) xs

abbrev pub is_fine : Verdict → Bool
is_fine fine = true
is_fine _ = false

pub fine-back : (v : Verdict) → is_fine v ≡ true → v ≡ fine
fine-back fine e = refl
fine-back _ e = absurd (false≢true e)

pub passes-fine : (xs : List Role) (i : ℕ) (fs : List Frame) (known : Known) → is_fine (verdict_from i fs known xs) ≡ passes fs known xs
passes-fine [] i [] known = refl
passes-fine [] i (f ∷ fs) known = refl
passes-fine (x ∷ xs) i fs known =
    let seen : List Name = names_at x (top fs) known.inner in
    let next : List Frame = frames_after x fs seen in
    let past : Known = known_after x (top fs) (with_inner known seen) in
    go (fault_at x (top fs) seen) (verdict_from (i + 1) next past xs) (passes next past xs) (passes-fine xs (i + 1) next past)
  where
    go : (o : Option Reason) (v : Verdict) (b : Bool) → is_fine v ≡ b → is_fine (unless_fault o i v) ≡ (no_fault o && b)
    go None v b e = e
    go (Some f) v b e = refl

-- ---- the names in sight

abbrev pub seen_past : List Name → NodeKind → List Name
seen_past names (action h) = with_names names (names_of h).declares
seen_past names _ = names

abbrev pub seen_after : List Name → Nodes → List Name
seen_after names none = names
seen_after names (then line n ns) = seen_after (seen_past names n) ns

-- the first names stay
take-past : (k : ℕ) (n : NodeKind) (names : List Name) → k ≤ length names → take k (seen_past names n) ≡ take k names
take-past k (action r) names h = take-with k names (names_of r).declares h
take-past k _ names h = refl

past-longer : (n : NodeKind) (names : List Name) → length names ≤ length (seen_past names n)
past-longer (action h) names = with-longer names (names_of h).declares
past-longer _ names = omega arith

pub take-seen : (k : ℕ) (ns : Nodes) (names : List Name) → k ≤ length names → take k (seen_after names ns) ≡ take k names
take-seen k none names h = refl
take-seen k (then line n ns) names h = let longer = past-longer n names in take-seen k ns (seen_past names n) (omega arith) ∙ take-past k n names h

-- no names are lost
pub part-long : (names : List Name) (ns : Nodes) (k : ℕ) → k ≤ length names → k ≤ length (seen_after names ns)
part-long names ns k h = omega (arith, ap length (take-seen k ns names h), length-take k (seen_after names ns), length-take k names)

-- the names before a control are those after it
pub control-names : (names ds : List Name) (body : Nodes) → take (length names) (seen_after (with_names names ds) body) ≡ names
control-names names ds body = take-seen (length names) body (with_names names ds) (with-longer names ds) ∙ take-before names ds

-- ---- .. and in scope

-- the same names, in whatever order
abbrev pub Alike : List Name → List Name → Type 0
Alike names scope = (x : Name) → is_known names x ≡ is_known scope x

pub alike-uses : (names scope uses : List Name) → Alike names scope → knows names uses ≡ are_among scope uses
alike-uses names scope [] a = refl
alike-uses names scope (x ∷ xs) a = ap (λ b. b && knows names xs) (a x) ∙ ap (λ b. is_known scope x && b) (alike-uses names scope xs a)

pub alike-declared : (b : Binding) (names scope : List Name) → Alike names scope → Alike (with_names names (declared_by b)) (declared_to b scope)
alike-declared unbound names scope a x = a x
alike-declared (assign name) names scope a x = a x
alike-declared (declare name) names scope a x =
    one-known names name x ∙ ap (λ b. b || bytes_eq x name) (a x) ∙ or_comm (is_known scope x) (bytes_eq x name)
alike-declared (declare_pair key name) names scope a x =
    one-known (with_names names (key ∷ [])) name x
    ∙ ap (λ b. b || bytes_eq x name) (one-known names key x ∙ ap (λ b. b || bytes_eq x key) (a x) ∙ or_comm (is_known scope x) (bytes_eq x key))
    ∙ or_comm (bytes_eq x key || is_known scope x) (bytes_eq x name)

alike-else : (c : Control) (b : Binding) (names scope : List Name) → Alike names scope → Alike (else_names c names (declared_by b)) (else_scope c b scope)
alike-else Range b names scope a = a
alike-else _ b names scope a = alike-declared b names scope a

-- what an else part sees after this body
pub alike-part : (c : Control) (h : Header) (names scope : List Name) (body : Nodes) → Alike names scope
    → Alike (take (part_of c (length names) (length (with_names names (names_of h).declares))) (seen_after (with_names names (names_of h).declares) body))
    (else_scope c h.binding scope)
alike-part c h names scope body a x =
    let ds : List Name = (names_of h).declares in
    ap (λ ns. is_known ns x) (take-seen _ body (with_names names ds) (part-high c names ds) ∙ take-part c names ds) ∙ alike-else c h.binding names scope a x

pub alike-past : (n : NodeKind) (names scope : List Name) → Alike names scope → Alike (seen_past names n) (scope_after n scope)
alike-past (action h) names scope a = alike-declared h.binding names scope a
alike-past _ names scope a = a

-- ---- one item

first-none : (deep known : Bool) → no_fault (first_fault true deep known) ≡ (not deep && known)
first-none true known = refl
first-none false true = refl
first-none false false = refl

jump-test : (l : Bool) → no_fault (first_fault l false true) ≡ l
jump-test true = refl
jump-test false = refl

-- what a fault that is none says
pub placed-test : (p d k : Bool) → no_fault (first_fault p d k) ≡ true → (p ≡ true) × ((not d && k) ≡ true)
placed-test true d k e = (refl, sym (first-none d k) ∙ e)
placed-test false d k e = absurd (false≢true e)

room-is : (m n : ℕ) → not (leb m n) ≡ nat_lt n m
room-is m n = grind (arith, nat_tests)

pub headed : (names scope uses : List Name) (n : ℕ) → Alike names scope
    → (not (leb most_levels n) && knows names uses) ≡ (are_among scope uses && nat_lt n most_levels)
headed names scope uses n a =
    and_comm (not (leb most_levels n)) (knows names uses) ∙ ap (λ b. b && not (leb most_levels n)) (alike-uses names scope uses a)
    ∙ ap (λ b. are_among scope uses && b) (room-is most_levels n)

module _ (fs : List Frame) (known : Known) (scope : List Name) (rs : List Role) (a : Alike known.inner scope) where
  -- an item that is a node by itself
  pub alone-passes : {what : ItemKind} {n : NodeKind} (line : ℕ) → IsNode what n → passes fs known (role_of (item line what) ∷ rs)
      ≡ (is_formed n scope (in_loop (top fs)) (levels (top fs)) && passes fs (with_inner known (seen_past known.inner n)) rs)
  alone-passes line a_text = refl
  alone-passes line (an_action {h = h}) =
      ap (λ b. b && passes fs (with_inner known (with_names known.inner (names_of h).declares)) rs)
      (first-none false (knows known.inner (names_of h).uses) ∙ alike-uses known.inner scope (names_of h).uses a)
  alone-passes line a_break = ap (λ b. b && passes fs known rs) (jump-test (in_loop (top fs)))
  alone-passes line a_continue = ap (λ b. b && passes fs known rs) (jump-test (in_loop (top fs)))
  alone-passes line (a_template {p = given}) = ap (λ b. b && passes fs known rs)
      (first-none false (knows known.inner (names_given given).uses) ∙ alike-uses known.inner scope (names_given given).uses a)

  -- one that opens a level
  pub opened-passes : (c : Opening) (p : Names) → is_level c ≡ true → passes fs known ((opener c p) ∷ rs)
      ≡ (are_among scope p.uses && nat_lt (levels (top fs)) most_levels
      && passes (enter_opening c p (top fs) known.inner ∷ fs) (opened_names c p.declares known) rs)
  opened-passes opened.define p level = cc
  opened-passes c p level = ap (λ b. b && passes (enter_opening c p (top fs) known.inner ∷ fs) (opened_names c p.declares known) rs)
      (first-none (leb most_levels (levels (top fs))) (knows known.inner p.uses) ∙ headed known.inner scope p.uses (levels (top fs)) a)

-- ---- formed nodes

pub looped : (c : Control) (loop : Bool) → loops (opened.control c) false loop ≡ is_looped c loop
looped If loop = refl
looped _ loop = refl

pub unlooped : (c : Control) (loop : Bool) → loops (opened.control c) true loop ≡ loop
unlooped If loop = refl
unlooped _ loop = refl

-- what a formed control says of its parts
pub record FormedControl (c : Control) (h : Header) (body other : Nodes) (scope : List Name) (loop : Bool) (levels : ℕ) : Type 0 where
  pub uses : are_among scope (names_of h).uses ≡ true
  pub room : nat_lt levels most_levels ≡ true
  pub in_body : are_formed body (declared_to h.binding scope) (is_looped c loop) (levels + 1) ≡ true
  pub in_other : are_formed other (else_scope c h.binding scope) loop (levels + 1) ≡ true

pub control-formed : (c : Control) (h : Header) (body other : Nodes) (scope : List Name) (loop : Bool) (levels : ℕ)
    → is_formed (control_node c h body other) scope loop levels ≡ true → FormedControl c h body other scope loop levels
control-formed c h body other scope loop levels e =
    let first = are_among scope (names_of h).uses && nat_lt levels most_levels in
    let p = and_parts (first && are_formed body (declared_to h.binding scope) (is_looped c loop) (levels + 1)) _ e in
    let q = and_parts first _ p.0 in
    let r = and_parts (are_among scope (names_of h).uses) _ q.0 in
    record { uses = r.0; room = r.1; in_body = q.1; in_other = p.1 }

-- what is formed at some levels is so at fewer
mutual
  node-lower : (k : NodeKind) (scope : List Name) (loop : Bool) (n m : ℕ) → m ≤ n → is_formed k scope loop n ≡ true → is_formed k scope loop m ≡ true
  node-lower (control_node c h body other) scope loop n m le e =
      let p = control-formed c h body other scope loop n e in
      let lt = ltb-true n most_levels p.room in
      both_true (both_true (both_true p.uses (lt-ltb m most_levels (omega (arith, lt))))
      (formed-lower body (declared_to h.binding scope) (is_looped c loop) (n + 1) (m + 1) (omega arith) p.in_body))
      (formed-lower other (else_scope c h.binding scope) loop (n + 1) (m + 1) (omega arith) p.in_other)
  node-lower _ scope loop n m le e = e

  pub formed-lower : (ns : Nodes) (scope : List Name) (loop : Bool) (n m : ℕ) → m ≤ n → are_formed ns scope loop n ≡ true → are_formed ns scope loop m ≡ true
  formed-lower none scope loop n m le e = refl
  formed-lower (then line k ns) scope loop n m le e =
      let p = and_parts (is_formed k scope loop n) (are_formed ns (scope_after k scope) loop n) e in
      both_true (node-lower k scope loop n m le p.0) (formed-lower ns (scope_after k scope) loop n m le p.1)
