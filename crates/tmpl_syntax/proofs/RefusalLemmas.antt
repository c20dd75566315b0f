-- For `refusals`: what is found in one pass is all that is refused of a list.
use Rattle.std.proofs.Common.{◌≡◌, ◌∙◌, ℕ, ◌+◌, Bool, true, false, List, [], ◌∷◌, ◌++◌, Option, Some, None, refl, sym, ap, subst}
use Rattle.std.proofs.Common.{arith, append_assoc, append-nil, length, length-append, take, map, drop, get_or, ◌<◌}
use Rattle.std.proofs.lemmas.List.{length-map, map-append, take-take, drop_all}
use Rattle.std.proofs.lemmas.Option.{slice_get_read}
use Rattle.tmpl_syntax.specs.declared.found.Found as held_found
use Rattle.tmpl_syntax.specs.declared.site.Site as held
use Rattle.tmpl_syntax.proofs.SecondLemmas.{drop-next}
use Rattle.tmpl_grammar.specs.declared.action.Branch.{Branch}
use Rattle.tmpl_syntax.specs.Fault as reason
use Rattle.tmpl_syntax.specs.Fault.{Reason}
use Rattle.tmpl_syntax.specs.Place.Role as role
use Rattle.tmpl_syntax.specs.Place.Role.{Name, Names, Role, plain, opener, else_part, closer, jump, nested}
use Rattle.tmpl_syntax.specs.Place.Body.{IsFirstRefused, names_in}
use Rattle.tmpl_syntax.specs.Refusals as law
use Rattle.tmpl_syntax.specs.Refusals.{Site, Found, AreRefusals, roles_in, mend, absent, Shown, show}
use Rattle.tmpl_syntax.specs.computed.Frames.{Frame, Known, Judged, top, with_inner, names_at, fault_at, first_fault}
use Rattle.tmpl_syntax.specs.computed.Frames.{is_placed, is_too_deep, knows, frames_after, known_after, verdict_from, verdict_of, unless_fault, at_end, none_known}
use Rattle.tmpl_syntax.specs.computed.Refusals.{found_seen, place_decides, kept_if, site_of, State, fault_there, after, ask, names_left, by_mended, by_fault, step, found_at, found_open}
use Rattle.tmpl_syntax.specs.computed.Refusals.{refusals_from, start, refusals_in}
use Rattle.tmpl_syntax.proofs.VerdictLemmas.{judged-all}

-- ---- what stands after a list in which nothing is refused

-- after these items, of which none is refused, this stands
abbrev pub Reaches : List Role → State → Type 0
Reaches ys s = (zs : List Role) → verdict_of (ys ++ zs) ≡ verdict_from (length ys) s.frames s.known zs

reaches-start : Reaches [] start
unfolding verdict_of
reaches-start zs = refl

module _ (ys : List Role) (s : State) (r : Reaches ys s) (x : Role) where
  goes : (zs : List Role) (o : Option Reason) → fault_there x s ≡ o → verdict_of (ys ++ x ∷ zs)
      ≡ unless_fault o (length ys) (verdict_from (length ys + 1) (after x s).frames (after x s).known zs)
  goes zs o e = r (x ∷ zs) ∙ ap (λ f. unless_fault f (length ys) (verdict_from (length ys + 1) (after x s).frames (after x s).known zs)) e

  reaches-after : fault_there x s ≡ None → Reaches (ys ++ x ∷ []) (after x s)
  reaches-after e zs = rw (append_assoc ys (x ∷ []) zs, length-append ys (x ∷ [])) (goes zs None e)

  first-refused : (zs : List Role) (why : Reason) → fault_there x s ≡ Some why → IsFirstRefused (ys ++ x ∷ zs) (length ys) why
  first-refused zs why e = subst (Judged (ys ++ x ∷ zs)) (goes zs (Some why) e) (judged-all (ys ++ x ∷ zs))

ended : (last : ℕ) (ys : List Site) (s : State) → Reaches (roles_in ys) s → AreRefusals last ys (found_open (length ys) last s.frames)
ended last ys s r = by s.frames refl
  where
    judged : (fs : List Frame) → s.frames ≡ fs → Judged (roles_in ys) (at_end fs)
    judged fs e = subst (Judged (roles_in ys)) (sym (ap verdict_of (append-nil (roles_in ys))) ∙ r [] ∙ ap at_end e) (judged-all (roles_in ys))

    by : (fs : List Frame) → s.frames ≡ fs → AreRefusals last ys (found_open (length ys) last fs)
    by [] e = law.none (judged [] e)
    by (f ∷ fs) e = law.left_open (judged (f ∷ fs) e)

-- ---- what is asked leaves what stands as it was, unless the item is an else branch

-- an item that is mended uses nothing, and is an else branch where it was one
abbrev pub StaysBranch : Role → Role → Type 0
StaysBranch (else_part (Some (b, p))) m = (q : List Name) × (m ≡ else_part (Some (b, record { declares = q; uses = [] })))
StaysBranch x m = Unit {0}

record Alike (m : Role) (a s : State) : Type 0 where
  fault : fault_there m a ≡ fault_there m s
  past : fault_there m s ≡ None → after m a ≡ after m s
  stays : (why : Reason) → fault_there m s ≡ Some why → a ≡ s

alike : (m : Role) (s : State) → Alike m s s
alike m s = record { fault = refl; past = λ e. refl; stays = λ why e. refl }

alike-by : (m : Role) (a s : State) → a ≡ s → Alike m a s
alike-by m a s e = subst (λ t. Alike m t s) (sym e) (alike m s)

-- what is left of names of which none is forgotten
left-same : (o : Option Reason) (x : Role) (t : Option Frame) (names : List Name) → names_at x t names ≡ names → names_left o x t names ≡ names
left-same o x t names e = by (place_decides o)
  where
    by : (b : Bool) → kept_if b x t names ≡ names
    by true = refl
    by false = e

ask-same : (x : Role) (s : State) → names_at x (top s.frames) s.known.inner ≡ s.known.inner → ask x s ≡ s
ask-same x s e = ap (λ (names : List Name). record { frames = s.frames; known = with_inner s.known names })
    (left-same (fault_there x s) x (top s.frames) s.known.inner e)

take-again : (n : ℕ) (names : List Name) → take n (take n names) ≡ take n names
take-again n names = take-take n n names (omega arith)

-- an else that no control begins uses nothing, so its place decides
else-ask : (t : Option Frame) (o : Option Reason) (names : List Name) (why : Reason)
    → first_fault (is_placed (else_part None) t) false true ≡ Some why → names_left (Some why) (else_part None) t names ≡ names
else-ask t o names why e = by (is_placed (else_part None) t) e
  where
    by : (b : Bool) → first_fault b false true ≡ Some why → names_left (Some why) (else_part None) t names ≡ names
    by false f = let is : reason.out_of_place ≡ why = cc in rw (← is) refl
    by true f = absurd (cc)

-- nor does an end
end-ask : (t : Option Frame) (names : List Name) (why : Reason)
    → first_fault (is_placed closer t) false true ≡ Some why → names_left (Some why) closer t names ≡ names
end-ask t names why e = by (is_placed closer t) e
  where
    by : (b : Bool) → first_fault b false true ≡ Some why → names_left (Some why) closer t names ≡ names
    by false f = let is : reason.out_of_place ≡ why = cc in rw (← is) refl
    by true f = absurd (cc)

-- an else branch: its place and its level decide, or it is refused for its names and not refused again
module _ (b : Branch) (p : Names) (q : List Name) (fs : List Frame) (known : Known) (why : Reason) where
  abbrev role-x : Role
  role-x = else_part (Some (b, p))

  abbrev role-m : Role
  role-m = else_part (Some (b, record { declares = q; uses = [] }))

  abbrev state-s : State
  state-s = record { frames = fs; known = known }

  abbrev seen : List Name
  seen = names_at role-x (top fs) known.inner

  seen-again : (t : Option Frame) (names : List Name) → names_at role-m t (names_at role-x t names) ≡ names_at role-x t names
  seen-again None names = refl
  seen-again (Some f) names = take-again f.part names

  branch-alike : fault_there role-x state-s ≡ Some why → Alike role-m (ask role-x state-s) state-s
  branch-alike e = by (is_placed role-x (top fs)) (is_too_deep role-x (top fs)) (knows seen p.uses) refl refl refl
    where
      left : (o : Option Reason) → fault_there role-x state-s ≡ o → ask role-x state-s ≡ record { frames = fs; known = with_inner known (names_left o role-x (top fs) known.inner) }
      left o f = ap (λ g. record { frames = fs; known = with_inner known (names_left g role-x (top fs) known.inner) }) f

      by : (placed deep knowing : Bool) → is_placed role-x (top fs) ≡ placed → is_too_deep role-x (top fs) ≡ deep → knows seen p.uses ≡ knowing
          → Alike role-m (ask role-x state-s) state-s
      by false deep knowing f g h = alike-by role-m (ask role-x state-s) state-s (left (Some reason.out_of_place) (rw f refl))
      by true true knowing f g h = alike-by role-m (ask role-x state-s) state-s (left (Some reason.nested_too_deeply) (rw (f, g) refl))
      by true false true f g h = absurd (let is : fault_there role-x state-s ≡ None = rw (f, g, h) refl in cc)
      by true false false f g h =
          let is = left (Some reason.undeclared_variable) (rw (f, g, h) refl) in
          subst (λ a. Alike role-m a state-s) (sym is) (record {
            fault = rw (f, g) refl;
            past = λ n. ap (λ (names : List Name). record {
              frames = frames_after role-m fs names;
              known = known_after role-m (top fs) (with_inner known names);
            }) (seen-again (top fs) known.inner);
            stays = λ w n. absurd (let is : fault_there role-m state-s ≡ None = rw (f, g) refl in cc);
          })

alike-ask : (x m : Role) (s : State) (why : Reason) → StaysBranch x m → fault_there x s ≡ Some why → Alike m (ask x s) s
alike-ask (plain p) m s why b e = alike-by m (ask (plain p) s) s (ask-same (plain p) s refl)
alike-ask (opener c p) m s why b e = alike-by m (ask (opener c p) s) s (ask-same (opener c p) s refl)
alike-ask (else_part None) m s why b e = alike-by m (ask (else_part None) s) s
    (ap (λ o. record { frames = s.frames; known = with_inner s.known (names_left o (else_part None) (top s.frames) s.known.inner) }) e
    ∙ ap (λ (names : List Name). record { frames = s.frames; known = with_inner s.known names })
    (else-ask (top s.frames) None s.known.inner why e))
alike-ask (else_part (Some (b, p))) m s why (q, is) e =
    subst (λ n. Alike n (ask (else_part (Some (b, p))) s) s) (sym is) (branch-alike b p q s.frames s.known why e)
alike-ask closer m s why b e = alike-by m (ask closer s) s
    (ap (λ o. record { frames = s.frames; known = with_inner s.known (names_left o closer (top s.frames) s.known.inner) }) e
    ∙ ap (λ (names : List Name). record { frames = s.frames; known = with_inner s.known names })
    (end-ask (top s.frames) s.known.inner why e))
alike-ask jump m s why b e = alike-by m (ask jump s) s (ask-same jump s refl)
alike-ask (nested c) m s why b e = alike-by m (ask (nested c) s) s (ask-same (nested c) s refl)
alike-ask (role.flawed w) m s why b e = alike-by m (ask (role.flawed w) s) s (ask-same (role.flawed w) s refl)

-- ---- the list

abbrev pub StaysSite : Site → Type 0
StaysSite x = StaysBranch x.role x.mended

abbrev pub AreSites : List Site → Type 0
AreSites [] = Unit {0}
AreSites (x ∷ xs) = StaysSite x × AreSites xs

module _ (last : ℕ) where
  -- an item more in front of which nothing is refused
  one-more : (ys xs : List Site) (y : Site) (s : State)
      → AreRefusals last ((ys ++ y ∷ []) ++ xs) (refusals_from last (length (ys ++ y ∷ [])) s xs)
      → AreRefusals last (ys ++ y ∷ xs) (refusals_from last (length ys + 1) s xs)
  one-more ys xs y s a = subst (λ n. AreRefusals last (ys ++ y ∷ xs) (refusals_from last n s xs)) (length-append ys (y ∷ []))
      (subst (λ zs. AreRefusals last zs (refusals_from last (length (ys ++ y ∷ [])) s xs)) (append_assoc ys (y ∷ []) xs) a)

  roles-more : (ys : List Site) (y : Site) (s : State) → Reaches (roles_in ys ++ y.role ∷ []) s → Reaches (roles_in (ys ++ y ∷ [])) s
  roles-more ys y s r = subst (λ zs. Reaches zs s) (sym (map-append (λ (x : Site). x.role) ys (y ∷ []))) r

  is-first : (ys xs : List Site) (x : Site) (s : State) (why : Reason) → Reaches (roles_in ys) s → fault_there x.role s ≡ Some why
      → IsFirstRefused (roles_in (ys ++ x ∷ xs)) (length ys) why
  is-first ys xs x s why r e = subst (λ zs. IsFirstRefused zs (length ys) why) (sym (map-append (λ (y : Site). y.role) ys (x ∷ xs)))
      (subst (λ n. IsFirstRefused (roles_in ys ++ x.role ∷ roles_in xs) n why) (length-map ys (λ (y : Site). y.role))
      (first-refused (roles_in ys) s r x.role (roles_in xs) why e))

  -- what is found of an item and of those after it, where it is so of those after it
  module _ (x : Site) (xs : List Site) (so : (ys : List Site) (s : State) → Reaches (roles_in ys) s
      → AreRefusals last (ys ++ xs) (refusals_from last (length ys) s xs)) (ys : List Site) (s : State) (r : Reaches (roles_in ys) s) where
    next : (y : Site) (t : State) → Reaches (roles_in ys ++ y.role ∷ []) t → AreRefusals last (ys ++ y ∷ xs) (refusals_from last (length ys + 1) t xs)
    next y t g = one-more ys xs y t (so (ys ++ y ∷ []) t (roles-more ys y t g))

    mended : Alike x.mended (ask x.role s) s → (o : Option Reason) → fault_there x.mended s ≡ o
        → AreRefusals last (ys ++ mend x ∷ xs)
        (found_at (length ys) x.line (by_mended o x.mended (ask x.role s)).0
        ++ refusals_from last (length ys + 1) (by_mended o x.mended (ask x.role s)).1 xs)
    mended a None e = subst (λ t. AreRefusals last (ys ++ mend x ∷ xs) (refusals_from last (length ys + 1) t xs)) (sym (a.past e))
        (next (mend x) (after x.mended s) (reaches-after (roles_in ys) s r x.mended e))
    mended a (Some w) e = law.refused ys (mend x) xs (is-first ys xs (mend x) s w r e)
        (subst (λ t. AreRefusals last (ys ++ mend (mend x) ∷ xs) (refusals_from last (length ys + 1) t xs)) (sym (a.stays w e))
        (next (mend (mend x)) s (reaches-after (roles_in ys) s r absent refl)))

    found-by : StaysSite x → (o : Option Reason) → fault_there x.role s ≡ o → AreRefusals last (ys ++ x ∷ xs)
        (found_at (length ys) x.line (by_fault o x s).0 ++ refusals_from last (length ys + 1) (by_fault o x s).1 xs)
    found-by is None e = next x (after x.role s) (reaches-after (roles_in ys) s r x.role e)
    found-by is (Some why) e =
        let a = alike-ask x.role x.mended s why is e in
        law.refused ys x xs (is-first ys xs x s why r e)
        (subst (λ o. AreRefusals last (ys ++ mend x ∷ xs)
        (found_at (length ys) x.line (by_mended o x.mended (ask x.role s)).0
        ++ refusals_from last (length ys + 1) (by_mended o x.mended (ask x.role s)).1 xs))
        (sym a.fault) (mended a (fault_there x.mended s) refl))

  found-from : (xs : List Site) → AreSites xs → (ys : List Site) (s : State) → Reaches (roles_in ys) s
      → AreRefusals last (ys ++ xs) (refusals_from last (length ys) s xs)
  found-from [] are ys s r = subst (λ zs. AreRefusals last zs (found_open (length ys) last s.frames)) (sym (append-nil ys)) (ended last ys s r)
  found-from (x ∷ xs) are ys s r = found-by x xs (found-from xs are.1) ys s r are.0 (fault_there x.role s) refl

  pub found-all : (xs : List Site) → AreSites xs → AreRefusals last xs (refusals_in last xs)
  unfolding refusals_in
  found-all xs are = found-from xs are [] start reaches-start

-- ---- the names that are left

decided : (placed deep known other : Bool) (x : Role) (t : Option Frame) (names : List Name) → place_decides (first_fault placed deep known) ≡ false
    → names_at x t names ≡ names_left (first_fault placed deep other) x t names
decided false deep known other x t names b = absurd (cc)
decided true true known other x t names b = absurd (cc)
decided true false known true x t names b = refl
decided true false known false x t names b = refl

same-fault : (placed deep known other : Bool) → place_decides (first_fault placed deep known) ≡ true → first_fault placed deep known ≡ first_fault placed deep other
same-fault false deep known other b = refl
same-fault true true known other b = refl
same-fault true false true other b = absurd (cc)
same-fault true false false other b = absurd (cc)

-- where the place decides, it does with any names
pub place_decided : (x : Role) (t : Option Frame) (a b : List Name) (o : Option Reason) → o ≡ fault_at x t a → place_decides o ≡ true
    → o ≡ fault_at x t b
place_decided (role.flawed why) t a b o e n = e
place_decided x t a b o e n = e ∙ same-fault (is_placed x t) (is_too_deep x t) (knows a (names_in x).uses) (knows b (names_in x).uses)
    (subst (λ p. place_decides p ≡ true) e n)

-- .. and where it does not, the names are those that the item sees
pub names_decided : (x : Role) (t : Option Frame) (a b names : List Name) (o q : Option Reason) → o ≡ fault_at x t a → place_decides o ≡ false
    → q ≡ fault_at x t b → names_at x t names ≡ names_left q x t names
names_decided (role.flawed why) t a b names o q e n f =
    subst (λ d. names_at (role.flawed why) t names ≡ kept_if d (role.flawed why) t names) (sym (ap place_decides (f ∙ sym e) ∙ n)) refl
names_decided x t a b names o q e n f = rw f (decided (is_placed x t) (is_too_deep x t) (knows a (names_in x).uses) (knows b (names_in x).uses)
    x t names (subst (λ p. place_decides p ≡ false) e n))

-- ---- from one item to the next

state-of : (s t : State) → s.frames ≡ t.frames → s.known ≡ t.known → s ≡ t
state-of s t e f = ap (λ (fs : List Frame). record { frames = fs; known = s.known }) e ∙ ap (λ (k : Known). record { frames = t.frames; known = k }) f

pub found-past : (last place : ℕ) (sites : List held.Site) (x : held.Site) → place < length sites → x ≡ get_or sites place x
    → (all : List Shown) (old new : List held_found.Found) (s t : State)
    → all ≡ map found_seen old ++ map show (refusals_from last place s (map site_of (drop place sites)))
    → map found_seen new ≡ map found_seen old ++ map show (found_at place (site_of x).line (step (site_of x) s).0)
    → t.frames ≡ (step (site_of x) s).1.frames → t.known ≡ (step (site_of x) s).1.known
    → all ≡ map found_seen new ++ map show (refusals_from last (place + 1) t (map site_of (drop (place + 1) sites)))
found-past last place sites x lt is all old new s t a n f k =
    let here = found_at place (site_of x).line (step (site_of x) s).0 in
    let later = refusals_from last (place + 1) (step (site_of x) s).1 (map site_of (drop (place + 1) sites)) in
    a ∙ ap (λ ys. map found_seen old ++ map show (refusals_from last place s (map site_of ys)))
    (drop-next sites place x (slice_get_read sites (length sites) place x refl lt is))
    ∙ ap (λ ys. map found_seen old ++ ys) (map-append show here later)
    ∙ sym (append_assoc (map found_seen old) (map show here) (map show later))
    ∙ ap (λ ys. ys ++ map show later) (sym n)
    ∙ ap (λ u. map found_seen new ++ map show (refusals_from last (place + 1) u (map site_of (drop (place + 1) sites))))
    (sym (state-of t (step (site_of x) s).1 f k))

pub found-end : (last place : ℕ) (sites : List held.Site) → place ≡ length sites → (all : List Shown) (old new : List held_found.Found) (s : State)
    → all ≡ map found_seen old ++ map show (refusals_from last place s (map site_of (drop place sites)))
    → map found_seen new ≡ map found_seen old ++ map show (found_open (length sites) last s.frames)
    → map found_seen new ≡ all
found-end last place sites le all old new s a n = n ∙ sym (a ∙ ap (λ ys. map found_seen old ++ map show (refusals_from last place s (map site_of ys)))
    (drop_all place sites (omega (arith, le))) ∙ ap (λ i. map found_seen old ++ map show (found_open i last s.frames)) le)

pub found-start : (last : ℕ) (sites : List held.Site) (old : List held_found.Found) (s : State) → old ≡ [] → s.frames ≡ [] → s.known ≡ none_known
    → map show (refusals_in last (map site_of sites)) ≡ map found_seen old ++ map show (refusals_from last 0 s (map site_of (drop 0 sites)))
unfolding refusals_in
found-start last sites old s o f k = rw o (ap (λ t. map show (refusals_from last 0 t (map site_of sites))) (sym (state-of s start f k)))
