-- The marks of a search stand for the ways to go on.
use Rattle.std.proofs.Common.{◌≡◌, ◌⊎◌, inl, inr, ℕ, zero, suc, Bool, true, false, List, [], ◌∷◌, ◌++◌, refl, ap, sym, ◌∙◌, subst}
use Rattle.std.specs.Prelude.{not, ◌||◌, ◌&&◌}
use Rattle.tmpl_formats.specs.Pattern as tree
use Rattle.tmpl_formats.specs.Pattern.{Tree, in_class}
use Rattle.tmpl_formats.proofs.PatternPlaces.{Place, Rounds, Leads, case_of}
use Rattle.tmpl_formats.specs.PatternView.{Marks, Empty, One, Begin, End, Both, Either, Many, plain}
use Rattle.tmpl_formats.specs.computed.PatternMarks.{passes, shifted}

-- ---- tests

and_true : (a : Bool) → (a && true) ≡ a
and_true true = refl
and_true false = refl

pub and_false : (a : Bool) → (a && false) ≡ false
and_false true = refl
and_false false = refl

pub and_both : (a b : Bool) → (a && b) ≡ true → (a ≡ true) × (b ≡ true)
and_both true b h = (refl, h)
and_both false b h = cc

pub and_of : (a b : Bool) → a ≡ true → b ≡ true → (a && b) ≡ true
and_of true b h g = g
and_of false b h g = cc

pub or_cases : (a b : Bool) → (a || b) ≡ true → (a ≡ true) ⊎ (b ≡ true)
or_cases true b h = inl refl
or_cases false b h = inr h

pub or_left : (a b : Bool) → a ≡ true → (a || b) ≡ true
or_left true b h = refl
or_left false b h = cc

pub or_right : (a b : Bool) → b ≡ true → (a || b) ≡ true
or_right true b h = refl
or_right false b h = h

abbrev pub is_nil : List ℕ → Bool
is_nil [] = true
is_nil (x ∷ xs) = false

pub nil_of : (xs : List ℕ) → is_nil xs ≡ true → xs ≡ []
nil_of [] h = refl
nil_of (x ∷ xs) h = cc

pub not_nil : (xs : List ℕ) (x : ℕ) → is_nil (xs ++ x ∷ []) ≡ false
not_nil [] x = refl
not_nil (y ∷ xs) x = refl

-- ---- what follows a match may be more, and is one of many

abbrev Grows : (Place → Place) → Type 1
Grows has = (some more : Place) → ((b s : List ℕ) → some b s → more b s) → (b s : List ℕ) → has some b s → has more b s

grow_turns : (has : Place → Place) → Grows has → (n : ℕ) (some more : Place) → ((b s : List ℕ) → some b s → more b s) → (b s : List ℕ) → Rounds has some n b s → Rounds has more n b s
grow_turns has grows zero some more f b s h = f b s h
grow_turns has grows (suc n) some more f b s h = grows (Rounds has some n) (Rounds has more n) (grow_turns has grows n some more f) b s h

grow : (p : Tree) → Grows (Leads p)
grow tree.Empty some more f b s h = f b s h
grow (tree.One is_negated spans) some more f b s h = (h.0, h.1, h.2, h.3, f _ _ h.4)
grow (tree.Both x y) some more f b s h = grow x (Leads y some) (Leads y more) (grow y some more f) b s h
grow (tree.Either x y) some more f b s h = case_of h (λ g. inl (grow x some more f b s g)) (λ g. inr (grow y some more f b s g))
grow (tree.Many x) some more f b s h = (h.0, grow_turns (Leads x) (grow x) h.0 some more f b s h.1)
grow _ some more f b s h = (h.0, f b s h.1)

abbrev AnyOf : (ℕ → Place) → Place
AnyOf each b s = (n : ℕ) × each n b s

abbrev Picks : (Place → Place) → Type 1
Picks has = (each : ℕ → Place) (b s : List ℕ) → has (AnyOf each) b s → (n : ℕ) × has (each n) b s

pick_turns : (has : Place → Place) → Grows has → Picks has → (m : ℕ) (each : ℕ → Place) (b s : List ℕ) → Rounds has (AnyOf each) m b s → (n : ℕ) × Rounds has (each n) m b s
pick_turns has grows picks zero each b s h = h
pick_turns has grows picks (suc m) each b s h =
    picks (λ n. Rounds has (each n) m) b s (grows (Rounds has (AnyOf each) m) (AnyOf (λ n. Rounds has (each n) m)) (pick_turns has grows picks m each) b s h)

pick : (p : Tree) → Picks (Leads p)
pick tree.Empty each b s h = h
pick (tree.One is_negated spans) each b s h = (h.4.0, (h.0, h.1, h.2, h.3, h.4.1))
pick (tree.Both x y) each b s h = pick x (λ n. Leads y (each n)) b s (grow x (Leads y (AnyOf each)) (AnyOf (λ n. Leads y (each n))) (pick y each) b s h)
pick (tree.Either x y) each b s h = case_of h (λ g. let r = pick x each b s g in (r.0, inl r.1)) (λ g. let r = pick y each b s g in (r.0, inr r.1))
pick (tree.Many x) each b s h = let r = pick_turns (Leads x) (grow x) (pick x) h.0 each b s h.1 in (r.0, (h.0, r.1))
pick _ each b s h = (h.1.0, (h.0, h.1.1))

-- one turn more
turn_more : (x : Tree) (next : Place) (b s : List ℕ) → Leads x (Leads (tree.Many x) next) b s → Leads (tree.Many x) next b s
turn_more x next b s h = let r = pick x (Rounds (Leads x) next) b s h in (suc r.0, r.1)

-- ---- what the marks stand for

-- from a mark the end of the tree is reached at a place where `next` holds
abbrev pub Rest : Marks → Place → Place
Rest Empty next b s = ⊥
Rest (One is_negated spans is_last) next b s = ((is_last && not (is_nil b)) ≡ true) × next b s
Rest Begin next b s = ⊥
Rest End next b s = ⊥
Rest (Both x y) next b s = Rest x (Leads (plain y) next) b s ⊎ Rest y next b s
Rest (Either x y) next b s = Rest x next b s ⊎ Rest y next b s
Rest (Many x ended) next b s = Rest x (Leads (tree.Many (plain x)) next) b s

-- from a mark, or from the beginning of the tree where that is reached
abbrev pub Goes : Marks → Bool → Place → Place
Goes t e next b s = ((e ≡ true) × Leads (plain t) next b s) ⊎ Rest t next b s

-- what a loop knows of its turns is so
abbrev pub Kept : Bool → Marks → Type 0
Kept first Empty = Unit {0}
Kept first (One is_negated spans is_last) = Unit {0}
Kept first Begin = Unit {0}
Kept first End = Unit {0}
Kept first (Both x y) = Kept first x × Kept first y
Kept first (Either x y) = Kept first x × Kept first y
Kept first (Many x ended) = ((ended && not first) ≡ passes first x false) × Kept first x

grow_rest : (t : Marks) → Grows (Rest t)
grow_rest Empty some more f b s h = h
grow_rest (One is_negated spans is_last) some more f b s h = (h.0, f b s h.1)
grow_rest Begin some more f b s h = h
grow_rest End some more f b s h = h
grow_rest (Both x y) some more f b s h =
    case_of h (λ g. inl (grow_rest x (Leads (plain y) some) (Leads (plain y) more) (grow (plain y) some more f) b s g)) (λ g. inr (grow_rest y some more f b s g))
grow_rest (Either x y) some more f b s h = case_of h (λ g. inl (grow_rest x some more f b s g)) (λ g. inr (grow_rest y some more f b s g))
grow_rest (Many x ended) some more f b s h =
    grow_rest x (Leads (tree.Many (plain x)) some) (Leads (tree.Many (plain x)) more) (grow (tree.Many (plain x)) some more f) b s h

-- a character changes marks alone
pub plain-shifted : (first : Bool) (c : ℕ) (t : Marks) (e : Bool) → plain (shifted first c t e) ≡ plain t
plain-shifted first c Empty e = refl
plain-shifted first c (One is_negated spans is_last) e = refl
plain-shifted first c Begin e = refl
plain-shifted first c End e = refl
plain-shifted first c (Both x y) e = let p = plain-shifted first c x e in let q = plain-shifted first c y (passes first x e) in cc
plain-shifted first c (Either x y) e = let p = plain-shifted first c x e in let q = plain-shifted first c y e in cc
plain-shifted first c (Many x ended) e = ap tree.Many (plain-shifted first c x (e || (ended && not first)))

-- no mark counts before the first character
quiet : (t : Marks) → passes true t false ≡ false
quiet Empty = refl
quiet (One is_negated spans is_last) = and_false is_last
quiet Begin = refl
quiet End = refl
quiet (Both x y) = ap (passes true y) (quiet x) ∙ quiet y
quiet (Either x y) = ap (λ a. a || passes true y false) (quiet x) ∙ quiet y
quiet (Many x ended) = and_false ended

pub kept-first : (t : Marks) → Kept true t
kept-first Empty = tt
kept-first (One is_negated spans is_last) = tt
kept-first Begin = tt
kept-first End = tt
kept-first (Both x y) = (kept-first x, kept-first y)
kept-first (Either x y) = (kept-first x, kept-first y)
kept-first (Many x ended) = (and_false ended ∙ sym (quiet x), kept-first x)

pub kept-shifted : (first : Bool) (c : ℕ) (t : Marks) (e : Bool) → Kept false (shifted first c t e)
kept-shifted first c Empty e = tt
kept-shifted first c (One is_negated spans is_last) e = tt
kept-shifted first c Begin e = tt
kept-shifted first c End e = tt
kept-shifted first c (Both x y) e = (kept-shifted first c x e, kept-shifted first c y (passes first x e))
kept-shifted first c (Either x y) e = (kept-shifted first c x e, kept-shifted first c y e)
kept-shifted first c (Many x ended) e =
    let into = e || (ended && not first) in (and_true (passes false (shifted first c x into) false), kept-shifted first c x into)

-- ---- a character is read

-- after a character: from a mark, or nothing was read
abbrev pub Went : Marks → Bool → Place → (b : List ℕ) (c : ℕ) (s : List ℕ) → Type 0
Went t e next b c s = Rest (shifted (is_nil b) c t e) next (b ++ c ∷ []) s ⊎ ((passes (is_nil b) t e ≡ true) × next b (c ∷ s))

one_reads : (is_negated is_last e : Bool) (spans : List _) (next : Place) (b s rest : List ℕ) (c code : ℕ) → code ≡ c → rest ≡ s → e ≡ true → in_class is_negated spans code ≡ true
    → next (b ++ code ∷ []) rest → Went (One is_negated spans is_last) e next b c s
one_reads is_negated is_last e spans next b s rest c code at left enters is_in goes =
    let P : ℕ → Type 0 = λ n. in_class is_negated spans n ≡ true in
    let Q : ℕ → Type 0 = λ n. next (b ++ n ∷ []) rest in
    let R : List ℕ → Type 0 = λ r. next (b ++ c ∷ []) r in
    let marked = and_of e (in_class is_negated spans c) enters (subst P at is_in) in
    inl (rw (not_nil b c) (and_true (e && in_class is_negated spans c) ∙ marked), subst R left (subst Q at goes))

begin_back : (b : List ℕ) (c : ℕ) (s : List ℕ) (e : Bool) (next : Place) → (e && is_nil b) ≡ true → next b (c ∷ s) → Goes Begin e next b (c ∷ s)
begin_back b c s e next h goes = let g = and_both e (is_nil b) h in inl (g.0, (nil_of b g.1, goes))

-- from a turn that begins where one may
turns_read : (x : Marks) (b : List ℕ) (c : ℕ) (s : List ℕ) (into : Bool) (next : Place)
    → ((e : Bool) (next : Place) → Goes x e next b (c ∷ s) → Went x e next b c s)
    → into ≡ true → (n : ℕ) → Rounds (Leads (plain x)) next n b (c ∷ s)
    → Rest (shifted (is_nil b) c x into) (Leads (tree.Many (plain x)) next) (b ++ c ∷ []) s ⊎ next b (c ∷ s)
turns_read x b c s into next known may zero h = inr h
turns_read x b c s into next known may (suc n) h =
    case_of (known into (Rounds (Leads (plain x)) next n) (inl (may, h)))
    (λ r. inl (grow_rest (shifted (is_nil b) c x into) (Rounds (Leads (plain x)) next n) (Leads (tree.Many (plain x)) next) (λ b s k. (n, k)) (b ++ c ∷ []) s r))
    (λ q. turns_read x b c s into next known may n q.1)

turns_from : (x : Marks) (b : List ℕ) (c : ℕ) (s : List ℕ) (t into ended : Bool) (next : Place) → into ≡ t → ended ≡ passes (is_nil b) x false → (into ≡ false → ended ≡ false)
    → ((e : Bool) (next : Place) → Goes x e next b (c ∷ s) → Went x e next b c s)
    → Rest x (Leads (tree.Many (plain x)) next) b (c ∷ s)
    → Rest (shifted (is_nil b) c x into) (Leads (tree.Many (plain x)) next) (b ++ c ∷ []) s ⊎ ((into ≡ true) × next b (c ∷ s))
turns_from x b c s true into ended next is kept not_ended known h =
    case_of (known into (Leads (tree.Many (plain x)) next) (inr h)) (λ r. inl r)
    (λ q. case_of (turns_read x b c s into next known is q.1.0 q.1.1) (λ r. inl r) (λ k. inr (is, k)))
turns_from x b c s false into ended next is kept not_ended known h =
    case_of (known into (Leads (tree.Many (plain x)) next) (inr h)) (λ r. inl r)
    (λ q. let no : ended ≡ false = not_ended is in let same : passes (is_nil b) x into ≡ passes (is_nil b) x false = ap (passes (is_nil b) x) is in let p = q.0 in absurd (cc))

or_false : (a b : Bool) → (a || b) ≡ false → b ≡ false
or_false true b h = cc
or_false false b h = h

pub reads : (b : List ℕ) (c : ℕ) (s : List ℕ) (t : Marks) → Kept (is_nil b) t → (e : Bool) (next : Place) → Goes t e next b (c ∷ s) → Went t e next b c s
reads b c s Empty kept e next g = case_of g (λ h. inr h) (λ h. absurd h)
reads b c s (One is_negated spans is_last) kept e next g =
    case_of g
    (λ h. let at : h.1.0 ≡ c = cc (h.1.2) in let left : h.1.1 ≡ s = cc (h.1.2) in one_reads is_negated is_last e spans next b s h.1.1 c h.1.0 at left h.0 h.1.3 h.1.4)
    (λ h. inr h)
reads b c s Begin kept e next g = case_of g (λ h. inr (and_of e (is_nil b) h.0 (ap is_nil h.1.0), h.1.1)) (λ h. absurd h)
reads b c s End kept e next g = case_of g (λ h. let no : c ∷ s ≡ [] = h.1.0 in absurd (cc)) (λ h. absurd h)
reads b c s (Both x y) kept e next g =
    let again = λ (r : Rest (shifted (is_nil b) c x e) (Leads (plain y) next) (b ++ c ∷ []) s).
    (let P : Tree → Type 0 = λ p. Rest (shifted (is_nil b) c x e) (Leads p next) (b ++ c ∷ []) s in subst P (sym (plain-shifted (is_nil b) c y (passes (is_nil b) x e))) r) in
    let second = λ (h : Goes y (passes (is_nil b) x e) next b (c ∷ s)).
    (let w : Went (Both x y) e next b c s = case_of (reads b c s y kept.1 (passes (is_nil b) x e) next h) (λ r. inl (inr r)) (λ q. inr q) in w) in
    let first = λ (h : Goes x e (Leads (plain y) next) b (c ∷ s)).
    (let w : Went (Both x y) e next b c s = case_of (reads b c s x kept.0 e (Leads (plain y) next) h) (λ r. inl (inl (again r))) (λ q. second (inl q)) in w) in
    case_of g (λ h. first (inl h)) (λ h. case_of h (λ r. first (inr r)) (λ r. second (inr r)))
reads b c s (Either x y) kept e next g =
    let one = λ (h : Goes x e next b (c ∷ s)).
    (let w : Went (Either x y) e next b c s = case_of (reads b c s x kept.0 e next h) (λ r. inl (inl r)) (λ q. inr (or_left (passes (is_nil b) x e) (passes (is_nil b) y e) q.0, q.1)) in w) in
    let other = λ (h : Goes y e next b (c ∷ s)).
    (let w : Went (Either x y) e next b c s = case_of (reads b c s y kept.1 e next h) (λ r. inl (inr r)) (λ q. inr (or_right (passes (is_nil b) x e) (passes (is_nil b) y e) q.0, q.1)) in w) in
    case_of g
    (λ h. case_of h.1 (λ k. one (inl (h.0, k))) (λ k. other (inl (h.0, k))))
    (λ h. case_of h (λ r. one (inr r)) (λ r. other (inr r)))
reads b c s (Many x ended) kept e next g =
    let known = reads b c s x kept.1 in
    let l = ended && not (is_nil b) in
    let into = e || l in
    let again = λ (r : Rest (shifted (is_nil b) c x into) (Leads (tree.Many (plain x)) next) (b ++ c ∷ []) s).
    (let P : Tree → Type 0 = λ p. Rest (shifted (is_nil b) c x into) (Leads (tree.Many p) next) (b ++ c ∷ []) s in subst P (sym (plain-shifted (is_nil b) c x into)) r) in
    case_of g
    (λ h. let may = or_left e l h.0 in case_of (turns_read x b c s into next known may h.1.0 h.1.1) (λ r. inl (again r)) (λ k. inr (may, k)))
    (λ h. case_of (turns_from x b c s into into l next refl kept.0 (or_false e l) known h) (λ r. inl (again r)) (λ k. inr k))

one_back : (is_negated is_last e : Bool) (spans : List _) (next : Place) (b s : List ℕ) (c : ℕ)
    → ((e && in_class is_negated spans c) && not (is_nil (b ++ c ∷ []))) ≡ true → next (b ++ c ∷ []) s → Goes (One is_negated spans is_last) e next b (c ∷ s)
one_back is_negated is_last e spans next b s c h goes =
    let g = and_both (e && in_class is_negated spans c) (not (is_nil (b ++ c ∷ []))) h in
    let f = and_both e (in_class is_negated spans c) g.0 in
    inl (f.0, (c, s, refl, f.1, goes))

-- .. and the other way
pub from_read : (b : List ℕ) (c : ℕ) (s : List ℕ) (t : Marks) → Kept (is_nil b) t → (e : Bool) (next : Place) → Went t e next b c s → Goes t e next b (c ∷ s)
from_read b c s Empty kept e next w = case_of w (λ h. absurd h) (λ h. inl h)
from_read b c s (One is_negated spans is_last) kept e next w = case_of w (λ h. one_back is_negated is_last e spans next b s c h.0 h.1) (λ h. inr h)
from_read b c s Begin kept e next w = case_of w (λ h. absurd h) (λ h. begin_back b c s e next h.0 h.1)
from_read b c s End kept e next w = case_of w (λ h. absurd h) (λ h. let no : false ≡ true = h.0 in absurd (cc))
from_read b c s (Both x y) kept e next w =
    let again = λ (r : Rest (shifted (is_nil b) c x e) (Leads (plain (shifted (is_nil b) c y (passes (is_nil b) x e))) next) (b ++ c ∷ []) s).
    (let P : Tree → Type 0 = λ p. Rest (shifted (is_nil b) c x e) (Leads p next) (b ++ c ∷ []) s in subst P (plain-shifted (is_nil b) c y (passes (is_nil b) x e)) r) in
    let first = λ (h : Went x e (Leads (plain y) next) b c s).
    (let g : Goes (Both x y) e next b (c ∷ s) = case_of (from_read b c s x kept.0 e (Leads (plain y) next) h) (λ k. inl k) (λ r. inr (inl r)) in g) in
    let second = λ (h : Went y (passes (is_nil b) x e) next b c s).
    (let g : Goes (Both x y) e next b (c ∷ s) = case_of (from_read b c s y kept.1 (passes (is_nil b) x e) next h) (λ k. first (inr k)) (λ r. inr (inr r)) in g) in
    case_of w (λ h. case_of h (λ r. first (inl (again r))) (λ r. second (inl r))) (λ h. second (inr h))
from_read b c s (Either x y) kept e next w =
    let one = λ (h : Went x e next b c s).
    (let g : Goes (Either x y) e next b (c ∷ s) = case_of (from_read b c s x kept.0 e next h) (λ k. inl (k.0, inl k.1)) (λ r. inr (inl r)) in g) in
    let other = λ (h : Went y e next b c s).
    (let g : Goes (Either x y) e next b (c ∷ s) = case_of (from_read b c s y kept.1 e next h) (λ k. inl (k.0, inr k.1)) (λ r. inr (inr r)) in g) in
    case_of w
    (λ h. case_of h (λ r. one (inl r)) (λ r. other (inl r)))
    (λ h. case_of (or_cases (passes (is_nil b) x e) (passes (is_nil b) y e) h.0) (λ p. one (inr (p, h.1))) (λ p. other (inr (p, h.1))))
from_read b c s (Many x ended) kept e next w =
    let l = ended && not (is_nil b) in
    let into = e || l in
    let many = Leads (tree.Many (plain x)) next in
    -- where turns may begin
    let turned = λ (ha : l ≡ true) (k : many b (c ∷ s)).
    (let g : Goes (Many x ended) e next b (c ∷ s) =
    case_of (from_read b c s x kept.1 false many (inr (sym kept.0 ∙ ha, k))) (λ h. let no : false ≡ true = h.0 in absurd (cc)) (λ r. inr r) in g) in
    let begun = λ (ha : into ≡ true) (k : many b (c ∷ s)).
    (let g : Goes (Many x ended) e next b (c ∷ s) = case_of (or_cases e l ha) (λ p. inl (p, k)) (λ p. turned p k) in g) in
    case_of w
    (λ r. let P : Tree → Type 0 = λ p. Rest (shifted (is_nil b) c x into) (Leads (tree.Many p) next) (b ++ c ∷ []) s in
    case_of (from_read b c s x kept.1 into many (inl (subst P (plain-shifted (is_nil b) c x into) r)))
    (λ h. begun h.0 (turn_more (plain x) next b (c ∷ s) h.1))
    (λ r. inr r))
    (λ h. begun h.0 (zero, h.1))
