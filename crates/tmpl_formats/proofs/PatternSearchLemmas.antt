-- A search finds a match exactly where there is one.
use Rattle.std.proofs.Common.{◌≡◌, ◌⊎◌, inl, inr, ℕ, zero, suc, Bool, true, false, List, [], ◌∷◌, ◌++◌, refl, ap, append_assoc}
use Rattle.std.specs.Prelude.{◌||◌}
use Rattle.tmpl_formats.proofs.PatternLemmas.{and_of, and_both, or_cases, or_left, or_right, is_nil, nil_of, not_nil, and_false, Rest, Goes, Kept, kept-first, kept-shifted, plain-shifted, reads, from_read}
use Rattle.tmpl_formats.specs.Pattern as tree
use Rattle.tmpl_formats.specs.Pattern.{Tree, Finds}
use Rattle.tmpl_formats.proofs.PatternPlaces.{case_of, Place, Rounds, Leads, Any, append_nil, finds-leads, leads-finds}
use Rattle.tmpl_formats.specs.PatternView.{Marks, Empty, One, Begin, End, Both, Either, Many, plain}
use Rattle.tmpl_formats.specs.computed.PatternMarks.{passes, ends, shifted, Search, begun, finds}

-- ---- the end of the text

turns_end : (x : Tree) (b : List ℕ) (next : Place) → ((next : Place) → Leads x next b [] → next b []) → (n : ℕ) → Rounds (Leads x) next n b [] → next b []
turns_end x b next known zero h = h
turns_end x b next known (suc n) h = turns_end x b next known n (known (Rounds (Leads x) next n) h)

stops : (b : List ℕ) (t : Marks) (e : Bool) (next : Place) → Goes t e next b [] → (ends (is_nil b) t e ≡ true) × next b []
stops b Empty e next g = case_of g (λ h. h) (λ h. absurd h)
stops b (One is_negated spans is_last) e next g = case_of g (λ h. let no : [] ≡ h.1.0 ∷ h.1.1 = h.1.2 in absurd (cc)) (λ h. h)
stops b Begin e next g = case_of g (λ h. (and_of e (is_nil b) h.0 (ap is_nil h.1.0), h.1.1)) (λ h. absurd h)
stops b End e next g = case_of g (λ h. (h.0, h.1.1)) (λ h. absurd h)
stops b (Both x y) e next g =
    let first = λ (h : Goes x e (Leads (plain y) next) b []). (let k = stops b x e (Leads (plain y) next) h in stops b y (ends (is_nil b) x e) next (inl k)) in
    case_of g (λ h. first (inl h)) (λ h. case_of h (λ r. first (inr r)) (λ r. stops b y (ends (is_nil b) x e) next (inr r)))
stops b (Either x y) e next g =
    let ex = ends (is_nil b) x e in
    let ey = ends (is_nil b) y e in
    let one = λ (h : Goes x e next b []). (let k = stops b x e next h in let r : ((ex || ey) ≡ true) × next b [] = (or_left ex ey k.0, k.1) in r) in
    let other = λ (h : Goes y e next b []). (let k = stops b y e next h in let r : ((ex || ey) ≡ true) × next b [] = (or_right ex ey k.0, k.1) in r) in
    case_of g (λ h. case_of h.1 (λ k. one (inl (h.0, k))) (λ k. other (inl (h.0, k)))) (λ h. case_of h (λ r. one (inr r)) (λ r. other (inr r)))
stops b (Many x ended) e next g =
    let last = ends (is_nil b) x false in
    let known = λ (next : Place) (h : Leads (plain x) next b []). (stops b x true next (inl (refl, h))).1 in
    case_of g
    (λ h. (or_left e last h.0, turns_end (plain x) b next known h.1.0 h.1.1))
    (λ r. let k = stops b x false (Leads (tree.Many (plain x)) next) (inr r) in (or_right e last k.0, turns_end (plain x) b next known k.1.0 k.1.1))

from_end : (b : List ℕ) (t : Marks) (e : Bool) (next : Place) → ends (is_nil b) t e ≡ true → next b [] → Goes t e next b []
from_end b Empty e next h k = inl (h, k)
from_end b (One is_negated spans is_last) e next h k = inr (h, k)
from_end b Begin e next h k = let g = and_both e (is_nil b) h in inl (g.0, (nil_of b g.1, k))
from_end b End e next h k = inl (h, (refl, k))
from_end b (Both x y) e next h k =
    case_of (from_end b y (ends (is_nil b) x e) next h k)
    (λ g. case_of (from_end b x e (Leads (plain y) next) g.0 g.1) (λ h. inl h) (λ r. inr (inl r)))
    (λ r. inr (inr r))
from_end b (Either x y) e next h k =
    case_of (or_cases (ends (is_nil b) x e) (ends (is_nil b) y e) h)
    (λ p. case_of (from_end b x e next p k) (λ h. inl (h.0, inl h.1)) (λ r. inr (inl r)))
    (λ p. case_of (from_end b y e next p k) (λ h. inl (h.0, inr h.1)) (λ r. inr (inr r)))
from_end b (Many x ended) e next h k =
    case_of (or_cases e (ends (is_nil b) x false) h)
    (λ p. inl (p, (zero, k)))
    (λ p. case_of (from_end b x false (Leads (tree.Many (plain x)) next) p (zero, k)) (λ h. let no : false ≡ true = h.0 in absurd (cc)) (λ r. inr r))

-- ---- a match that begins later

abbrev Later : Tree → Place
Later p b s = (skip rest : List ℕ) × (s ≡ skip ++ rest) × Leads p Any (b ++ skip) rest

later_at : (p : Tree) (b : List ℕ) (c : ℕ) (s skip rest : List ℕ) → c ∷ s ≡ skip ++ rest → Leads p Any (b ++ skip) rest → Leads p Any b (c ∷ s) ⊎ Later p (b ++ c ∷ []) s
later_at p b c s [] rest e h = inl (rw (append_nil b, ← e) at h)
later_at p b c s (d ∷ skip) rest e h =
    let same : d ≡ c = cc in
    let left : s ≡ skip ++ rest = cc in
    inr (skip, rest, left, (rw (same, ← append_assoc b (c ∷ []) skip) at h))

later : (p : Tree) (b : List ℕ) (c : ℕ) (s : List ℕ) → Later p b (c ∷ s) → Leads p Any b (c ∷ s) ⊎ Later p (b ++ c ∷ []) s
later p b c s h = later_at p b c s h.0 h.1 h.2 h.3

now : (p : Tree) (b s : List ℕ) → Leads p Any b s → Later p b s
now p b s h = ([], s, refl, (rw (← append_nil b) at h))

from_later : (p : Tree) (b : List ℕ) (c : ℕ) (s : List ℕ) → Later p (b ++ c ∷ []) s → Later p b (c ∷ s)
from_later p b c s h = (c ∷ h.0, h.1, ap (λ r. c ∷ r) h.2, (rw (append_assoc b (c ∷ []) h.0) at h.3))

later_end_at : (p : Tree) (b skip rest : List ℕ) → [] ≡ skip ++ rest → Leads p Any (b ++ skip) rest → Leads p Any b []
later_end_at p b [] rest e h = rw (e, ← append_nil b) h
later_end_at p b (d ∷ skip) rest e h = absurd (cc)

-- ---- a search

-- a match is found, or there is one
abbrev Will : Marks → Bool → Place
Will t found b s = (found ≡ true) ⊎ (Rest t Any b s ⊎ Later (plain t) b s)

abbrev searching : List ℕ → Marks → Bool → Search
searching b t found = record { marks = t; is_first = is_nil b; found = found }

kept_on : (b : List ℕ) (c : ℕ) (t : Marks) (e : Bool) → Kept (is_nil (b ++ c ∷ [])) (shifted (is_nil b) c t e)
kept_on b c t e = rw (not_nil b c) (kept-shifted (is_nil b) c t e)

later_shifted : (b : List ℕ) (c : ℕ) (s : List ℕ) (t : Marks) (e : Bool) → Later (plain t) (b ++ c ∷ []) s → Later (plain (shifted (is_nil b) c t e)) (b ++ c ∷ []) s
later_shifted b c s t e h = rw (plain-shifted (is_nil b) c t e) h

later_back : (b : List ℕ) (c : ℕ) (s : List ℕ) (t : Marks) (e : Bool) → Later (plain (shifted (is_nil b) c t e)) (b ++ c ∷ []) s → Later (plain t) (b ++ c ∷ []) s
later_back b c s t e h = rw (← plain-shifted (is_nil b) c t e) h

goes_will : (b s : List ℕ) (t : Marks) → Goes t true Any b s → Will t false b s
goes_will b s t g = case_of g (λ h. inr (inr (now (plain t) b s h.1))) (λ r. inr (inl r))

-- once found, always
stays : (s : List ℕ) (b : List ℕ) (t : Marks) → finds (searching b t true) s ≡ true
stays [] b t = refl
stays (c ∷ s) b t = let e = stays s (b ++ c ∷ []) t in rw (not_nil b c) at e

found_by : (s b : List ℕ) (t : Marks) (found : Bool) → (found ≡ true ⊎ Kept (is_nil b) t) → Will t found b s → finds (searching b t found) s ≡ true
found_by s b t true kept w = stays s b t
found_by [] b t false kept w =
    case_of w (λ no. absurd (cc))
    (λ h. case_of h
    (λ r. (stops b t true Any (inr r)).0)
    (λ l. (stops b t true Any (inl (refl, later_end_at (plain t) b l.0 l.1 l.2 l.3))).0))
found_by (c ∷ s) b t false kept w =
    let known = case_of kept (λ no. (let k : Kept (is_nil b) t = absurd (cc) in k)) (λ k. k) in
    let more = shifted (is_nil b) c t true in
    let p = passes (is_nil b) t true in
    let after = λ (g : Goes t true Any b (c ∷ s)).
    (let v : Will more p (b ++ c ∷ []) s = case_of (reads b c s t known true Any g) (λ r. inr (inl r)) (λ q. inl q.0) in v) in
    let will : Will more p (b ++ c ∷ []) s =
    case_of w (λ no. absurd (cc))
    (λ h. case_of h (λ r. after (inr r)) (λ l. case_of (later (plain t) b c s l) (λ k. after (inl (refl, k))) (λ l. inr (inr (later_shifted b c s t true l)))))
    in
    let e = found_by s (b ++ c ∷ []) more p (inr (kept_on b c t true)) will in
    rw (not_nil b c) at e

found_of : (s b : List ℕ) (t : Marks) (found : Bool) → (found ≡ true ⊎ Kept (is_nil b) t) → finds (searching b t found) s ≡ true → Will t found b s
found_of s b t true kept h = inl refl
found_of [] b t false kept h = goes_will b [] t (from_end b t true Any h tt)
found_of (c ∷ s) b t false kept h =
    let known = case_of kept (λ no. (let k : Kept (is_nil b) t = absurd (cc) in k)) (λ k. k) in
    let more = shifted (is_nil b) c t true in
    let p = passes (is_nil b) t true in
    case_of (found_of s (b ++ c ∷ []) more p (inr (kept_on b c t true)) (rw (← not_nil b c) at h))
    (λ e. goes_will b (c ∷ s) t (from_read b c s t known true Any (inr (e, tt))))
    (λ h. case_of h
    (λ r. goes_will b (c ∷ s) t (from_read b c s t known true Any (inl r)))
    (λ l. inr (inr (from_later (plain t) b c s (later_back b c s t true l)))))

nothing_marked : (t : Marks) (next : Place) (s : List ℕ) → Rest t next [] s → ⊥
nothing_marked Empty next s h = h
nothing_marked (One is_negated spans is_last) next s h = let e = h.0 in let f = and_false is_last in absurd (cc)
nothing_marked Begin next s h = h
nothing_marked End next s h = h
nothing_marked (Both x y) next s h = case_of h (λ r. nothing_marked x (Leads (plain y) next) s r) (λ r. nothing_marked y next s r)
nothing_marked (Either x y) next s h = case_of h (λ r. nothing_marked x next s r) (λ r. nothing_marked y next s r)
nothing_marked (Many x ended) next s h = nothing_marked x (Leads (tree.Many (plain x)) next) s h

-- what a search says is so, and so the other way
pub finds_so : (t : Marks) (text : List ℕ) → finds (begun t) text ≡ true → Finds (plain t) text
finds_so t text h =
    case_of (found_of text [] t false (inr (kept-first t)) h)
    (λ no. absurd (cc))
    (λ w. case_of w (λ r. absurd (nothing_marked t Any text r)) (λ l. leads-finds (plain t) text l.0 l.1 l.2 l.3))

pub finds_back : (t : Marks) (text : List ℕ) → Finds (plain t) text → finds (begun t) text ≡ true
finds_back t text h =
    let l = finds-leads (plain t) text h in found_by text [] t false (inr (kept-first t)) (inr (inr l))
