-- For `compile`, which puts the last template first: what the relation says of one template more in front.
use Rattle.std.proofs.Common.{arith, ◌≡◌, ◌∙◌, ◌+◌, ◌-◌, ℕ, List, [], ◌∷◌, ◌++◌, length, drop, reverse, Some, slice_get, ap, sym, subst}
use Rattle.std.proofs.lemmas.List.{reverse-append}
use Rattle.tmpl_syntax.specs.Set.{Template}
use Rattle.tmpl_syntax.proofs.SecondLemmas.{drop-next}
use Rattle.tmpl_code.specs.Code.{Code, TreeAt, Starts}
use Rattle.tmpl_code.specs.computed.Held.{Ends, last_of, places, LastStarts}
use Rattle.tmpl_code.proofs.TailLemmas.{longer, last-on}

-- where code stands that is put before other code, the others stand as before
starts_on : (all ts : List Template) (ns : List ℕ) (old new : Code) → Ends old new → LastStarts all ts ns old → LastStarts all ts ns new
starts_on all [] [] old new e s = tt
starts_on all [] (n ∷ ns) old new e s = absurd s
starts_on all (t ∷ ts) [] old new e s = absurd s
starts_on all (t ∷ ts) (n ∷ ns) old new e s =
    let more = longer e in
    let within = s.0 in
    let same : last_of n new ≡ last_of n old = ap (last_of n) e.is ∙ last-on e.front old n s.0 in
    (omega arith, (s.1.0, subst (λ (c : Code). TreeAt all t.1.nodes c s.1.0) (sym same) s.1.1), starts_on all ts ns old new e s.2)

whole : (code : Code) → last_of (length code) code ≡ code
whole code = let none : length code - length code ≡ 0 = omega arith in ap (λ n. drop n code) none

pub starts_more : (all : List Template) (i : ℕ) (t : Template) (ns more : List ℕ) (n : ℕ) (old new : Code) → slice_get all i ≡ Some t
    → more ≡ ns ++ n ∷ [] → n ≡ length new → TreeAt all t.1.nodes new old → Ends old new
    → LastStarts all (drop (i + 1) all) (reverse ns) old
    → LastStarts all (drop i all) (reverse more) new
starts_more all i t ns more n old new at put len lies on s =
    let first : reverse more ≡ n ∷ reverse ns = ap reverse put ∙ reverse-append ns (n ∷ []) in
    let begins : last_of n new ≡ new = ap (λ k. last_of k new) len ∙ whole new in
    rw (drop-next all i t at, first) (omega (arith, len), (old, rw begins lies), starts_on all (drop (i + 1) all) (reverse ns) old new on s)

-- so much code is left from its place on
pub starts : (all ts : List Template) (ns : List ℕ) (code : Code) → LastStarts all ts ns code → Starts all ts (places (length code) ns) code
starts all [] [] code s = tt
starts all [] (n ∷ ns) code s = absurd s
starts all (t ∷ ts) [] code s = absurd s
starts all (t ∷ ts) (n ∷ ns) code s = (s.1, starts all ts ns code s.2)
