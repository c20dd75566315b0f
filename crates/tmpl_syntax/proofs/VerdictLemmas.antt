-- For `one_verdict`, `check` and `more_branches`: each list has one verdict, the one that is found in one pass: up to each
-- place nothing is refused, and the stack is what is open.
use Rattle.std.proofs.Common.{arith, ◌≡◌, ℕ, ◌<◌, ◌≤◌, List, length, length-append, ◌++◌, refl, subst, ⊎_elim, ◌+◌, true, false, [], ◌∷◌, Some, None, zero, suc, drop, get_or}
use Rattle.std.proofs.Common.{Option, Bool, ◌≢◌, ◌⊎◌, inl, inr, ap, sym, ◌∙◌}
use Rattle.std.proofs.lemmas.Bool.{cases_order, cases_lt}
use Rattle.std.proofs.lemmas.Option.{slice_get_within, slice_get-get_or}
use Rattle.tmpl_syntax.specs.Fault.{Reason}
use Rattle.tmpl_syntax.specs.Place.Body as body
use Rattle.tmpl_syntax.specs.Place.Body.{IsBefore, IsFirstRefused, Applies, misplaced, undeclared, IsMisplaced, NoneRefused, names_in}
use Rattle.tmpl_syntax.specs.computed.Frames.{Verdict, fine, refused, left_open, Judged}
use Rattle.tmpl_syntax.specs.Place.Role.{Role, plain, opener, else_part, closer, jump, nested, flawed}
use Rattle.std.specs.Prelude.{slice_get}
use Rattle.tmpl_syntax.specs.Fault as reason
use Rattle.tmpl_syntax.specs.computed.Frames.{Frame, top, is_placed, is_too_deep, names_at, frames_after, at_end, Known, with_inner}
use Rattle.tmpl_syntax.specs.computed.Frames.{known_after, none_known, fault_at, first_fault, knows, unless_fault, verdict_from, verdict_of}
use Rattle.tmpl_syntax.proofs.NameLemmas.{Clears, faultless, in-nothing}
use Rattle.tmpl_syntax.proofs.PlaceLemmas.{no_level, same-piece}
use Rattle.std.specs.Bool.{Decides}
use Rattle.std.proofs.lemmas.Bool.Decides.{not_from_Decides}
use Rattle.tmpl_syntax.proofs.OpenStackLemmas.{Stands, here-of}
use Rattle.tmpl_syntax.proofs.StepLemmas.{stands-opened, stands-ended, stands-passed, stands-parted}
use Rattle.tmpl_syntax.proofs.JudgeLemmas.{IsTooDeep, in_levels, in_parentheses, IsUndeclared, placed, deep, declared}
use Rattle.std.proofs.lemmas.List.{drop_all, drop_more}

-- a reason says this of an item
abbrev Says : List Role → ℕ → Role → Reason → Type 0
Says xs i (flawed why) r = why ≡ r
Says xs i x reason.out_of_place = IsMisplaced xs i x
Says xs i x reason.nested_too_deeply = IsTooDeep xs i x
Says xs i x reason.undeclared_variable = IsUndeclared xs i x
Says xs i x r = ⊥

-- what is flawed has no other fault
says-placed : (xs : List Role) (i : ℕ) (x : Role) → IsMisplaced xs i x → Says xs i x reason.out_of_place
says-placed xs i (flawed why) m = absurd m
says-placed xs i _ m = m

says-deep : (xs : List Role) (i : ℕ) (x : Role) → IsTooDeep xs i x → Says xs i x reason.nested_too_deeply
says-deep xs i (flawed why) (in_levels is l m) = cc
says-deep xs i (flawed why) (in_parentheses is) = cc
says-deep xs i _ d = d

says-undeclared : (xs : List Role) (i : ℕ) (x : Role) → IsUndeclared xs i x → Says xs i x reason.undeclared_variable
says-undeclared xs i (flawed why) u = in-nothing u.0 u.1
says-undeclared xs i _ u = u

-- the item to which a reason applies
holder : (xs : List Role) (i : ℕ) (r : Reason) → Applies xs i r → (x : Role) × (slice_get xs i ≡ Some x) × Says xs i x r
holder xs i r (body.flawed e) = (flawed r, e, refl)
holder xs i _ (misplaced {x = x} e m) = (x, e, says-placed xs i x m)
holder xs i _ (body.in_levels {x = x} e is l m) = (x, e, says-deep xs i x (in_levels is l m))
holder xs i _ (body.in_parentheses {b = b} e) = (nested b, e, in_parentheses refl)
holder xs i _ (undeclared {x = x} name e c n) = (x, e, says-undeclared xs i x (name, c, n))

deep-applies : (xs : List Role) (i : ℕ) (x : Role) → slice_get xs i ≡ Some x → IsTooDeep xs i x → Applies xs i reason.nested_too_deeply
deep-applies xs i x at (in_levels is l m) = body.in_levels at is l m
deep-applies xs i x at (in_parentheses is) = body.in_parentheses (at ∙ ap (λ y. Some y) is)

pub within : (xs : List Role) (i : ℕ) (f : Reason) → Applies xs i f → i < length xs
within xs i f a = let h = holder xs i f a in slice_get_within xs i h.0 h.1

said : (xs : List Role) (i : ℕ) (x : Role) → slice_get xs i ≡ Some x → (r : Reason) → Applies xs i r → Says xs i x r
said xs i x at r a = let h = holder xs i r a in subst (λ y. Says xs i y r) (same-piece xs i h.0 x h.1 at) h.2

-- what is not flawed has one of three faults
abbrev SaysOne : List Role → ℕ → Role → Reason → Type 0
SaysOne xs i x r = (IsMisplaced xs i x × (r ≡ reason.out_of_place)) ⊎ (IsTooDeep xs i x × (r ≡ reason.nested_too_deeply))
    ⊎ (IsUndeclared xs i x × (r ≡ reason.undeclared_variable))

says-one : (xs : List Role) (i : ℕ) (x : Role) → ((why : Reason) → x ≢ flawed why) → (r : Reason) → Says xs i x r → SaysOne xs i x r
says-one xs i (flawed why) sound r s = absurd (sound why refl)
says-one xs i x sound reason.out_of_place s = inl (s, refl)
says-one xs i x sound reason.nested_too_deeply s = inr (inl (s, refl))
says-one xs i x sound reason.undeclared_variable s = inr (inr (s, refl))
says-one xs i x sound r s = absurd s

-- where a reason stands in the order
abbrev rank : Reason → ℕ
rank reason.out_of_place = 0
rank reason.nested_too_deeply = 1
rank why = 2

-- the reason of a rank
abbrev at-rank : ℕ → Reason
at-rank zero = reason.out_of_place
at-rank (suc zero) = reason.nested_too_deeply
at-rank (suc (suc n)) = reason.undeclared_variable

ranked : (xs : List Role) (i : ℕ) (x : Role) (r : Reason) → SaysOne xs i x r → r ≡ at-rank (rank r)
ranked xs i x r (inl s) = rw s.1 refl
ranked xs i x r (inr (inl s)) = rw s.1 refl
ranked xs i x r (inr (inr s)) = rw s.1 refl

-- reasons of one rank that are said of an item are one
same-said : (xs : List Role) (i : ℕ) (x : Role) (f g : Reason) → Says xs i x f → Says xs i x g → rank f ≡ rank g → f ≡ g
same-said xs i (flawed why) f g a b e = sym a ∙ b
same-said xs i x f g a b e = ranked xs i x f (says-one xs i x (λ w e. cc) f a) ∙ ap at-rank e
    ∙ sym (ranked xs i x g (says-one xs i x (λ w e. cc) g b))

same-rank : (xs : List Role) (i : ℕ) (f g : Reason) → Applies xs i f → Applies xs i g → rank f ≡ rank g → f ≡ g
same-rank xs i f g a b e = let h = holder xs i f a in same-said xs i h.0 f g h.2 (said xs i h.0 h.1 g b) e

-- a reason that is asked for before another has a lower rank
before-lower : (r why : Reason) → IsBefore r why → rank r < rank why
before-lower r why ([], [], rest, e) = let first : reason.out_of_place ≡ r = cc in let second : reason.nested_too_deeply ≡ why = cc in
    omega (arith, ap rank first, ap rank second)
before-lower r why ([], b ∷ [], rest, e) = let first : reason.out_of_place ≡ r = cc in let third : reason.undeclared_variable ≡ why = cc in
    omega (arith, ap rank first, ap rank third)
before-lower r why ([], b ∷ c ∷ bs, rest, e) = absurd (omega (arith, ap length e, length-append bs (why ∷ rest)))
before-lower r why (a ∷ [], [], rest, e) = let second : reason.nested_too_deeply ≡ r = cc in let third : reason.undeclared_variable ≡ why = cc in
    omega (arith, ap rank second, ap rank third)
before-lower r why (a ∷ [], b ∷ bs, rest, e) = absurd (omega (arith, ap length e, length-append bs (why ∷ rest)))
before-lower r why (a ∷ b ∷ front, bs, rest, e) =
    absurd (omega (arith, ap length e, length-append front (r ∷ (bs ++ why ∷ rest)), length-append bs (why ∷ rest)))

rank-most : (r : Reason) → rank r ≤ 2
rank-most reason.out_of_place = omega arith
rank-most reason.nested_too_deeply = omega arith
rank-most r = omega arith

-- of two reasons that an item may have, the one of the lower rank is asked for before the other
lower-before : (r why : Reason) → r ≡ at-rank (rank r) → why ≡ at-rank (rank why) → rank r < rank why → IsBefore r why
lower-before r why e g lt = rw (e, g) (by (rank r) (rank why) (rank-most why) lt)
  where
    by : (m n : ℕ) → n ≤ 2 → m < n → IsBefore (at-rank m) (at-rank n)
    by zero zero h lt = absurd (omega arith)
    by zero (suc zero) h lt = ([], [], reason.undeclared_variable ∷ [], refl)
    by zero (suc (suc n)) h lt = ([], reason.nested_too_deeply ∷ [], [], refl)
    by (suc zero) zero h lt = absurd (omega arith)
    by (suc zero) (suc zero) h lt = absurd (omega arith)
    by (suc zero) (suc (suc n)) h lt = (reason.out_of_place ∷ [], [], [], refl)
    by (suc (suc m)) n h lt = absurd (omega arith)

-- no reason of a lower rank applies where this one is the first
none-lower : (xs : List Role) (i : ℕ) (why : Reason) → IsFirstRefused xs i why → (r : Reason) → rank r < rank why → Applies xs i r → ⊥
none-lower xs i why f r lt a = let h = holder xs i why f.0 in by h.0 h.2 (said xs i h.0 h.1 r a)
  where
    by : (x : Role) → Says xs i x why → Says xs i x r → ⊥
    by (flawed w) s t = let e = ap rank (sym s ∙ t) in omega arith
    by x s t = f.1 r (lower-before r why (ranked xs i x r (says-one xs i x (λ w e. cc) r t)) (ranked xs i x why (says-one xs i x (λ w e. cc) why s)) lt) a

same-fault : (xs : List Role) (i : ℕ) (f g : Reason) → Judged xs (refused i f) → Judged xs (refused i g) → f ≡ g
same-fault xs i f g a b = ⊎_elim (λ e. same-rank xs i f g a.0 b.0 e) (λ o. ⊎_elim (λ lt. absurd (none-lower xs i g b f lt a.0))
    (λ gt. absurd (none-lower xs i f a g gt b.0)) o) (cases_order (rank f) (rank g))

same-refused : (xs : List Role) (i j : ℕ) (f g : Reason) → Judged xs (refused i f) → Judged xs (refused j g) → refused i f ≡ refused j g
same-refused xs i j f g a b = ⊎_elim
    (λ e. let s = same-fault xs j f g (subst (λ k. Judged xs (refused k f)) e a) b in cc)
    (λ o. ⊎_elim (λ lt. absurd (b.2 i f lt a.0)) (λ gt. absurd (a.2 j g gt b.0)) o)
    (cases_order i j)

pub one-verdict : (xs : List Role) (v w : Verdict) → Judged xs v → Judged xs w → v ≡ w
one-verdict xs fine fine a b = refl
one-verdict xs left_open left_open a b = refl
one-verdict xs (refused i f) (refused j g) a b = same-refused xs i j f g a b
one-verdict xs fine left_open a b = absurd (a.1 b.1 b.2)
one-verdict xs left_open fine a b = absurd (b.1 a.1 a.2)
one-verdict xs _ (refused i f) a b = absurd (a.0 i f (within xs i f b.0) b.0)
one-verdict xs (refused i f) _ a b = absurd (b.0 i f (within xs i f a.0) a.0)

record Sound (xs : List Role) (i : ℕ) (known : Known) (fs : List Frame) : Type 0 where
  stands : Stands xs i known fs
  none_refused : NoneRefused xs i

sound-start : (xs : List Role) → Sound xs 0 none_known []
sound-start xs = record {
  stands = (
    λ j o. let b = o.before in omega arith,
    record {
      levels_are = no_level;
      sees = λ n. (λ e. cc, λ b. let lt = b.before in absurd (omega arith));
    },
  );
  none_refused = λ k f lt h. omega arith;
}

-- what is found at an item: no reason applies, or this one does, and none that is asked for before it
abbrev Tells : List Role → ℕ → Option Reason → Type 0
Tells xs i None = (r : Reason) → Applies xs i r → ⊥
Tells xs i (Some f) = Applies xs i f × ((r : Reason) → rank r < rank f → Applies xs i r → ⊥)

module _ (xs : List Role) (i : ℕ) (a : Role) (at : slice_get xs i ≡ Some a) (sound : (r : Reason) → Says xs i a r → SaysOne xs i a r) where
  -- what is asked for first does not apply
  lower : (n : ℕ) → (0 < n → IsMisplaced xs i a → ⊥) → (1 < n → IsTooDeep xs i a → ⊥) → (2 < n → IsUndeclared xs i a → ⊥)
      → (r : Reason) → rank r < n → Applies xs i r → ⊥
  lower n m t u r lt h = ⊎_elim
      (λ s. m (let e = ap rank s.1 in omega arith) s.0)
      (⊎_elim (λ s. t (let e = ap rank s.1 in omega arith) s.0) (λ s. u (let e = ap rank s.1 in omega arith) s.0))
      (sound r (said xs i a at r h))

  by_tests : (p d k : Bool) → Clears p (IsMisplaced xs i a) → Decides d (IsTooDeep xs i a) → (p ≡ true → Clears k (IsUndeclared xs i a))
      → Tells xs i (first_fault p d k)
  by_tests false d k m t u = (misplaced at m, lower 0 (λ lt. absurd (omega arith)) (λ lt. absurd (omega arith)) (λ lt. absurd (omega arith)))
  by_tests true true k m t u = (deep-applies xs i a at (t.0 refl), lower 1 (λ lt. m) (λ lt. absurd (omega arith)) (λ lt. absurd (omega arith)))
  by_tests true false false m t u =
      let n = u refl in
      (undeclared n.0 at n.1 n.2, lower 2 (λ lt. m) (λ lt. not_from_Decides false t refl) (λ lt. absurd (omega arith)))
  by_tests true false true m t u = λ r h. ⊎_elim (λ s. m s.0) (⊎_elim (λ s. not_from_Decides false t refl s.0) (λ s. u refl s.0)) (sound r (said xs i a at r h))

-- the fault of an item is the reason that applies first
tells : (xs : List Role) (i : ℕ) (known : Known) (fs : List Frame) → Stands xs i known fs → (x : Role) → slice_get xs i ≡ Some x
    → Tells xs i (fault_at x (top fs) (names_at x (top fs) known.inner))
tells xs i known fs s (flawed why) at =
    (body.flawed at, λ r lt h. let e : why ≡ r = said xs i (flawed why) at r h in let g = ap rank e in omega arith)
tells xs i known fs s a at = by_tests xs i a at (says-one xs i a (λ w e. cc)) (is_placed a (top fs)) (is_too_deep a (top fs))
    (knows (names_at a (top fs) known.inner) (names_in a).uses)
    (placed xs i known fs a s) (deep xs i a (top fs) known.inner (here-of xs i known fs s)) (declared xs i known fs s a at)

after : (xs : List Role) (i : ℕ) (known : Known) (fs : List Frame) (a : Role) → slice_get xs i ≡ Some a → is_placed a (top fs) ≡ true
    → Stands xs i known fs → Stands xs (i + 1) (known_after a (top fs) (with_inner known (names_at a (top fs) known.inner)))
    (frames_after a fs (names_at a (top fs) known.inner))
after xs i known fs (plain p) at e s = stands-passed xs i known (plain p) fs at refl refl (λ b g. cc) s
after xs i known fs (opener c p) at e s = stands-opened xs i known p fs s c at
after xs i known (f ∷ fs) (else_part None) at e s = stands-parted xs i known f fs s None at e
after xs i known (f ∷ fs) (else_part (Some (b, p))) at e s = stands-parted xs i known f fs s (Some (b, p)) at e
after xs i known (f ∷ fs) closer at e s = stands-ended xs i known f fs at s
after xs i known fs (nested d) at e s = stands-passed xs i known (nested d) fs at refl refl (λ b g. cc) s
after xs i known fs jump at e s = stands-passed xs i known jump fs at refl refl (λ b g. cc) s
after xs i known fs (flawed why) at e s = stands-passed xs i known (flawed why) fs at refl refl (λ b g. cc) s
after xs i known [] (else_part (Some (b, p))) at e s = cc
after xs i known [] _ at e s = cc

-- what stands after an item that is not refused
past : (xs : List Role) (i : ℕ) (known : Known) (fs : List Frame) (x : Role) → slice_get xs i ≡ Some x
    → fault_at x (top fs) (names_at x (top fs) known.inner) ≡ None → Stands xs i known fs
    → Stands xs (i + 1) (known_after x (top fs) (with_inner known (names_at x (top fs) known.inner))) (frames_after x fs (names_at x (top fs) known.inner))
past xs i known fs (flawed why) at e s = cc
past xs i known fs a at e s =
    after xs i known fs a at (faultless (is_placed a (top fs)) (is_too_deep a (top fs)) (knows (names_at a (top fs) known.inner) (names_in a).uses) e).0 s

sound-end : (xs : List Role) (i : ℕ) (known : Known) (fs : List Frame) → i ≡ length xs → Sound xs i known fs → Judged xs (at_end fs)
sound-end xs i known [] e s = let all : Sound xs (length xs) known [] = subst (λ n. Sound xs n known []) e s in (all.none_refused, all.stands.0)
sound-end xs i known (f ∷ fs) e s =
    let all : Sound xs (length xs) known (f ∷ fs) = subst (λ n. Sound xs n known (f ∷ fs)) e s in (all.none_refused, all.stands.1, all.stands.2.last.is_open)

module _ (xs : List Role) where
  -- an item is refused, or what stands after it decides
  judged-item : (i : ℕ) (known : Known) (fs : List Frame) (x : Role) → slice_get xs i ≡ Some x → Sound xs i known fs → (v : Verdict)
      → let seen = names_at x (top fs) known.inner in
      (Sound xs (i + 1) (known_after x (top fs) (with_inner known seen)) (frames_after x fs seen) → Judged xs v)
      → Judged xs (unless_fault (fault_at x (top fs) seen) i v)
  judged-item i known fs x at s v further = go (fault_at x (top fs) (names_at x (top fs) known.inner)) refl (tells xs i known fs s.stands x at)
    where
      go : (o : Option Reason) → fault_at x (top fs) (names_at x (top fs) known.inner) ≡ o → Tells xs i o → Judged xs (unless_fault o i v)
      go None e clear = further (record {
        stands = past xs i known fs x at e s.stands;
        none_refused = λ k f lt a. ⊎_elim
            (λ low. s.none_refused k f low a)
            (λ ge. let g : k ≡ i = omega arith in clear f (subst (λ n. Applies xs n f) g a))
            (cases_lt k i);
      })
      go (Some f) e t = (t.0, λ r h. t.1 r (before-lower r f h), s.none_refused)

  judged-from : (n i : ℕ) (known : Known) (fs : List Frame) → i + n ≡ length xs → Sound xs i known fs → Judged xs (verdict_from i fs known (drop i xs))
  judged-from zero i known fs e s = rw (drop_all i xs (omega arith)) (sound-end xs i known fs (omega arith) s)
  judged-from (suc n) i known fs e s = rw (drop_more xs i closer (omega arith)) (judged-item i known fs (get_or xs i closer)
      (slice_get-get_or xs i closer (omega arith)) s _ (judged-from n (i + 1) _ _ (omega arith)))

  pub judged-all : Judged xs (verdict_of xs)
  unfolding verdict_of
  judged-all = judged-from (length xs) 0 none_known [] (omega arith) (sound-start xs)

pub ruleset verdicts = (judged-all, one-verdict)
