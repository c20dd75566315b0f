-- For `one_verdict`: what is open moves with the place, and with it templates, levels and loops.
use Rattle.std.proofs.Common.{arith, ◌≡◌, ◌≢◌, ℕ, ◌+◌, ◌-◌, ◌<◌, ◌≤◌, Bool, true, false, cond, List, refl, sym, ap, ◌∙◌, subst, take, drop, add-zero, Option}
use Rattle.std.proofs.Common.{[], ◌∷◌, length, Some, ⊎_elim, zero, suc, add-one, None, ◌⊎◌, inl, inr}
use Rattle.std.specs.Prelude.{slice_get, slice_range, is_some}
use Rattle.std.specs.List.{count_by}
use Rattle.std.proofs.lemmas.Bool.{cases_order, cases_lt}
use Rattle.std.proofs.lemmas.List.{take-take, drop-take}
use Rattle.std.proofs.lemmas.Option.{get_or_from_slice_get, slice_get_within}
use Rattle.std.proofs.lemmas.List.Sums.{sum_by-take-drop, count_by_more_yes, count_by_more_no}
use Rattle.tmpl_grammar.specs.declared.action.Branch.{Branch}
use Rattle.tmpl_syntax.specs.Place.Open.{opens, ends, IsOpen, IsLast, IsElseOf, HasElse, is_template, IsLastBody, OfOneTemplate}
use Rattle.tmpl_syntax.specs.Place.Opening.{Opening}
use Rattle.tmpl_syntax.specs.Place.Role.{Names, opener, else_part, closer, Role}
use Rattle.tmpl_syntax.specs.Place.Body.{IsLoop, IsLevel, of_opening, of_else_branch, AreLevels, none, level}
use Rattle.tmpl_syntax.specs.computed.Frames.{level_of, else_levels}
use Rattle.tmpl_syntax.specs.Place.Opening as opened

abbrev pub one_if : Bool → ℕ
one_if b = cond b 1 0

-- openings and ends before a place
abbrev pub ups : List Role → ℕ → ℕ
ups xs n = count_by opens (take n xs)

abbrev pub downs : List Role → ℕ → ℕ
downs xs n = count_by ends (take n xs)

-- a stretch has the rest of them
pub count-front : (p : Role → Bool) (xs : List Role) (a n : ℕ) → a ≤ n
    → count_by p (take n xs) ≡ count_by p (take a xs) + count_by p (slice_range xs a n)
count-front p xs a n le =
    let rest : n ≡ a + (n - a) = omega arith in
    sym (sum_by-take-drop (λ x. cond (p x) 1 0) (take n xs) a)
    ∙ ap (λ l. count_by p l + count_by p (drop a (take n xs))) (take-take a n xs le)
    ∙ ap (λ l. count_by p (take a xs) + count_by p l) (ap (λ k. drop a (take k xs)) rest ∙ drop-take a (n - a) xs)

-- one more piece
count-more : (p : Role → Bool) (xs : List Role) (x : Role) (n : ℕ) → slice_get xs n ≡ Some x
    → count_by p (take (n + 1) xs) ≡ count_by p (take n xs) + one_if (p x)
count-more p xs x n at = by (p x) refl
  where
    by : (b : Bool) → p x ≡ b → count_by p (take (n + 1) xs) ≡ count_by p (take n xs) + one_if b
    by true e = count_by_more_yes p xs n x (slice_get_within xs n x at) (ap p (get_or_from_slice_get xs n x x at) ∙ e)
    by false e = count_by_more_no p xs n x (slice_get_within xs n x at) (ap p (get_or_from_slice_get xs n x x at) ∙ e) ∙ sym (add-zero _)

-- up to n no more ends than openings since the opening at j
abbrev pub IsFront : List Role → ℕ → ℕ → Type 0
IsFront xs j n = downs xs n + ups xs (j + 1) ≤ ups xs n + downs xs (j + 1)

front : (xs : List Role) (j i : ℕ) → IsOpen xs j i → (n : ℕ) → j < n → n ≤ i → IsFront xs j n
front xs j i h n from to =
    omega (arith, h.fronts n from to, count-front ends xs (j + 1) n (omega arith), count-front opens xs (j + 1) n (omega arith))

abbrev pub open-by : (xs : List Role) (j i : ℕ) (c : Opening) (p : Names) → slice_get xs j ≡ Some (opener c p) → j < i
    → ((n : ℕ) → j < n → n ≤ i → IsFront xs j n) → IsOpen xs j i
open-by xs j i c p at before fronts = record {
  opened = c;
  names = p;
  at = at;
  before = before;
  fronts = λ n from to. omega (arith, fronts n from to, count-front ends xs (j + 1) n (omega arith), count-front opens xs (j + 1) n (omega arith));
}

pub same-piece : (xs : List Role) (i : ℕ) (a b : Role) → slice_get xs i ≡ Some a → slice_get xs i ≡ Some b → a ≡ b
same-piece xs i a b e f = cc

pub same-opening : (xs : List Role) (j : ℕ) (c d : Opening) {p q : Names} → slice_get xs j ≡ Some (opener c p)
    → slice_get xs j ≡ Some (opener d q) → c ≡ d
same-opening xs j c d {p} {q} a b = cc

-- a place between
pub cut : (xs : List Role) (k m i : ℕ) → k < m → m ≤ i → IsOpen xs k i → IsOpen xs k m
cut xs k m i lt le h = record { opened = h.opened; names = h.names; at = h.at; before = lt; fronts = λ n from to. h.fronts n from (omega arith) }

-- what is open at an open opening is open
pub through : (xs : List Role) (k j i : ℕ) → IsOpen xs k j → IsOpen xs j i → IsOpen xs k i
through xs k j i a b =
    let lt = a.before in
    let gt = b.before in
    open-by xs k i a.opened a.names a.at (omega arith) (λ n from to. ⊎_elim
    (λ beyond. omega (
      arith,
      front xs k j a j lt (omega arith),
      front xs j i b n beyond to,
      count-more ends xs (opener b.opened b.names) j b.at,
      count-more opens xs (opener b.opened b.names) j b.at,
    ))
    (λ le. front xs k j a n from le)
    (cases_lt j n))

pub one-last : (xs : List Role) (j k i : ℕ) → IsLast xs j i → IsLast xs k i → j ≡ k
one-last xs j k i a b = ⊎_elim (λ e. e) (λ o. ⊎_elim (λ lt. absurd (a.last k lt b.is_open)) (λ lt. absurd (b.last j lt a.is_open)) o) (cases_order j k)

-- at two places the same is open
pub record Even (xs : List Role) (j m : ℕ) : Type 0 where
  pub le : j ≤ m
  pub balance : ups xs m + downs xs j ≡ ups xs j + downs xs m
  pub keeps : (k : ℕ) → IsOpen xs k j → IsOpen xs k m
  pub only : (k : ℕ) → IsOpen xs k m → IsOpen xs k j

pub even-here : (xs : List Role) (i : ℕ) → Even xs i i
even-here xs i = record { le = omega arith; balance = refl; keeps = λ k o. o; only = λ k o. o }

-- .. and no else between belongs to what is open
pub record Same (xs : List Role) (j m : ℕ) : Type 0 where
  pub even : Even xs j m
  pub no_else : (b : Option (Branch × Names)) (q h : ℕ) → j ≤ h → h < m → IsOpen xs q j → IsElseOf xs b q h → ⊥

-- what opens nothing is no opening
pub shut-at : (xs : List Role) (x : Role) (i m : ℕ) → slice_get xs i ≡ Some x → opens x ≡ false → IsOpen xs i m → ⊥
shut-at xs x i m at shut h =
    let t : true ≡ false = ap opens (same-piece xs i (opener h.opened h.names) x h.at at) ∙ shut in cc

-- what is open is open past one place more, where that ends no more than was opened since
open-past : (xs : List Role) (k i : ℕ) → IsOpen xs k i → IsFront xs k (i + 1) → IsOpen xs k (i + 1)
open-past xs k i h past = let lt = h.before in open-by xs k (i + 1) h.opened h.names h.at (omega arith) (λ n from to. ⊎_elim
    (λ below. front xs k i h n from (omega arith))
    (λ ge. let s : n ≡ i + 1 = omega arith in rw s past)
    (cases_lt n (i + 1)))

-- what ends nothing leaves open what is open
pub opened-keeps : (xs : List Role) (x : Role) (i k : ℕ) → slice_get xs i ≡ Some x → ends x ≡ false → IsOpen xs k i → IsOpen xs k (i + 1)
opened-keeps xs x i k at e h =
    open-past xs k i h (omega (arith, front xs k i h i h.before (omega arith), ap one_if e, count-more ends xs x i at, count-more opens xs x i at))

pub even-step : (xs : List Role) (x : Role) (i : ℕ) → slice_get xs i ≡ Some x → opens x ≡ false → ends x ≡ false → Even xs i (i + 1)
even-step xs x i at o e = record {
  le = omega arith;
  balance = omega (arith, ap one_if o, ap one_if e, count-more ends xs x i at, count-more opens xs x i at);
  keeps = λ k h. opened-keeps xs x i k at e h;
  only = λ k h. ⊎_elim
      (λ lt. cut xs k i (i + 1) lt (omega arith) h)
      (λ ge. let lt = h.before in let s : k ≡ i = omega arith in absurd (shut-at xs x i (i + 1) at o (subst (λ n. IsOpen xs n (i + 1)) s h)))
      (cases_lt k i);
}

-- after an end stands what stood before its opening
pub same-ended : (xs : List Role) (j i : ℕ) → IsLast xs j i → ups xs i + downs xs (j + 1) ≡ ups xs (j + 1) + downs xs i
    → slice_get xs i ≡ Some closer → Same xs j (i + 1)
same-ended xs j i l over at =
    let lt = l.is_open.before in
    let p = (opener l.is_open.opened l.is_open.names) in
    let me = count-more ends xs closer i at in
    let mo = count-more opens xs closer i at in
    let pe = count-more ends xs p j l.is_open.at in
    let po = count-more opens xs p j l.is_open.at in
    record {
      even = record {
        le = omega arith;
        balance = omega (arith, over, me, mo, pe, po);
        keeps = λ k h. open-past xs k i (through xs k j i h l.is_open) (omega (arith, front xs k j h j h.before (omega arith), over, me, mo, pe, po));
        only = λ k h. ⊎_elim
            (λ below. cut xs k j (i + 1) below (omega arith) h)
            (λ ge. absurd (⊎_elim
            (λ ki. ⊎_elim
            (λ e. omega (arith, front xs j (i + 1) (subst (λ n. IsOpen xs n (i + 1)) e h) (i + 1) (omega arith) (omega arith), over, me, mo))
            (λ o. ⊎_elim (λ kj. omega arith) (λ jk. l.last k jk (cut xs k i (i + 1) ki (omega arith) h)) o)
            (cases_order k j))
            (λ ik. let kb = h.before in let s : k ≡ i = omega arith in shut-at xs closer i (i + 1) at refl (subst (λ n. IsOpen xs n (i + 1)) s h))
            (cases_lt k i)))
            (cases_lt k j);
      };
      no_else = λ b q h from to o e. ⊎_elim
          (λ hi. ⊎_elim
          (λ jh. e.belongs.last j o.before (cut xs j h i jh (omega arith) l.is_open))
          (λ hj. let s : h ≡ j = omega arith in shut-at xs (else_part b) j i (subst (λ n. slice_get xs n ≡ Some (else_part b)) s e.at)
          refl l.is_open)
          (cases_lt j h))
          (λ ih. let s : h ≡ i = omega arith in let g : (else_part b) ≡ closer = same-piece xs i (else_part b) closer
          (subst (λ n. slice_get xs n ≡ Some (else_part b)) s e.at) at in cc)
          (cases_lt h i);
    }

-- .. and after a piece that is no opening, end or else
pub same-still : (xs : List Role) (x : Role) (i : ℕ) → slice_get xs i ≡ Some x → opens x ≡ false → ends x ≡ false
    → ((b : Option (Branch × Names)) → x ≢ (else_part b)) → Same xs i (i + 1)
same-still xs x i at o e ne = record {
  even = even-step xs x i at o e;
  no_else = λ b q h from to open_q el. let s : h ≡ i = omega arith in ne b
      (same-piece xs i x (else_part b) at (subst (λ n. slice_get xs n ≡ Some (else_part b)) s el.at));
}

-- what an opening adds
abbrev pub opened_new : (xs : List Role) (i : ℕ) (c : Opening) (p : Names) → slice_get xs i ≡ Some (opener c p) → IsOpen xs i (i + 1)
opened_new xs i c p at = open-by xs i (i + 1) c p at (omega arith) (λ n from to. let s : n ≡ i + 1 = omega arith in rw s (omega arith))

abbrev pub last_new : (xs : List Role) (i : ℕ) (c : Opening) (p : Names) → slice_get xs i ≡ Some (opener c p) → IsLast xs i (i + 1)
last_new xs i c p at = record { is_open = opened_new xs i c p at; last = λ k lt o. let le = o.before in omega arith }

-- an opening at j, open at i, whose body is a template of its own
pub record IsBody (xs : List Role) (j i : ℕ) : Type 0 where
  pub is_open : IsOpen xs j i
  pub own : is_template is_open.opened ≡ true

-- at two places the bodies of the same defines and blocks are open
pub record Alike (xs : List Role) (a b : ℕ) : Type 0 where
  pub to : (k : ℕ) → IsBody xs k a → IsBody xs k b
  pub back : (k : ℕ) → IsBody xs k b → IsBody xs k a

pub move-body : (xs : List Role) (k a b : ℕ) → IsBody xs k a → IsOpen xs k b → IsBody xs k b
move-body xs k a b h o = record { is_open = o; own = subst (λ c. is_template c ≡ true) (same-opening xs k h.is_open.opened o.opened h.is_open.at o.at) h.own }

pub alike-back : (xs : List Role) (a b : ℕ) → Alike xs a b → Alike xs b a
alike-back xs a b e = record { to = e.back; back = e.to }

-- what is the body of no template
no-own : (xs : List Role) (k i : ℕ) (o : IsOpen xs k i) → (IsBody xs k i → ⊥) → is_template o.opened ≡ false
no-own xs k i o never = by (is_template o.opened) refl
  where
    by : (t : Bool) → is_template o.opened ≡ t → is_template o.opened ≡ false
    by false e = e
    by true e = absurd (never (record { is_open = o; own = e }))

not-own : (xs : List Role) (k i : ℕ) → ((o : IsOpen xs k i) → is_template o.opened ≡ false) → IsBody xs k i → ⊥
not-own xs k i never h = let t : true ≡ false = sym h.own ∙ never h.is_open in cc

-- the last body is the last where the same bodies are open
last-moves : (xs : List Role) (a b : ℕ) → Alike xs a b → (j : ℕ) → IsLastBody xs j a → IsLastBody xs j b
last-moves xs a b e j l =
    let moved = e.to j (record { is_open = l.is_open; own = l.own }) in
    record { is_open = moved.is_open; own = moved.own; last = λ k lt o. no-own xs k b o (λ h. not-own xs k a (l.last k lt) (e.back k h)) }

-- places where the same bodies are open are of one template
pub one-alike : (xs : List Role) (a b : ℕ) → Alike xs a b → OfOneTemplate xs a b
one-alike xs a b e = λ j. (last-moves xs a b e j, last-moves xs b a (alike-back xs a b e) j)

pub one-moves : (xs : List Role) (k a b : ℕ) → Alike xs a b → OfOneTemplate xs k a → OfOneTemplate xs k b
one-moves xs k a b e h =
    let moved = one-alike xs a b e in λ j. (λ o. (moved j).0 ((h j).0 o), λ o. (h j).1 ((moved j).1 o))

pub alike-even : (xs : List Role) (a b : ℕ) → Even xs a b → Alike xs a b
alike-even xs a b e = record { to = λ k h. move-body xs k a b h (e.keeps k h.is_open); back = λ k h. move-body xs k b a h (e.only k h.is_open) }

-- inside a control that is no define or block
pub alike-last : (xs : List Role) (j i : ℕ) → (l : IsLast xs j i) → is_template l.is_open.opened ≡ false → Alike xs j i
alike-last xs j i l nt = record {
  to = λ k h. move-body xs k j i h (through xs k j i h.is_open l.is_open);
  back = λ k h. ⊎_elim
      (λ e. let c = same-opening xs k h.is_open.opened l.is_open.opened {q = l.is_open.names} h.is_open.at (rw e l.is_open.at) in
      let t : true ≡ false = sym h.own ∙ ap is_template c ∙ nt in cc)
      (λ o. ⊎_elim
      (λ lt. move-body xs k i j h (cut xs k j i lt (let b = l.is_open.before in omega arith) h.is_open))
      (λ gt. absurd (l.last k gt h.is_open)) o)
      (cases_order k j);
}

pub alike-opened : (xs : List Role) (i : ℕ) (c : Opening) (p : Names) → slice_get xs i ≡ Some (opener c p) → is_template c ≡ false
    → Alike xs i (i + 1)
alike-opened xs i c p at nt = alike-last xs i (i + 1) (last_new xs i c p at) nt

-- no place before the body of a define or block is of its template: the last one that is open would be open there
body-late : (xs : List Role) (k i : ℕ) → OfOneTemplate xs k i → (n q : ℕ) → i ≤ q + n → k ≤ q → IsBody xs q i → ⊥
body-late xs k i same zero q far from h = let lt = h.is_open.before in omega arith
body-late xs k i same (suc n) q far from h =
    let last : (r : ℕ) → q < r → (o : IsOpen xs r i) → is_template o.opened ≡ false =
    λ r qr o. no-own xs r i o (body-late xs k i same n r (omega arith) (omega arith)) in
    let lt = ((same q).1 (record { is_open = h.is_open; own = h.own; last = last })).is_open.before in omega arith

pub template-apart : (xs : List Role) (j k i : ℕ) → IsBody xs j i → k ≤ j → OfOneTemplate xs k i → ⊥
template-apart xs j k i b le same = body-late xs k i same i j (omega arith) le b

-- levels

pub level-moves : (xs : List Role) (k a b : ℕ) → ((q : ℕ) → q ≤ k → IsOpen xs q a → IsOpen xs q b) → IsLevel xs k a → IsLevel xs k b
level-moves xs k a b f (of_opening o nt) = let n = f k (omega arith) o in of_opening n (λ e. nt (sym (same-opening xs k n.opened o.opened n.at o.at) ∙ e))
level-moves xs k a b f (of_else_branch {j = j} t o nt) =
    let lt = t.belongs.is_open.before in let n = f j (omega arith) o in of_else_branch t n (λ e. nt (sym (same-opening xs j n.opened o.opened n.at o.at) ∙ e))

-- of the places before m, n are levels at i
pub data Levels (xs : List Role) (i : ℕ) : ℕ → ℕ → Type 0 where
  no_level : Levels xs i 0 0
  one : {m n : ℕ} → Levels xs i m n → IsLevel xs m i → Levels xs i (suc m) (suc n)
  other : {m n : ℕ} → Levels xs i m n → (IsLevel xs m i → ⊥) → Levels xs i (suc m) n

-- the levels, the last one first
pub levels-listed : {xs : List Role} {i m n : ℕ} → Levels xs i m n → (k : ℕ) → m ≤ k → (ks : List ℕ) × (length ks ≡ n) × AreLevels xs i k ks
levels-listed no_level k le = ([], refl, none)
levels-listed (one {m = m} r h) k le = let more = levels-listed r m (omega arith) in (m ∷ more.0, ap suc more.1, level (omega arith) h more.2)
levels-listed (other r h) k le = levels-listed r k (omega arith)

-- there are no more of them
pub levels-most : {xs : List Role} {i m n k : ℕ} {ks : List ℕ} → Levels xs i m n → k ≤ m → AreLevels xs i k ks → length ks ≤ n
levels-most r le none = omega arith
levels-most no_level le (level lt h more) = omega arith
levels-most (one {m = m} r g) le (level {k = k} lt h more) = let rest = levels-most r (omega arith) more in omega (arith, rest)
levels-most {xs = xs} {i = i} (other {m = m} r never) le (level {k = k} {ks = ks} lt h more) = ⊎_elim
    (λ below. levels-most r (omega arith) (level {m = suc k} {k = k} {ks = ks} (omega arith) h more))
    (λ ge. let same : k ≡ m = omega arith in absurd (never (subst (λ q. IsLevel xs q i) same h)))
    (cases_lt k m)

pub levels-move : {xs : List Role} {a m n : ℕ} → (b : ℕ) → ((k : ℕ) → k < m → IsLevel xs k a → IsLevel xs k b)
    → ((k : ℕ) → k < m → IsLevel xs k b → IsLevel xs k a) → Levels xs a m n → Levels xs b m n
levels-move b to back no_level = no_level
levels-move {m = suc m} b to back (one r h) = one (levels-move b (λ k lt. to k (omega arith)) (λ k lt. back k (omega arith)) r) (to m (omega arith) h)
levels-move {m = suc m} b to back (other r h) =
    other (levels-move b (λ k lt. to k (omega arith)) (λ k lt. back k (omega arith)) r) (λ l. h (back m (omega arith) l))

pub levels-upto : (xs : List Role) (i m n p : ℕ) → m ≤ p → ((k : ℕ) → m ≤ k → k < p → IsLevel xs k i → ⊥) → Levels xs i m n → Levels xs i p n
levels-upto xs i m n zero le nt r = let e : m ≡ zero = omega arith in subst (λ k. Levels xs i k n) e r
levels-upto xs i m n (suc p) le nt r = ⊎_elim
    (λ gt. let e : m ≡ suc p = omega arith in subst (λ k. Levels xs i k n) e r)
    (λ low. other (levels-upto xs i m n p low (λ k from to. nt k from (omega arith)) r) (nt p low (omega arith)))
    (cases_lt p m)

pub levels-yes : (xs : List Role) (i m n : ℕ) → Levels xs i m n → IsLevel xs m i → Levels xs i (m + 1) (n + 1)
levels-yes xs i m n r h = subst (λ k. Levels xs i k (n + 1)) (sym (add-one m)) (subst (λ k. Levels xs i (suc m) k) (sym (add-one n)) (one r h))

pub levels-no : (xs : List Role) (i m n : ℕ) → Levels xs i m n → (IsLevel xs m i → ⊥) → Levels xs i (m + 1) n
levels-no xs i m n r h = subst (λ k. Levels xs i k n) (sym (add-one m)) (other r h)

pub levels-same : (xs : List Role) (j m n : ℕ) → Same xs j m → Levels xs j j n → Levels xs m m n
levels-same xs j m n s r =
    let e = s.even in
    levels-upto xs m j n m e.le fresh (levels-move m (λ k lt. level-moves xs k j m (λ q le. e.keeps q)) (λ k lt. level-moves xs k m j (λ q le. e.only q)) r)
  where
    fresh : (k : ℕ) → j ≤ k → k < m → IsLevel xs k m → ⊥
    fresh k from to (of_opening o nt) = let b = (s.even.only k o).before in omega arith
    fresh k from to (of_else_branch {b = b} {j = q} t o nt) = s.no_else (Some b) q k from to (s.even.only q o) t

pub levels-even : (xs : List Role) (i n : ℕ) → Even xs i (i + 1) → Levels xs i i n → Levels xs (i + 1) i n
levels-even xs i n e r = levels-move (i + 1) (λ k lt. level-moves xs k i (i + 1) (λ q le. e.keeps q)) (λ k lt. level-moves xs k (i + 1) i (λ q le. e.only q)) r

-- a piece that is no else is none of any opening
pub no-else : (xs : List Role) (x : Role) (i : ℕ) → slice_get xs i ≡ Some x → ((b : Option (Branch × Names)) → x ≢ (else_part b))
    → (b : Option (Branch × Names)) (j : ℕ) → IsElseOf xs b j i → ⊥
no-else xs x i at ne b j e = ne b (same-piece xs i x (else_part b) at e.at)

pub levels-else : (xs : List Role) (i j n : ℕ) (b : Option (Branch × Names)) → Even xs i (i + 1) → (t : IsElseOf xs b j i)
    → (t.belongs.is_open.opened ≢ opened.define) → Levels xs i i n → Levels xs (i + 1) (i + 1) (else_levels (is_some b) n)
levels-else xs i j n None e t nt r = levels-no xs (i + 1) i n (levels-even xs i n e r) fresh
  where
    fresh : IsLevel xs i (i + 1) → ⊥
    fresh (of_opening o is) = shut-at xs (else_part None) i (i + 1) t.at refl o
    fresh (of_else_branch {b = d} u o is) = cc
levels-else xs i j n (Some b) e t nt r =
    let o = e.keeps j t.belongs.is_open in
    levels-yes xs (i + 1) i n (levels-even xs i n e r) (of_else_branch t o
    (λ e. nt (sym (same-opening xs j o.opened t.belongs.is_open.opened o.at t.belongs.is_open.at) ∙ e)))

pub levels-opened : (xs : List Role) (i n : ℕ) (c : Opening) (p : Names) → slice_get xs i ≡ Some (opener c p)
    → Levels xs i i n → Levels xs (i + 1) (i + 1) (n + level_of c)
levels-opened xs i n c p at r = go c at
  where
    below : Levels xs (i + 1) i n
    below = levels-move (i + 1)
        (λ k lt. level-moves xs k i (i + 1) (λ q le. opened-keeps xs (opener c p) i q at refl))
        (λ k lt. level-moves xs k (i + 1) i (λ q le. cut xs q i (i + 1) (omega arith) (omega arith))) r

    none : slice_get xs i ≡ Some (opener opened.define p) → IsLevel xs i (i + 1) → ⊥
    none od (of_opening h is) = is (same-opening xs i h.opened opened.define h.at od)
    none od (of_else_branch {b = b} {j = q} t h is) = no-else xs (opener c p) i at (λ d g. cc) (Some b) q t

    go : (d : Opening) → slice_get xs i ≡ Some (opener d p) → Levels xs (i + 1) (i + 1) (n + level_of d)
    go opened.define od = rw add-zero (levels-no xs (i + 1) i n below (none od))
    go d od = levels-yes xs (i + 1) i n below (of_opening (opened_new xs i d p od) (λ e. cc))

-- loops

abbrev pub InLoop : List Role → ℕ → Type 0
InLoop xs i = (j : ℕ) × IsLoop xs j i

pub loop-moves : (xs : List Role) (q a b : ℕ) → Alike xs a b → IsOpen xs q b → (HasElse xs q b → HasElse xs q a) → IsLoop xs q a → IsLoop xs q b
loop-moves xs q a b e o h l = (o, same-opening xs q o.opened l.0.opened o.at l.0.at ∙ l.1, one-moves xs q a b e l.2, λ g. l.3 (h g))

pub else_before : (xs : List Role) (q a b : ℕ) → a ≤ b → HasElse xs q a → HasElse xs q b
else_before xs q a b le h = (h.0, let lt = h.1 in omega arith, h.2)

-- a piece that is no plain else adds none
pub has-before : (xs : List Role) (x : Role) (i : ℕ) → slice_get xs i ≡ Some x → x ≢ (else_part None) → (q : ℕ) → HasElse xs q (i + 1) → HasElse xs q i
has-before xs x i at ne q e = ⊎_elim (λ lt. (e.0, lt, e.2)) (λ ge. let g = e.1 in let s : e.0 ≡ i = omega arith in
    absurd (ne (same-piece xs i x (else_part None) at (subst (λ z. slice_get xs z ≡ Some (else_part None)) s e.2.at)))) (cases_lt e.0 i)

pub else-same : (xs : List Role) (q j m : ℕ) → Same xs j m → IsOpen xs q j → HasElse xs q m → HasElse xs q j
else-same xs q j m s o h = ⊎_elim (λ lt. (h.0, lt, h.2)) (λ ge. absurd (s.no_else None q h.0 ge h.1 o h.2)) (cases_lt h.0 j)

-- inside a control the loops are those around it, and itself, if it is one
module _ (xs : List Role) (j i : ℕ) (l : IsLast xs j i) (own : is_template l.is_open.opened ≡ false) where
  pub loop-in : InLoop xs j → InLoop xs i
  loop-in (q, loop) = (q, loop-moves xs q j i (alike-last xs j i l own) (through xs q j i loop.0 l.is_open) sooner loop)
    where
      sooner : HasElse xs q i → HasElse xs q j
      sooner has = ⊎_elim (λ lt. (has.0, lt, has.2))
          (λ ge. absurd (⊎_elim
          (λ gt. has.2.belongs.last j loop.0.before (cut xs j has.0 i gt (let lt = has.1 in omega arith) l.is_open))
          (λ le. let e : has.0 ≡ j = omega arith in
          shut-at xs (else_part None) j i (subst (λ z. slice_get xs z ≡ Some (else_part None)) e has.2.at) refl l.is_open)
          (cases_lt j has.0)))
          (cases_lt has.0 j)

  pub loop-out : (k : InLoop xs i) → (k.0 ≡ j) ⊎ InLoop xs j
  loop-out (q, loop) = ⊎_elim (λ e. inl e) (λ o. ⊎_elim
      (λ lt. let le = l.is_open.before in let back = alike-back xs j i (alike-last xs j i l own) in
      inr (q, loop-moves xs q i j back (cut xs q j i lt (omega arith) loop.0) (else_before xs q j i (omega arith)) loop))
      (λ gt. absurd (l.last q gt loop.0)) o)
      (cases_order q j)
