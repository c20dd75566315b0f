-- For the laws `one_cut` and `one_token`: what is computed of a list, told by the parts that it is put together from.
use Rattle.std.proofs.Common.{arith, ◌≡◌, ◌∙◌, ℕ, suc, ◌+◌, Bool, true, false, ◌&&◌, nat_eq, cond, List, [], ◌∷◌, ◌++◌, Option, Some, None, IfSome, refl, sym}
use Rattle.std.proofs.Common.{ap, subst, length, take, drop, get_or, append_assoc, length-append, take_while}
use Rattle.std.specs.List.{prefix_len, list_all}
use Rattle.std.proofs.lemmas.Bool.{eq-eqb, and_parts, false_from_ne_true}
use Rattle.std.proofs.lemmas.List.{take-append-drop}
use Rattle.std.proofs.Math.Seq.{take-append_seam}
use Rattle.tmpl_lex.specs.Bytes.{Absent, IsRun}
use Rattle.tmpl_lex.specs.computed.Bytes.{split_here, split_pair}

-- ---- where two bytes do not follow one another

pub absent-rest : (b : ℕ) (row bs : List ℕ) → Absent row (b ∷ bs) → Absent row bs
absent-rest b row bs h xs ys e = h (b ∷ xs) ys (ap (λ l. b ∷ l) e)

pub same-pair : (x y a b : ℕ) (bs : List ℕ) → (nat_eq a x && nat_eq b y) ≡ true → a ∷ b ∷ bs ≡ x ∷ y ∷ bs
same-pair x y a b bs e = grind arith

pub absent-here : (x y a b : ℕ) (bs : List ℕ) → Absent (x ∷ y ∷ []) (a ∷ b ∷ bs) → (nat_eq a x && nat_eq b y) ≡ false
absent-here x y a b bs h = false_from_ne_true (nat_eq a x && nat_eq b y) (λ e. h [] bs (same-pair x y a b bs e))

-- nothing in the bytes, and nothing from one further on
pub cleared : (t : Bool) (a : ℕ) (bs : List ℕ) (o : Option (List ℕ × List ℕ)) → split_here t a bs o ≡ None → (t ≡ false) × (o ≡ None)
cleared t a bs o e = grind arith

pub absent-none : (x y : ℕ) (bs : List ℕ) → Absent (x ∷ y ∷ []) bs → split_pair x y bs ≡ None
absent-none x y [] h = refl
absent-none x y (a ∷ []) h = refl
absent-none x y (a ∷ b ∷ bs) h = simp (absent-here x y a b bs h, absent-none x y (b ∷ bs) (absent-rest a (x ∷ y ∷ []) (b ∷ bs) h))

none-found : (x y : ℕ) (xs ys : List ℕ) → split_pair x y (xs ++ x ∷ y ∷ ys) ≡ None → ⊥
none-found x y [] ys e = grind arith
none-found x y (a ∷ []) ys e = none-found x y [] ys (cleared (nat_eq a x && nat_eq x y) a (x ∷ y ∷ ys) (split_pair x y (x ∷ y ∷ ys)) e).1
none-found x y (a ∷ b ∷ xs) ys e =
    none-found x y (b ∷ xs) ys (cleared (nat_eq a x && nat_eq b y) a (b ∷ (xs ++ x ∷ y ∷ ys)) (split_pair x y (b ∷ (xs ++ x ∷ y ∷ ys))) e).1

pub none-absent : (x y : ℕ) (bs : List ℕ) → split_pair x y bs ≡ None → Absent (x ∷ y ∷ []) bs
none-absent x y bs h xs ys e = none-found x y xs ys (ap (split_pair x y) (sym (e ∙ append_assoc xs (x ∷ y ∷ []) ys)) ∙ h)

-- what is absent is so from each part
pub absent-part : (row front mid end : List ℕ) → Absent row (front ++ mid ++ end) → Absent row mid
absent-part row front mid end h xs ys e =
    h (front ++ xs) (ys ++ end)
    (simp (e, append_assoc))

-- ---- where they first do

pub absent-split : (x y : ℕ) (before after : List ℕ) → Absent (x ∷ y ∷ []) (before ++ x ∷ []) → split_pair x y (before ++ x ∷ y ∷ after) ≡ Some (before, after)
absent-split x y [] after h = simp (eq-eqb x x refl, eq-eqb y y refl)
absent-split x y (a ∷ []) after h = simp (absent-here x y a x [] h, absent-split x y [] after (absent-rest a (x ∷ y ∷ []) (x ∷ []) h))
absent-split x y (a ∷ b ∷ before) after h =
    simp (absent-here x y a b (before ++ x ∷ []) h, absent-split x y (b ∷ before) after (absent-rest a (x ∷ y ∷ []) (b ∷ (before ++ x ∷ [])) h))

-- what stands before the first such pair, and after it
pub record IsSplit (x y : ℕ) (bs before after : List ℕ) : Type 0 where
  pub is : bs ≡ before ++ x ∷ y ∷ after
  pub first : Absent (x ∷ y ∷ []) (before ++ x ∷ [])

pub absent-nil : (x y : ℕ) → Absent (x ∷ y ∷ []) []
absent-nil x y xs ys e = omega (arith, ap length e, length-append (xs ++ x ∷ y ∷ []) ys, length-append xs (x ∷ y ∷ []))

pub absent-one : (x y : ℕ) → Absent (x ∷ y ∷ []) (x ∷ [])
absent-one x y xs ys e = omega (arith, ap length e, length-append (xs ++ x ∷ y ∷ []) ys, length-append xs (x ∷ y ∷ []))

pub absent-cons : (x y a : ℕ) (bs : List ℕ) → ((nat_eq a x && nat_eq (get_or bs 0 0) y) ≡ false) → Absent (x ∷ y ∷ []) bs → Absent (x ∷ y ∷ []) (a ∷ bs)
absent-cons x y a bs here h [] ys e = grind arith
absent-cons x y a bs here h (z ∷ xs) ys e = h xs ys (let rest : bs ≡ xs ++ x ∷ y ∷ [] ++ ys = cc in rest)

split-first : (x y b : ℕ) (bs before after : List ℕ) → b ∷ bs ≡ before ++ x ∷ y ∷ after → get_or (before ++ x ∷ []) 0 0 ≡ b
split-first x y b bs [] after e = cc
split-first x y b bs (c ∷ before) after e = cc

splits : (x y : ℕ) (bs : List ℕ) → IfSome (split_pair x y bs) (λ p. IsSplit x y bs p.0 p.1)
splits x y [] = tt
splits x y (a ∷ []) = tt
splits x y (a ∷ b ∷ bs) = go (nat_eq a x && nat_eq b y) refl (split_pair x y (b ∷ bs)) (splits x y (b ∷ bs))
  where
    go : (t : Bool) → (nat_eq a x && nat_eq b y) ≡ t → (o : Option (List ℕ × List ℕ)) → IfSome o (λ p. IsSplit x y (b ∷ bs) p.0 p.1)
        → IfSome (split_here t a (b ∷ bs) o) (λ p. IsSplit x y (a ∷ b ∷ bs) p.0 p.1)
    go true t o more = record { is = same-pair x y a b bs t; first = absent-one x y }
    go false t None more = tt
    go false t (Some p) more = record {
      is = ap (λ l. a ∷ l) more.is;
      first = absent-cons x y a (p.0 ++ x ∷ []) (simp (split-first x y b bs p.0 p.1 more.is, t)) more.first;
    }

pub split-is : (x y : ℕ) (bs : List ℕ) (p : List ℕ × List ℕ) → split_pair x y bs ≡ Some p → IsSplit x y bs p.0 p.1
split-is x y bs p e = subst (λ o. IfSome o (λ p. IsSplit x y bs p.0 p.1)) e (splits x y bs)

-- ---- runs

pub run-length : (p : ℕ → Bool) (xs rest : List ℕ) → IsRun p xs rest → prefix_len p (xs ++ rest) ≡ length xs
run-length p [] [] h = refl
run-length p [] (b ∷ rest) h = simp h.longest
run-length p (x ∷ xs) rest h =
    let both = and_parts (p x) (list_all p xs) h.passes in
    let more = run-length p xs rest (record { passes = both.1; longest = h.longest }) in
    simp (both.0, more) (omega arith)

pub run-taken : (p : ℕ → Bool) (xs rest : List ℕ) → IsRun p xs rest → take_while p (xs ++ rest) ≡ xs
run-taken p xs rest h = simp (run-length p xs rest h, take-append_seam)

-- the longest run at the front is one
pub taken-run : (p : ℕ → Bool) (bs : List ℕ) → IsRun p (take_while p bs) (drop (prefix_len p bs) bs)
taken-run p [] = record { passes = refl; longest = tt }
taken-run p (b ∷ bs) = go (p b) refl (taken-run p bs)
  where
    go : (t : Bool) → p b ≡ t → IsRun p (take_while p bs) (drop (prefix_len p bs) bs)
        → IsRun p (take (cond t (1 + prefix_len p bs) 0) (b ∷ bs)) (drop (cond t (1 + prefix_len p bs) 0) (b ∷ bs))
    go true e more =
        let one : 1 + prefix_len p bs ≡ suc (prefix_len p bs) = omega arith in
        rw one (record { passes = simp (e, more.passes); longest = more.longest })
    go false e more = record { passes = refl; longest = e }

pub taken-rest : (p : ℕ → Bool) (bs : List ℕ) → take_while p bs ++ drop (prefix_len p bs) bs ≡ bs
taken-rest p bs = take-append-drop (prefix_len p bs) bs
