-- The longest front whose bytes pass a test, for what is scanned.
use Rattle.std.proofs.Common.{◌≡◌, ℕ, suc, ◌+◌, Bool, true, false, List, [], ◌∷◌, ◌++◌, length, refl, arith}
use Rattle.std.specs.List.{prefix_len, take_while, list_all}
use Rattle.std.proofs.Math.Seq.{take-append_seam, drop-append_seam}
use Rattle.std.proofs.lemmas.Bool.{and_parts}
use Rattle.std.proofs.lemmas.List.{take-append-drop}
use Rattle.std.proofs.lemmas.List.Sums.{take_while-cons}
use Rattle.tmpl_funcs.specs.computed.Scan.{after}

-- the first byte, if there is one, passes
abbrev pub begins : (ℕ → Bool) → List ℕ → Bool
begins p [] = false
begins p (b ∷ bs) = p b

module _ (p : ℕ → Bool) where
  -- a front that passes, before what does not
  pub prefix_len-append : (xs ys : List ℕ) → list_all p xs ≡ true → begins p ys ≡ false → prefix_len p (xs ++ ys) ≡ length xs
  prefix_len-append [] [] all stop = refl
  prefix_len-append [] (y ∷ ys) all stop = rw stop refl
  prefix_len-append (x ∷ xs) ys all stop =
      let both = and_parts (p x) (list_all p xs) all in rw both.0 (omega (arith, prefix_len-append xs ys both.1 stop))

  pub take_while-append : (xs ys : List ℕ) → list_all p xs ≡ true → begins p ys ≡ false → take_while p (xs ++ ys) ≡ xs
  take_while-append xs ys all stop = rw (prefix_len-append xs ys all stop) (take-append_seam xs ys)

  pub after-append : (xs ys : List ℕ) → list_all p xs ≡ true → begins p ys ≡ false → after p (xs ++ ys) ≡ ys
  after-append xs ys all stop = rw (prefix_len-append xs ys all stop) (drop-append_seam xs ys)

  -- the front passes
  pub list_all-take_while : (bs : List ℕ) → list_all p (take_while p bs) ≡ true
  list_all-take_while [] = refl
  list_all-take_while (b ∷ bs) = let more = list_all-take_while bs in rw (take_while-cons p b bs) (grind arith)

  begins-by : (t : Bool) (b : ℕ) (bs : List ℕ) → p b ≡ t → begins p (after p bs) ≡ false → begins p (after p (b ∷ bs)) ≡ false
  begins-by true b bs is stop = let n : 1 + prefix_len p bs ≡ suc (prefix_len p bs) = omega arith in rw (is, n) stop
  begins-by false b bs is stop = rw (is, is) refl

  -- and what stands after it does not
  pub begins-after : (bs : List ℕ) → begins p (after p bs) ≡ false
  begins-after [] = refl
  begins-after (b ∷ bs) = begins-by (p b) b bs refl (begins-after bs)

  -- the front and what stands after it are the whole
  pub take_while-after : (bs : List ℕ) → take_while p bs ++ after p bs ≡ bs
  take_while-after bs = take-append-drop (prefix_len p bs) bs

  -- a front with a byte that passes
  pub take_while-passing : (b : ℕ) (bs : List ℕ) → p b ≡ true → take_while p (b ∷ bs) ≡ b ∷ take_while p bs
  take_while-passing b bs is = rw (take_while-cons p b bs, is) refl

  -- a front with none
  pub take_while-failing : (b : ℕ) (bs : List ℕ) → p b ≡ false → take_while p (b ∷ bs) ≡ []
  take_while-failing b bs is = rw (take_while-cons p b bs, is) refl
