-- On places in a text.
use Rattle.std.proofs.Common.{◌≡◌, ◌∙◌, ◌≤◌, ◌<◌, ◌+◌, ◌-◌, ℕ, zero, suc, Bool, true, false, List, [], ◌∷◌, length, take, drop, slice_get, slice_range, get_or, map, IfSome, refl, sym, subst, ap, cond, arith}
use Rattle.std.specs.List.{Contains, prefix_len}
use Rattle.std.proofs.Math.Seq.{take-length}
use Rattle.std.proofs.lemmas.List.{get_or-map, length-drop, length-map}
use Rattle.std.proofs.lemmas.List.Elements.{Contains-get_or}
use Rattle.std.proofs.lemmas.List.Sums.{prefix_len-le-length}
use Rattle.std.proofs.lemmas.Option.{slice_get_past}
use Rattle.tmpl_problems.specs.Position.{IsStart, is_space}

first_run : {X : Type 0} (p : X → Bool) (x : X) (xs : List X) → IfSome (slice_get xs (prefix_len p xs)) (λ y. p y ≡ false) → (b : Bool) → p x ≡ b
    → IfSome (slice_get (x ∷ xs) (cond b (1 + prefix_len p xs) 0)) (λ y. p y ≡ false)
first_run p x xs h true e =
    let n : suc (prefix_len p xs) ≡ 1 + prefix_len p xs = omega arith in
    subst (λ n. IfSome (slice_get (x ∷ xs) n) (λ y. p y ≡ false)) n h
first_run p x xs h false e = e

run_from_first : {X : Type 0} (p : X → Bool) (xs : List X) → IfSome (slice_get xs (prefix_len p xs)) (λ x. p x ≡ false)
run_from_first p [] = tt
run_from_first p (x ∷ xs) = first_run p x xs (run_from_first p xs) (p x) refl

-- what stands after the elements that pass does not pass
after_run : {X : Type 0} (p : X → Bool) (xs : List X) (i : ℕ) → IfSome (slice_get xs (i + prefix_len p (drop i xs))) (λ x. p x ≡ false)
after_run p [] i = tt
after_run p (x ∷ xs) zero =
    let n : prefix_len p (x ∷ xs) ≡ 0 + prefix_len p (x ∷ xs) = omega arith in
    subst (λ n. IfSome (slice_get (x ∷ xs) n) (λ y. p y ≡ false)) n (run_from_first p (x ∷ xs))
after_run p (x ∷ xs) (suc i) =
    let n : suc (i + prefix_len p (drop i xs)) ≡ suc i + prefix_len p (drop i xs) = omega arith in
    subst (λ n. IfSome (slice_get (x ∷ xs) n) (λ y. p y ≡ false)) n (after_run p xs i)

within_run : {X : Type 0} (p : X → Bool) (xs : List X) (i : ℕ) → i ≤ length xs → i + prefix_len p (drop i xs) ≤ length xs
within_run p xs i h =
    let most : prefix_len p (drop i xs) ≤ length xs - i = subst (λ n. prefix_len p (drop i xs) ≤ n) (length-drop i xs) (prefix_len-le-length p (drop i xs)) in
    omega arith

rest_from : {X : Type 0} (xs : List X) (i : ℕ) → slice_range xs i (length xs) ≡ drop i xs
rest_from xs i = subst (λ n. take n (drop i xs) ≡ drop i xs) (length-drop i xs) (take-length (drop i xs))

-- after white space none stands
pub start_after : (bytes : List ℕ) (start n : ℕ) → start ≤ length bytes → n ≡ prefix_len is_space (slice_range bytes start (length bytes)) → IsStart bytes (start + n)
start_after bytes start n h e =
    let same : prefix_len is_space (drop start bytes) ≡ n = sym (e ∙ ap (prefix_len is_space) (rest_from bytes start)) in
    subst (λ n. IsStart bytes (start + n)) same (record { within = within_run is_space bytes start h; no_space = after_run is_space bytes start })

-- nor at the end
pub at_end : (bytes : List ℕ) → IsStart bytes (length bytes)
at_end bytes = record { within = omega arith; no_space = subst (λ o. IfSome o (λ b. is_space b ≡ false)) (sym (slice_get_past bytes (length bytes) (omega arith))) tt }

same_front : {X : Type 0} (n : ℕ) (xs : List X) → take (length (take n xs)) xs ≡ take n xs
same_front zero [] = refl
same_front zero (x ∷ xs) = refl
same_front (suc n) [] = refl
same_front (suc n) (x ∷ xs) = ap (λ ys. x ∷ ys) (same_front n xs)

-- what stands between two places stands at the first
pub stands_between : (bytes part : List ℕ) (from to : ℕ) → part ≡ slice_range bytes from to → take (length part) (drop from bytes) ≡ part
stands_between bytes part from to e = subst (λ part. take (length part) (drop from bytes) ≡ part) (sym e) (same_front (to - from) (drop from bytes))

-- what is made of an element is one of what is made of all
pub contains_mapped : {X Y : Type 0} (f : X → Y) (xs : List X) (i : ℕ) (x : X) → i < length xs → x ≡ get_or xs i x → Contains (map f xs) (f x)
contains_mapped f xs i x h e =
    let long : i < length (map f xs) = subst (λ n. i < n) (sym (length-map xs f)) h in
    subst (Contains (map f xs)) (get_or-map f xs i x (f x) h ∙ ap f (sym e)) (Contains-get_or (map f xs) i (f x) long)
