-- For `Stack::call` and `Machine::call`: the cells that a call takes are the values of its arguments, and those below stay.
use Rattle.std.proofs.Common.{arith, ◌≡◌, ◌∙◌, ◌+◌, ◌≤◌, ◌++◌, ℕ, Bool, false, List, [], ◌∷◌, length, drop, take, map, reverse, refl, ap, sym}
use Rattle.std.proofs.Common.{append-nil, subst, Result}
use Rattle.std.proofs.lemmas.List.{drop_at, length-drop, length-map, length-reverse, length-take-le, map-append, reverse-append, reverse-reverse, take-map}
use Rattle.std.proofs.lemmas.List.{take_at}
use Rattle.std.proofs.lemmas.List.{drop-take}
use Rattle.std.proofs.lemmas.List.Elements.{All-append, All-drop, All-from_recursion, All-take, recursion_from_All}
use Rattle.std.proofs.lemmas.Simd.{map-map}
use Rattle.std.specs.List.{All, drop-map}
use Rattle.std.proofs.Math.Seq.{drop-drop, take-add}
use Rattle.tmpl_values.specs.View.{is_made}
use Rattle.tmpl_values.specs.declared.value.Cell as held
use Rattle.tmpl_values.specs.declared.value.Val.{Val}
use Rattle.tmpl_funcs.specs.Answer.{AreBorrowed}
use Rattle.tmpl_funcs.specs.Dispatch.{IsCall}
use Rattle.tmpl_funcs.specs.View.{values_of}
use Rattle.tmpl_funcs.specs.declared.func.Func.{Func}
use Rattle.tmpl_funcs.specs.declared.fault.CallError.{CallError}
use Rattle.tmpl_meaning.specs.Pipeline.{apply_function}
use Rattle.tmpl_code.specs.Code.{piped_count}
use Rattle.tmpl_engine.specs.Cell.{Cell, values_in}
use Rattle.tmpl_engine.specs.Step.{called_on, push_value}
use Rattle.tmpl_engine.specs.computed.Held.{cell_of, cells_in}

module _ {A B : Type 0} (f : A → B) where
  map-reverse : (l : List A) → map f (reverse l) ≡ reverse (map f l)
  map-reverse [] = refl
  map-reverse (x ∷ l) = grind (arith, map-reverse l, reverse-append (x ∷ []) l, reverse-append (f x ∷ []) (map f l), map-append f (reverse l) (x ∷ []))

  -- a part of what is held, from the oldest on, in its order
  part-is : (k top from : ℕ) (cs : List A) → from + k ≡ top → top ≤ length cs
      → map f (take k (drop from cs)) ≡ reverse (take k (map f (reverse (take top cs))))
  part-is k top from cs e h =
      let part = take k (drop from cs) in
      let long : length (reverse part) ≡ k = length-reverse part ∙ length-take-le k (drop from cs) (omega (arith, length-drop from cs)) in
      let split : take top cs ≡ take from cs ++ part = ap (λ n. take n cs) (sym e) ∙ take-add from k cs in
      let turned : take k (reverse (take top cs)) ≡ reverse part = ap (λ l. take k (reverse l)) split ∙ ap (take k) (reverse-append (take from cs) part)
      ∙ take_at (reverse part) (reverse (take from cs)) k long in
      sym (ap reverse (take-map f k (reverse (take top cs)) ∙ ap (map f) turned) ∙ sym (map-reverse (reverse part)) ∙ ap (map f) (reverse-reverse part))

  one-turned : (l : List B) → length l ≤ 1 → reverse l ≡ l
  one-turned [] h = refl
  one-turned (x ∷ []) h = refl
  one-turned (x ∷ y ∷ l) h = absurd (omega arith)

  -- .. and of such a part, the lowest one, if that is asked for, after the others
  turned-is : (count below top from : ℕ) (cs : List A) → from + (count + below) ≡ top → top ≤ length cs → below ≤ 1
      → map f (drop below (take (count + below) (drop from cs)) ++ take below (take (count + below) (drop from cs)))
      ≡ reverse (take count (map f (reverse (take top cs)))) ++ take below (drop count (map f (reverse (take top cs))))
  turned-is count below top from cs e h one =
      let live = map f (reverse (take top cs)) in
      let part = take (count + below) (drop from cs) in
      let under = take below (drop count live) in
      let above = reverse (take count live) in
      let all : length live ≡ top = length-map (reverse (take top cs)) f ∙ length-reverse (take top cs) ∙ length-take-le top cs h in
      let long : length under ≡ below = length-take-le below (drop count live) (omega (arith, length-drop count live)) in
      let order : map f part ≡ under ++ above = part-is (count + below) top from cs e h ∙ ap reverse (take-add count below live)
      ∙ reverse-append (take count live) under ∙ ap (λ l. l ++ above) (one-turned under (omega arith)) in
      grind (
        arith,
        order,
        map-append f (drop below part) (take below part),
        drop-map f below part,
        take-map f below part,
        drop_at under above below long,
        take_at under above below long,
      )

one-piped : (p : Bool) → piped_count p ≤ 1
one-piped p = grind arith

-- the values of a call, by where they are held
pub table-is : (f : Func) (r : Result Val CallError) (count top : ℕ) (p : Bool) (below n from : ℕ) (cs : List held.Cell)
    → below ≡ piped_count p → from + n ≡ top → n ≡ count + below → top ≤ length cs
    → IsCall f (values_of (drop below (take n (drop from cs)) ++ take below (take n (drop from cs)))) r
    → IsCall f (values_in (reverse (take count (cells_in top cs)) ++ take (piped_count p) (drop count (cells_in top cs)))) r
table-is f r count top p below n from cs is e m h call =
    let one = one-piped p in
    let whole : from + (count + below) ≡ top = omega arith in
    let values : values_of (drop below (take n (drop from cs)) ++ take below (take n (drop from cs)))
    ≡ values_in (reverse (take count (cells_in top cs)) ++ take (piped_count p) (drop count (cells_in top cs)))
    = grind (
      arith,
      map-map (λ (c : Cell). c.val) cell_of (drop below (take (count + below) (drop from cs)) ++ take below (take (count + below)
          (drop from cs))),
      turned-is cell_of count below top from cs whole h (omega arith),
    ) in
    subst (λ vs. IsCall f vs r) values call

-- ---- made texts

-- the arguments of a call
pub borrowed-turned : (from n top below : ℕ) (l : List held.Cell) → from + n ≡ top → AreBorrowed (take top l)
    → AreBorrowed (drop below (take n (drop from l)) ++ take below (take n (drop from l)))
borrowed-turned from n top below l e h =
    let Plain : held.Cell → Type 0 = λ c. is_made c.val ≡ false in
    let part : All Plain (take n (drop from l)) = subst (All Plain) (drop-take from n l) (All-drop Plain from (take (from + n) l)
    (All-from_recursion Plain (take (from + n) l) (subst (λ k. AreBorrowed (take k l)) (sym e) h))) in
    recursion_from_All Plain (drop below (take n (drop from l)) ++ take below (take n (drop from l)))
    (All-append Plain (drop below (take n (drop from l))) (take below (take n (drop from l))) (All-drop Plain below (take n (drop from l)) part)
    (All-take Plain below (take n (drop from l)) part))

pub ruleset arguments = (table-is, borrowed-turned)

-- ---- the step of a call

-- a call over the cells that it takes
pub called-is : (f : Func) (n : ℕ) (p : Bool) (cs : List Cell) → n + piped_count p ≤ length cs
    → called_on f (values_in (reverse (take n cs))) p (drop n cs)
    ≡ push_value (apply_function f (values_in (reverse (take n cs) ++ take (piped_count p) (drop n cs)))).result (drop (n + piped_count p) cs)
called-is f n p cs h =
    grind (arith, append-nil, map-append (λ (c : Cell). c.val) (reverse (take n cs)) (take (piped_count p) (drop n cs)), drop-drop 1 n cs, length-drop n cs)

pub ruleset calls = called-is
