-- For the functions that carry out an instruction: what it does, by what is found on the stack.
use Rattle.std.proofs.lemmas.Bool.Decides.{nat_tests}
use Rattle.std.proofs.Common.{arith, ◌≡◌, ◌∙◌, ◌+◌, ◌-◌, ◌≤◌, ◌<◌, nat_lt, ℕ, ℤ, pos, zero, suc, true, false, List, [], ◌∷◌, length, drop, refl, ap}
use Rattle.std.proofs.Common.{Option, Some, None, drop-cons, drop-drop, get_or}
use Rattle.std.proofs.lemmas.List.{drop_all}
use Rattle.std.proofs.lemmas.Option.{get_or_from_slice_get, slice_get-get_or, slice_get_within}
use Rattle.std.specs.Prelude.{slice_get}
use Rattle.std.specs.Int.{int_gap}
use Rattle.std.proofs.lemmas.List.FromFn.{get_or-map-range_with_len, length-map-range_with_len}
use Rattle.tmpl_values.specs.Value.{Value, nothing, number}
use Rattle.tmpl_values.specs.Elements.{Element, element_at, elements, item_at}
use Rattle.tmpl_engine.specs.Cell.{Cell, cell}
use Rattle.tmpl_engine.specs.Machine.{elements_in, is_number, left_in}
use Rattle.tmpl_engine.specs.computed.Held.{has_more}

-- the elements from a place on
got : (es : List Element) (i : ℕ) (e : Element) → slice_get es i ≡ Some e → drop i es ≡ e ∷ drop (suc i) es
got es i e h = drop-cons es i e (slice_get_within es i e h) ∙ ap (λ x. x ∷ drop (suc i) es) (get_or_from_slice_get es i e e h)

pub left-at : (v : Cell) (e : Element) → Some e ≡ item_at v.num v.val → left_in v ≡ e ∷ drop (suc v.num) (elements_in (elements v.val))
left-at v e h = grind (arith, got)

-- after a turn
pub more-left : (v : Cell) → has_more v ≡ true
    → drop 1 (left_in v) ≡ get_or (elements_in (elements v.val)) (v.num + 1) (nothing, nothing) ∷ drop (suc (v.num + 1)) (elements_in (elements v.val))
more-left v h =
    let es = elements_in (elements v.val) in
    let inside : v.num + 1 < length es = (let less : v.num < length es - 1 = grind (arith, nat_tests) in omega arith) in
    drop-drop 1 v.num es ∙ drop-cons es (v.num + 1) (nothing, nothing) inside

pub none-left : (v : Cell) → has_more v ≡ false → drop 1 (left_in v) ≡ []
none-left v h =
    let es = elements_in (elements v.val) in
    let past : length es ≤ v.num + 1 = (let last : length es - 1 ≤ v.num = grind (arith, nat_tests) in omega arith) in
    drop-drop 1 v.num es ∙ drop_all (v.num + 1) es past

-- .. of a number
abbrev itself : ℕ → Element
itself i = (number (pos i), number (pos i))

pub number-left : (v : Cell) → has_more v ≡ true → is_number v.val ≡ true
    → drop 1 (left_in v) ≡ itself (v.num + 1) ∷ drop (suc (v.num + 1)) (elements_in (elements v.val))
number-left v h is = more-left v h ∙ ap (λ e. e ∷ drop (suc (v.num + 1)) (elements_in (elements v.val))) (by v.val is inside)
  where
    inside : v.num + 1 < length (elements_in (elements v.val))
    inside = let less : v.num < length (elements_in (elements v.val)) - 1 = grind (arith, nat_tests) in omega arith

    by : (w : Value) → is_number w ≡ true → v.num + 1 < length (elements_in (elements w))
        → get_or (elements_in (elements w)) (v.num + 1) (nothing, nothing) ≡ itself (v.num + 1)
    by (number n) is less =
        get_or-map-range_with_len itself 0 (int_gap (pos 0) n) (v.num + 1) (v.num + 1) (nothing, nothing)
        (let long = length-map-range_with_len itself 0 (int_gap (pos 0) n) in omega (arith, long, less)) (omega arith)
    by _ is less = cc

-- .. by how many there are
pub number-more : (n : ℤ) (place : ℕ) → has_more (cell (number n) place) ≡ nat_lt place (int_gap (pos 0) n - 1)
number-more n place = ap (λ count. nat_lt place (count - 1)) (length-map-range_with_len itself 0 (int_gap (pos 0) n))

pub ruleset counts = (number-more, nat_tests)

pub ruleset nexts = (more-left, none-left, number-left)

pub ruleset lefts = (left-at)

-- ---- past the end

none-here : (es : List Element) (i : ℕ) → slice_get es i ≡ None → drop i es ≡ []
none-here [] zero h = refl
none-here [] (suc i) h = refl
none-here (x ∷ es) zero h = cc
none-here (x ∷ es) (suc i) h = none-here es i h

pub none-at : (o : Option (List Element)) (i : ℕ) → element_at i o ≡ None → drop i (elements_in o) ≡ []
none-at o i h = grind (arith, none-here)

pub ruleset lands = (none-at, none-left, more-left)

-- where a template starts
pub ruleset starts = (slice_get-get_or)
