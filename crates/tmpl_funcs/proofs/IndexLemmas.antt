-- For `list_item`: the item at the place that a number names, since the code looks at the place first.
use Rattle.std.proofs.Common.{◌≡◌, ◌∙◌, ℕ, ◌<◌, ◌≤◌, Bool, true, false, nat_lt, List, length, get_or, ℤ, pos, negsuc}
use Rattle.std.proofs.Common.{Option, Some, None, Result, Ok, Err, ok_or, slice_get, refl, sym, ap, subst, arith}
use Rattle.std.proofs.lemmas.Bool.Decides.{nat_tests}
use Rattle.tmpl_values.specs.declared.data.Data.{Data}
use Rattle.tmpl_values.specs.Value.{Value, Items}
use Rattle.tmpl_values.specs.View.{value_of, items_of}
use Rattle.tmpl_values.proofs.ItemLemmas.{nth_item-of, nth_item-past}
use Rattle.tmpl_funcs.specs.computed.Answer.{IsAnswer}
use Rattle.tmpl_values.specs.Elements.{values_of_items}
use Rattle.tmpl_funcs.specs.Index.{found_at}
use Rattle.tmpl_funcs.specs.computed.Index.{place_among, place_if}
use Rattle.tmpl_funcs.specs.declared.fault.CallFault.{CallFault}
use Rattle.tmpl_funcs.specs.declared.fault.CallFault.TheVariants.{WrongKind, OutOfRange}

-- the item at a place
abbrev pub item_of : Items → Option ℤ → Result Value CallFault
item_of vs = found_at (slice_get (values_of_items vs))

-- a place that was found is named by a number, and within
pub record IsPlace (p : Option ℤ) (n i : ℕ) : Type 0 where
  pub named : p ≡ Some (pos i)
  pub within : i < n

pub place_among-Ok : (p : Option ℤ) (n i : ℕ) → Ok i ≡ place_among p n → IsPlace p n i
place_among-Ok None n i h = cc
place_among-Ok (Some (negsuc k)) n i h = cc
place_among-Ok (Some (pos k)) n i h = go (nat_lt k n) refl h
  where
    go : (t : Bool) → nat_lt k n ≡ t → Ok i ≡ place_if t k → IsPlace (Some (pos k)) n i
    go true e f =
        let same : i ≡ k = cc in
        record { named = ap (λ j. Some (pos j)) (sym same); within = grind (arith, nat_tests) }
    go false e f = cc

-- the item there
pub item_of-Ok : (ds : List Data) (p : Option ℤ) (i : ℕ) (d : Data) → Ok i ≡ place_among p (length ds) → d ≡ get_or ds i d
    → item_of (items_of ds) p ≡ Ok (value_of d)
item_of-Ok ds p i d h is =
    let at = place_among-Ok p (length ds) i h in
    ap (item_of (items_of ds)) at.named ∙ ap (λ o. ok_or o OutOfRange) (nth_item-of ds i d at.within ∙ ap (λ x. Some (value_of x)) (sym is))

-- the fault where there is no place
pub item_of-Err : (ds : List Data) (p : Option ℤ) (e : CallFault) → Err e ≡ place_among p (length ds) → IsAnswer (item_of (items_of ds) p) (Err e)
item_of-Err ds None e h =
    let same : WrongKind ≡ e = cc in
    subst (λ x. IsAnswer (item_of (items_of ds) None) (Err x)) same refl
item_of-Err ds (Some (negsuc k)) e h =
    let same : OutOfRange ≡ e = cc in
    subst (λ x. IsAnswer (item_of (items_of ds) (Some (negsuc k))) (Err x)) same refl
item_of-Err ds (Some (pos k)) e h = go (nat_lt k (length ds)) refl h
  where
    go : (t : Bool) → nat_lt k (length ds) ≡ t → Err e ≡ place_if t k → IsAnswer (item_of (items_of ds) (Some (pos k))) (Err e)
    go true is f = cc
    go false is f =
        let same : OutOfRange ≡ e = cc in
        let past : length ds ≤ k = grind (arith, nat_tests) in
        subst (λ x. IsAnswer (item_of (items_of ds) (Some (pos k))) (Err x)) same (ap (λ o. ok_or o OutOfRange) (nth_item-past ds k past))
