-- For `Val::part`, `Val::size`, `Val::truth` and `index` of tmpl_funcs: items and entries by place, since the code holds them in a slice.
use Rattle.std.proofs.Common.{◌≡◌, ◌∙◌, ℕ, zero, suc, ◌-◌, ◌<◌, ◌≤◌, List, [], ◌∷◌, length, get_or, take, drop}
use Rattle.std.proofs.Common.{slice_get, slice_range, Some, None, refl, ap, arith}
use Rattle.tmpl_values.specs.declared.data.Data.{Data}
use Rattle.tmpl_values.specs.Value.{item}
use Rattle.tmpl_values.specs.row.View.{value_of, items_of, entries_of}
use Rattle.tmpl_values.specs.Item.{in_sequence}
use Rattle.tmpl_values.specs.Elements.{values_of_items, elements_of_entries}

pub item_count-of : (ds : List Data) → length (values_of_items (items_of ds)) ≡ length ds
item_count-of [] = refl
item_count-of (d ∷ ds) = ap suc (item_count-of ds)

pub entry_count-of : (es : List (List ℕ × Data)) → length (elements_of_entries (entries_of es)) ≡ length es
entry_count-of [] = refl
entry_count-of (e ∷ es) = ap suc (entry_count-of es)

pub ruleset counts = (item_count-of, entry_count-of)

pub nth_item-of : (ds : List Data) (i : ℕ) (d : Data) → i < length ds → slice_get (values_of_items (items_of ds)) i ≡ Some (value_of (get_or ds i d))
nth_item-of [] i d h = absurd (omega arith)
nth_item-of (e ∷ ds) zero d h = refl
nth_item-of (e ∷ ds) (suc i) d h = nth_item-of ds i d (omega arith)

pub nth_item-past : (ds : List Data) (i : ℕ) → length ds ≤ i → slice_get (values_of_items (items_of ds)) i ≡ None
nth_item-past [] i h = refl
nth_item-past (d ∷ ds) zero h = absurd (omega arith)
nth_item-past (d ∷ ds) (suc i) h = nth_item-past ds i (omega arith)

items_of-drop : (i : ℕ) (ds : List Data) → values_of_items (items_of (drop i ds)) ≡ drop i (values_of_items (items_of ds))
items_of-drop zero ds = refl
items_of-drop (suc i) [] = refl
items_of-drop (suc i) (d ∷ ds) = items_of-drop i ds

items_of-take : (n : ℕ) (ds : List Data) → items_of (take n ds) ≡ in_sequence (take n (values_of_items (items_of ds)))
items_of-take zero ds = refl
items_of-take (suc n) [] = refl
items_of-take (suc n) (d ∷ ds) = ap (item (value_of d)) (items_of-take n ds)

pub items_of-range : (ds : List Data) (i j : ℕ) → items_of (slice_range ds i j) ≡ in_sequence (slice_range (values_of_items (items_of ds)) i j)
items_of-range ds i j = items_of-take (j - i) (drop i ds) ∙ ap (λ vs. in_sequence (take (j - i) vs)) (items_of-drop i ds)
