-- For `Val::item`, `count_below` and `element_count`: the element at a place and how many there are, by the places that the code counts.
use Rattle.std.proofs.Common.{◌≡◌, ◌∙◌, ℕ, zero, suc, ◌+◌, ◌<◌, ◌≤◌, ℤ, pos, List, [], ◌∷◌, get_or, length, map, Some, None, refl, ap, sym, arith}
use Rattle.std.specs.Int.{int_gap}
use Rattle.std.specs.List.{enumerate_from, range_with_len, slice_get}
use Rattle.std.proofs.lemmas.List.FromFn.{get_or-map-range_with_len, length-map-range_with_len}
use Rattle.std.proofs.lemmas.Option.{slice_get-get_or}
use Rattle.std.specs.Option.{option_map}
use Rattle.tmpl_values.specs.Value.{number, string, sequence, Items, no_item, item}
use Rattle.tmpl_values.specs.declared.data.Data.{Data}
use Rattle.tmpl_values.specs.row.View.{value_of, items_of, entries_of}
use Rattle.tmpl_values.specs.Elements.{Element, values_of_items, elements_of_entries, elements}

-- items, of which the first has this index
abbrev indexed : ℕ → Items → List Element
indexed n vs = map (λ p. (number (pos p.0), p.1)) (enumerate_from n (values_of_items vs))

-- a whole number as an element, which is its own index
abbrev itself : ℕ → Element
itself i = (number (pos i), number (pos i))

-- the whole numbers from 0 to before this one
abbrev pub numbers_below : ℤ → List Element
numbers_below n = map itself (range_with_len 0 (int_gap (pos 0) n))

length-indexed : (n : ℕ) (vs : Items) → length (indexed n vs) ≡ length (values_of_items vs)
length-indexed n no_item = refl
length-indexed n (item v vs) = ap suc (length-indexed (n + 1) vs)

-- the elements of data in a row, from the one with this index on
pub indexed-of : (n i : ℕ) (ds : List Data) (d : Data) → i < length ds
    → slice_get (indexed n (items_of ds)) i ≡ Some (number (pos (n + i)), value_of (get_or ds i d))
indexed-of n i [] d h = absurd (omega arith)
indexed-of n zero (e ∷ ds) d h = let is : n ≡ n + 0 = omega arith in ap (λ k. Some (number (pos k), value_of e)) is
indexed-of n (suc i) (e ∷ ds) d h =
    let is : n + 1 + i ≡ n + suc i = omega arith in
    indexed-of (n + 1) i ds d (omega arith) ∙ ap (λ k. Some (number (pos k), value_of (get_or ds i d))) is

pub indexed-past : (n i : ℕ) (ds : List Data) → length ds ≤ i → slice_get (indexed n (items_of ds)) i ≡ None
indexed-past n i [] h = refl
indexed-past n zero (e ∷ ds) h = absurd (omega arith)
indexed-past n (suc i) (e ∷ ds) h = indexed-past (n + 1) i ds (omega arith)

-- .. and of entries
pub elements_of_entries-of : (i : ℕ) (es : List (List ℕ × Data)) (d : List ℕ × Data) → i < length es
    → slice_get (elements_of_entries (entries_of es)) i ≡ Some (string (get_or es i d).0, value_of (get_or es i d).1)
elements_of_entries-of i [] d h = absurd (omega arith)
elements_of_entries-of zero (e ∷ es) d h = refl
elements_of_entries-of (suc i) (e ∷ es) d h = elements_of_entries-of i es d (omega arith)

pub elements_of_entries-past : (i : ℕ) (es : List (List ℕ × Data)) → length es ≤ i → slice_get (elements_of_entries (entries_of es)) i ≡ None
elements_of_entries-past i [] h = refl
elements_of_entries-past zero (e ∷ es) h = absurd (omega arith)
elements_of_entries-past (suc i) (e ∷ es) h = elements_of_entries-past i es (omega arith)

-- .. and of whole numbers
pub length-numbers : (n : ℤ) → length (numbers_below n) ≡ int_gap (pos 0) n
length-numbers n = length-map-range_with_len itself 0 (int_gap (pos 0) n)

pub numbers-of : (n : ℤ) (i : ℕ) → i < length (numbers_below n) → slice_get (numbers_below n) i ≡ Some (itself i)
numbers-of n i h =
    slice_get-get_or (numbers_below n) i (itself 0) h
    ∙ ap Some (get_or-map-range_with_len itself 0 (int_gap (pos 0) n) i i (itself 0) (omega (arith, length-numbers n, h)) (omega arith))

-- how many elements a value has that may be ranged over
pub number-count : (n : ℤ) → Some (int_gap (pos 0) n) ≡ option_map length (elements (number n))
number-count n = ap Some (sym (length-numbers n))

pub sequence-count : (vs : Items) → Some (length (values_of_items vs)) ≡ option_map length (elements (sequence vs))
sequence-count vs = ap Some (sym (length-indexed 0 vs))

pub ruleset counts = (number-count, sequence-count)
