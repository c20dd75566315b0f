-- The elements that a range visits ("Actions", at `range`), each after its index or key: the items of a sequence in
-- order and those of a mapping by key; and, as Go 1.24 has it, the whole numbers from 0 to before a number. That
-- nothing and null have none, and that no other value may be ranged over, are our own rules.
use Rattle.std.specs.Prelude.{ℕ, pos, List, [], ◌∷◌, map, slice_get, Option, Some, None, if◌then◌else◌}
use Rattle.std.specs.Int.{int_gap}
use Rattle.std.specs.List.{enumerate_from, range_with_len}
use Rattle.tmpl_values.specs.Value.{Value, number, string, sequence, mapping, Items, no_item, item, Entries}
use Rattle.tmpl_values.specs.Value.{no_entry, entry}
use Rattle.tmpl_values.specs.Compare.{is_nothing}

-- an index or key, and the element
abbrev pub Element : Type 0
Element = Value × Value

-- items in a row
abbrev pub values_of_items : Items → List Value
values_of_items no_item = []
values_of_items (item v vs) = v ∷ values_of_items vs

-- entries, each as its key and its value
abbrev pub elements_of_entries : Entries → List Element
elements_of_entries no_entry = []
elements_of_entries (entry k v es) = (string k, v) ∷ elements_of_entries es

-- the elements of a value, if it may be ranged over: the whole numbers from 0 to before a number, each its own index;
-- the items of a sequence, each after its place; the entries of a mapping; and none of nothing and null
abbrev pub elements : Value → Option (List Element)
elements (number n) = Some (map (λ i. (number (pos i), number (pos i))) (range_with_len 0 (int_gap (pos 0) n)))
elements (sequence vs) = Some (map (λ p. (number (pos p.0), p.1)) (enumerate_from 0 (values_of_items vs)))
elements (mapping es) = Some (elements_of_entries es)
elements v = if is_nothing v then Some [] else None

-- .. if it may be ranged over with a variable for the index or key as well: a number may not
abbrev pub pairs : Value → Option (List Element)
pairs (number n) = None
pairs v = elements v

-- the element at a place among these, if there is one
abbrev pub element_at : ℕ → Option (List Element) → Option Element
element_at i None = None
element_at i (Some es) = slice_get es i

-- the element of a value at a place
abbrev pub item_at : ℕ → Value → Option Element
item_at i v = element_at i (elements v)
