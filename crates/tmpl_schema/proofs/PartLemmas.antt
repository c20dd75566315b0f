-- For the law `runs_safely`: items and parts of lists have the shapes that are computed.
use Rattle.std.proofs.Common.{arith, ◌≡◌, ◌∙◌, ◌-◌, ◌≤◌, ◌<◌, ◌&&◌, ℕ, zero, suc, pos, nat_le, Bool, true, false, List, [], ◌∷◌, length, take, drop, slice_get, slice_range, Option, Some, None, Result, option_map, inl, inr, ap, refl, if◌then◌else◌}
use Rattle.std.proofs.lemmas.Bool.{leb-true, le-leb, and_parts}
use Rattle.std.proofs.lemmas.List.{length-drop, length-take-le}
use Rattle.std.specs.Option.{option_map_or, option_and_then}
use Rattle.std.specs.Result.{result_map_both}
use Rattle.tmpl_values.specs.Value.{Value, string, sequence, Items, no_item, item}
use Rattle.tmpl_values.specs.Elements.{values_of_items}
use Rattle.tmpl_values.specs.Item.{in_sequence}
use Rattle.tmpl_funcs.specs.Slice.{extent, part}
use Rattle.tmpl_funcs.specs.declared.fault.CallFault.{CallFault}
use Rattle.tmpl_funcs.specs.declared.func.Func.TheVariants as func
use Rattle.tmpl_meaning.specs.Fault.{Cause, call_failed}
use Rattle.tmpl_shape.specs.Shape.{Shape, never, texts, exactly, list_of, either, named, Names, EachItem, HasShape}
use Rattle.tmpl_shape.specs.computed.Means.{Means}
use Rattle.tmpl_shape.proofs.ConstantLemmas.{kind-has}
use Rattle.tmpl_shape.specs.computed.Shapes.{Base, kind_shape, list_part, text_part, part_shape_by, part_shape}
use Rattle.tmpl_schema.proofs.FieldLemmas.{Gives, both-give}

module _ (P : Value → Type 0) where
  -- an item before the end
  pub item-at : (vs : Items) (i : ℕ) → EachItem P vs → i < length (values_of_items vs) → (w : Value) × (slice_get (values_of_items vs) i ≡ Some w) × P w
  item-at no_item i h less = absurd (omega arith)
  item-at (item v vs) zero h less = (v, refl, h.0)
  item-at (item v vs) (suc i) h less = item-at vs i h.1 (omega arith)

  each-row : (vs : Items) → EachItem P vs → EachItem P (in_sequence (values_of_items vs))
  each-row no_item h = tt
  each-row (item v vs) h = (h.0, each-row vs h.1)

  each-drop : (n : ℕ) (xs : List Value) → EachItem P (in_sequence xs) → EachItem P (in_sequence (drop n xs))
  each-drop zero xs h = h
  each-drop (suc n) [] h = tt
  each-drop (suc n) (x ∷ xs) h = each-drop n xs h.1

  each-take : (n : ℕ) (xs : List Value) → EachItem P (in_sequence xs) → EachItem P (in_sequence (take n xs))
  each-take zero xs h = tt
  each-take (suc n) [] h = tt
  each-take (suc n) (x ∷ xs) h = (h.0, each-take n xs h.1)

  pub each-part : (i j : ℕ) (vs : Items) → EachItem P vs → EachItem P (in_sequence (slice_range (values_of_items vs) i j))
  each-part i j vs h = each-take (j - i) (drop i (values_of_items vs)) (each-drop i (values_of_items vs) (each-row vs h))

row-length : (xs : List Value) → length (values_of_items (in_sequence xs)) ≡ length xs
row-length [] = refl
row-length (x ∷ xs) = ap suc (row-length xs)

part-length : (i j : ℕ) (xs : List Value) → i ≤ j → j ≤ length xs → length (values_of_items (in_sequence (slice_range xs i j))) ≡ j - i
part-length i j xs from to =
    let l = length-drop i xs in
    let enough : j - i ≤ length (drop i xs) = omega arith in row-length (slice_range xs i j) ∙ length-take-le (j - i) (drop i xs) enough

within-test : (i j n : ℕ) → i ≤ j → j ≤ n → (nat_le i j && nat_le j n) ≡ true
within-test i j n from to = rw (le-leb i j from, le-leb j n to) refl

module _ (base : Base) (N : Names) (means : Means base.defs N) where
  abbrev told : Result Value CallFault → Result Value Cause
  told r = result_map_both (λ v. v) (call_failed func.Slice) r

  -- what `slice` gives from a place on, and up to another one if it is known
  abbrev pub part_told : ℕ → Option ℕ → Value → Result Value Cause
  part_told i to v = told (part v (extent v) (Some (pos i)) (option_map_or (λ j. Some (pos j)) to (option_map pos (extent v))))

  list-between : (i j n k : ℕ) (s : Shape) (vs : Items) → i ≤ j → j ≤ length (values_of_items vs) → k ≤ j - i → EachItem (HasShape N s) vs
      → (Gives base N means) (Some (list_of k s)) (told (part (sequence vs) (Some (length (values_of_items vs))) (Some (pos i)) (Some (pos j))))
  list-between i j n k s vs from to few each =
      rw (within-test i j (length (values_of_items vs)) from to)
      (let l = part-length i j (values_of_items vs) from to in (omega arith, each-part (HasShape N s) i j vs each))

  list-gives : (i : ℕ) (to : Option ℕ) (n : ℕ) (s : Shape) (vs : Items) → n ≤ length (values_of_items vs) → EachItem (HasShape N s) vs
      → (Gives base N means) (list_part i to n s) (part_told i to (sequence vs))
  list-gives i None n s vs enough each = by (nat_le i n) refl
    where
      by : (c : Bool) → nat_le i n ≡ c → (Gives base N means) (if c then Some (list_of (n - i) s) else None) (part_told i None (sequence vs))
      by true e = let le = leb-true i n e in list-between i (length (values_of_items vs)) n (n - i) s vs (omega arith) (omega arith) (omega arith) each
      by false e = tt
  list-gives i (Some j) n s vs enough each = by (nat_le i j && nat_le j n) refl
    where
      by : (c : Bool) → (nat_le i j && nat_le j n) ≡ c → (Gives base N means) (if c then Some (list_of (j - i) s) else None) (part_told i (Some j) (sequence vs))
      by true e =
          let p = and_parts (nat_le i j) (nat_le j n) e in
          let from = leb-true i j p.0 in let to = leb-true j n p.1 in list-between i j n (j - i) s vs from (omega arith) (omega arith) each
      by false e = tt

  text-gives : (i : ℕ) (to : Option ℕ) (s : List ℕ) → (Gives base N means) (text_part i to) (part_told i to (string s))
  text-gives zero None s = rw (within-test zero (length s) (length s) (omega arith) (omega arith)) tt
  text-gives zero (Some j) s = tt
  text-gives (suc i) to s = tt

  part_by-gives : (k i : ℕ) (to : Option ℕ) (s : Shape) (v : Value) → HasShape N s v → (Gives base N means) (part_shape_by base k i to s) (part_told i to v)
  part_by-gives zero i to s v h = tt
  part_by-gives (suc k) i to never v h = absurd h
  part_by-gives (suc k) i to texts (string s) h = text-gives i to s
  part_by-gives (suc k) i to texts _ h = absurd h
  part_by-gives (suc k) i to (exactly c) v h = part_by-gives k i to (kind_shape c) v (kind-has N c v h)
  part_by-gives (suc k) i to (list_of n s) (sequence vs) h = list-gives i to n s vs h.0 h.1
  part_by-gives (suc k) i to (list_of n s) _ h = absurd h
  part_by-gives (suc k) i to (either s t) v h =
      (both-give base N means) (part_shape_by base k i to s) (part_shape_by base k i to t) (part_told i to v)
      (elim h [ inl x ↦ inl (part_by-gives k i to s v x) | inr x ↦ inr (part_by-gives k i to t v x) ])
  part_by-gives (suc k) i to (named y) v h = by (base.defs y) refl (λ s. part_by-gives k i to s v)
    where
      by : (o : Option Shape) → base.defs y ≡ o → ((s : Shape) → HasShape N s v → (Gives base N means) (part_shape_by base k i to s) (part_told i to v))
          → (Gives base N means) (option_and_then (part_shape_by base k i to) o) (part_told i to v)
      by None is f = tt
      by (Some s) is f = f s (means.unfolds y s v is h)
  part_by-gives (suc k) i to _ v h = tt

  pub part-gives : (i : ℕ) (to : Option ℕ) (s : Shape) (v : Value) → HasShape N s v → (Gives base N means) (part_shape base i to s) (part_told i to v)
  part-gives i to s v h = part_by-gives base.limit i to s v h
