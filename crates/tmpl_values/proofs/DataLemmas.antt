-- For the law `data_is_bounded`: the tree that `serde_json` reads nests within its limit and keeps its members in order, and so does
-- its value.
use Rattle.std.proofs.Common.{◌≡◌, ◌∙◌, ◌≤◌, ℕ, List, Bool, true, false, Option, Some, None, IfSome, Ok, option_map, option_and_then}
use Rattle.std.proofs.Common.{Ordering, Less, Equal, Greater, nat_cmp, refl, ap, subst, arith}
use Rattle.std.specs.Bool.{if◌then◌else◌}
use Rattle.std.specs.Cmp.Lexicographic.{slice_cmp}
use Rattle.std.specs.Ordering.{match_ordering, ordering_reverse}
use Rattle.std.specs.Str.{is_utf8}
use Rattle.std.proofs.lemmas.Cmp.{nat_list_cmp_total}
use Rattle.json.specs.Json as json
use Rattle.json.specs.Lex.{tokens}
use Rattle.serde_json.specs.Data as tree
use Rattle.serde_json.specs.Data.{put, depth, items_depth, members_depth}
use Rattle.serde_json.specs.Find.{as_i64}
use Rattle.serde_json.specs.Read.{of_json, of_items, of_members, max_depth, number_of, read}
use Rattle.serde_json.proofs.Nesting.{depth-read}
use Rattle.tmpl_values.specs.Value.{Value, number, sequence, mapping, item}
use Rattle.tmpl_values.specs.Value.{Entries, entry, IsBelow, AreRising}
use Rattle.tmpl_values.specs.Json.{tree_value, tree_items, tree_entries, data_of}
use Rattle.tmpl_values.specs.Laws.{nesting, items_nesting, entries_nesting, IsRising, HaveRising, HoldRising, NestsWithin, HasRisingKeys}
use Rattle.tmpl_values.proofs.RestLemmas.{if_whole-Ok}
use Rattle.tmpl_values.proofs.TreeLemmas.{tree_of, if_json}

-- ---- what is there is built of what is there

always : {A : Type 0} (o : Option A) → IfSome o (λ a. Unit {0})
always None = tt
always (Some a) = tt

mapped : {A B : Type 0} (Q : B → Type 0) (f : A → B) {P : A → Type 0} (o : Option A) → IfSome o P → ((a : A) → P a → Q (f a)) → IfSome (option_map f o) Q
mapped Q f None h next = tt
mapped Q f (Some a) h next = next a h

chained : {A B : Type 0} (Q : B → Type 0) (f : A → Option B) {P : A → Type 0} (o : Option A) → IfSome o P → ((a : A) → P a → IfSome (f a) Q)
    → IfSome (option_and_then f o) Q
chained Q f None h next = tt
chained Q f (Some a) h next = next a h

-- bytes that have a value are those of a tree that has it
tree_there : (o : Option tree.Data) (v : Value) → if_json o ≡ Ok v → (d : tree.Data) × (o ≡ Some d) × (tree_value d ≡ Some v)
tree_there None v e = cc
tree_there (Some d) v e = (d, refl, if_whole-Ok (tree_value d) v e)

read_there : (b : Bool) (o : Option tree.Data) (d : tree.Data) → (if b then o else None) ≡ Some d → o ≡ Some d
read_there true o d e = e
read_there false o d e = cc

pub tree_read : (bytes : List ℕ) (v : Value) → data_of bytes ≡ Ok v → (d : tree.Data) × (read bytes ≡ Some d) × (tree_value d ≡ Some v)
tree_read bytes v e =
    let t = tree_there (tree_of bytes) v e in
    (t.0, read_there (is_utf8 bytes) (read bytes) t.0 t.1, t.2)

-- ---- nesting

mutual
  nesting-tree : (d : tree.Data) → IfSome (tree_value d) (λ v. nesting v ≤ depth d)
  nesting-tree (tree.number n) = mapped _ number (as_i64 n) (always (as_i64 n)) (λ k _. omega arith)
  nesting-tree (tree.array ds) = mapped _ sequence (tree_items ds) (nesting-items ds) (λ vs le. omega (arith, le))
  nesting-tree (tree.object ms) = mapped _ mapping (tree_entries ms) (nesting-entries ms) (λ es le. omega (arith, le))
  nesting-tree tree.null = omega arith
  nesting-tree (tree.boolean b) = omega arith
  nesting-tree (tree.string s) = omega arith

  nesting-items : (ds : tree.Items) → IfSome (tree_items ds) (λ vs. items_nesting vs ≤ items_depth ds)
  nesting-items tree.no_items = omega arith
  nesting-items (tree.item d ds) = chained _ (λ v. option_map (item v) (tree_items ds)) (tree_value d) (nesting-tree d) (λ v le.
      mapped _ (item v) (tree_items ds) (nesting-items ds) (λ vs more. omega (arith, le, more)))

  nesting-entries : (ms : tree.Members) → IfSome (tree_entries ms) (λ es. entries_nesting es ≤ members_depth ms)
  nesting-entries tree.no_members = omega arith
  nesting-entries (tree.member k d ms) = chained _ (λ v. option_map (entry k v) (tree_entries ms)) (tree_value d) (nesting-tree d) (λ v le.
      mapped _ (entry k v) (tree_entries ms) (nesting-entries ms) (λ es more. omega (arith, le, more)))

pub nests-within : NestsWithin
nests-within bytes v e =
    let t = tree_read bytes v e in
    let le = subst (λ (o : Option Value). IfSome o (λ v. nesting v ≤ depth t.0)) t.2 (nesting-tree t.0) in
    omega (arith, le, depth-read bytes t.0 t.1)

-- ---- the members of a tree rise

abbrev order : List ℕ → List ℕ → Ordering
order = slice_cmp nat_cmp

abbrev Below : List ℕ → tree.Members → Type 0
Below k tree.no_members = Unit {0}
Below k (tree.member l d ms) = order k l ≡ Less

abbrev mutual
  TreeRises : tree.Data → Type 0
  TreeRises (tree.array ds) = ItemsRise ds
  TreeRises (tree.object ms) = MembersRise ms
  TreeRises _ = Unit {0}

  ItemsRise : tree.Items → Type 0
  ItemsRise tree.no_items = Unit {0}
  ItemsRise (tree.item d ds) = TreeRises d × ItemsRise ds

  MembersRise : tree.Members → Type 0
  MembersRise tree.no_members = Unit {0}
  MembersRise (tree.member k d ms) = Below k ms × TreeRises d × MembersRise ms

Below-put : (l k : List ℕ) (d : tree.Data) (ms : tree.Members) → order l k ≡ Less → Below l ms → Below l (put k d ms)
Below-put l k d tree.no_members is h = is
Below-put l k d (tree.member m e ms) is h = by (order k m)
  where
    by : (o : Ordering) → Below l (match_ordering o (tree.member k d (tree.member m e ms)) (tree.member m d ms) (tree.member m e (put k d ms)))
    by Less = is
    by Equal = h
    by Greater = h

MembersRise-put : (k : List ℕ) (d : tree.Data) (ms : tree.Members) → TreeRises d → MembersRise ms → MembersRise (put k d ms)
MembersRise-put k d tree.no_members r h = (tt, r, tt)
MembersRise-put k d (tree.member l e ms) r h = by (MembersRise-put k d ms r h.2) (order k l) refl
  where
    by : MembersRise (put k d ms) → (o : Ordering) → order k l ≡ o
        → MembersRise (match_ordering o (tree.member k d (tree.member l e ms)) (tree.member l d ms) (tree.member l e (put k d ms)))
    by more Less is = (is, r, h)
    by more Equal is = (h.0, r, h.2)
    by more Greater is = (Below-put l k d ms (nat_list_cmp_total.antisymm l k ∙ ap ordering_reverse is) h.0, h.1, more)

mutual
  rises : (j : json.Json) → IfSome (of_json j) TreeRises
  rises (json.number s) = mapped _ tree.number (number_of s) (always (number_of s)) (λ n _. tt)
  rises (json.array js) = mapped _ tree.array (of_items js) (items-rise js) (λ ds h. h)
  rises (json.object ms) = mapped _ tree.object (of_members ms tree.no_members) (members-rise ms tree.no_members tt) (λ all h. h)
  rises json.null = tt
  rises (json.boolean b) = tt
  rises (json.string s) = tt

  items-rise : (js : json.Items) → IfSome (of_items js) ItemsRise
  items-rise json.no_items = tt
  items-rise (json.item j js) = chained _ (λ d. option_map (tree.item d) (of_items js)) (of_json j) (rises j) (λ d h.
      mapped _ (tree.item d) (of_items js) (items-rise js) (λ ds more. (h, more)))

  members-rise : (ms : json.Members) (so_far : tree.Members) → MembersRise so_far → IfSome (of_members ms so_far) MembersRise
  members-rise json.no_members so_far h = h
  members-rise (json.member k j ms) so_far h = chained _ (λ d. of_members ms (put k d so_far)) (of_json j) (rises j) (λ d r.
      members-rise ms (put k d so_far) (MembersRise-put k d so_far r h))

-- ---- and so do the entries of its value

-- what is below the members of a tree is below its entries
abbrev RiseAs : tree.Members → Entries → Type 0
RiseAs ms es = AreRising es × HoldRising es × ((k : List ℕ) → Below k ms → IsBelow k es)

mutual
  value-rises : (d : tree.Data) → TreeRises d → IfSome (tree_value d) IsRising
  value-rises (tree.number n) h = mapped _ number (as_i64 n) (always (as_i64 n)) (λ k _. tt)
  value-rises (tree.array ds) h = mapped _ sequence (tree_items ds) (values-rise ds h) (λ vs rise. rise)
  value-rises (tree.object ms) h = mapped _ mapping (tree_entries ms) (entries-rise ms h) (λ es rise. (rise.0, rise.1))
  value-rises tree.null h = tt
  value-rises (tree.boolean b) h = tt
  value-rises (tree.string s) h = tt

  values-rise : (ds : tree.Items) → ItemsRise ds → IfSome (tree_items ds) HaveRising
  values-rise tree.no_items h = tt
  values-rise (tree.item d ds) h = chained _ (λ v. option_map (item v) (tree_items ds)) (tree_value d) (value-rises d h.0) (λ v rise.
      mapped _ (item v) (tree_items ds) (values-rise ds h.1) (λ vs more. (rise, more)))

  entries-rise : (ms : tree.Members) → MembersRise ms → IfSome (tree_entries ms) (RiseAs ms)
  entries-rise tree.no_members h = (tt, tt, λ k is. tt)
  entries-rise (tree.member k d ms) h = chained _ (λ v. option_map (entry k v) (tree_entries ms)) (tree_value d) (value-rises d h.1) (λ v rise.
      mapped _ (entry k v) (tree_entries ms) (entries-rise ms h.2) (λ es more. ((more.2 k h.0, more.0), (rise, more.1), λ l is. is)))

pub has-rising-keys : HasRisingKeys
has-rising-keys bytes v e =
    let t = tree_read bytes v e in
    let whole = option_and_then (λ p. json.if_last p.0 p.1) (json.value max_depth (tokens bytes)) in
    let tree_rises = subst (λ (o : Option tree.Data). IfSome o TreeRises) t.1 (chained TreeRises of_json whole (always whole) (λ j _. rises j)) in
    subst (λ (o : Option Value). IfSome o IsRising) t.2 (value-rises t.0 tree_rises)

pub ruleset bounded = (nests-within, has-rising-keys)
