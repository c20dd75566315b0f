-- For `table_of`, which makes a `Table`: its keys rise, since the tree of `serde_json` keeps its members in order.
use Rattle.std.proofs.Common.{◌≡◌, ℕ, List, [], ◌∷◌, Option, Some, None, option_map, String, Global, string_bytes, string_cmp, refl, sym, subst}
use Rattle.std.specs.Option.{option_and_then}
use Rattle.std.specs.Map.{keys_of}
use Rattle.std.specs.List.Sorted.{IsStrictlySortedBy}
use Rattle.std.specs.declared.cmp.Ordering.TheVariants.{Less}
use Rattle.serde_json.specs.declared.value.Value as json
use Rattle.serde_json.specs.View.{view, members_view}
use Rattle.tmpl_values.specs.Value.{Value, Entries, no_entry, entry, IsBelow, AreRising}
use Rattle.tmpl_values.specs.Json.{tree_value, tree_entries}

abbrev Member : Type 0
Member = String Global × json.Value

-- a read object is its first member's value and the entries of the others
entry-read : (k : List ℕ) (v : Option Value) (rest : Option Entries) (out : Entries)
    → option_and_then (λ x. option_map (entry k x) rest) v ≡ Some out
    → (x : Value) × (es : Entries) × (v ≡ Some x) × (rest ≡ Some es) × (out ≡ entry k x es)
entry-read k None rest out h = cc
entry-read k (Some x) None out h = cc
entry-read k (Some x) (Some es) out h = (x, es, refl, refl, cc)

IsBelow-first : (k : String Global) (m : Member) (ms : List Member) (out : Entries) → string_cmp k m.0 ≡ Less
    → tree_entries (members_view (m ∷ ms)) ≡ Some out → IsBelow (string_bytes k) out
IsBelow-first k m ms out h read =
    let r = entry-read (string_bytes m.0) (tree_value (view m.1)) (tree_entries (members_view ms)) out read in
    subst (IsBelow (string_bytes k)) (sym r.4) h

pub AreRising-sorted : (ms : List Member) (out : Entries) → IsStrictlySortedBy string_cmp (keys_of ms) → tree_entries (members_view ms) ≡ Some out
    → AreRising out
unfolding IsStrictlySortedBy
AreRising-sorted [] out h read = let e : out ≡ no_entry = cc in subst AreRising (sym e) tt
AreRising-sorted (m ∷ []) out h read =
    let r = entry-read (string_bytes m.0) (tree_value (view m.1)) (Some no_entry) out read in
    let e : r.1 ≡ no_entry = cc in
    subst AreRising (sym r.4) (subst (λ es. AreRising (entry (string_bytes m.0) r.0 es)) (sym e) (tt, tt))
AreRising-sorted (m ∷ n ∷ ms) out h read =
    let r = entry-read (string_bytes m.0) (tree_value (view m.1)) (tree_entries (members_view (n ∷ ms))) out read in
    subst AreRising (sym r.4) (IsBelow-first m.0 n ms r.1 h.0.0 r.3, AreRising-sorted (n ∷ ms) r.1 h.1 r.3)
