-- For the loops of `list_of` and `table_of`: what is converted stands before what the rest is read as.
use Rattle.std.proofs.Common.{◌≡◌, ℕ, List, [], ◌∷◌, ◌++◌, Option, Some, None, Result, Ok, ok_or, option_map, String, Global, string_bytes, refl, ap}
use Rattle.serde_json.specs.declared.value.Value as json
use Rattle.serde_json.specs.View.{view, items_view, members_view}
use Rattle.tmpl_values.specs.declared.data.Data.{Data}
use Rattle.tmpl_values.specs.Value.{Items, no_item, item, Entries, no_entry, entry}
use Rattle.tmpl_values.specs.row.View.{value_of, items_of, entries_of}
use Rattle.tmpl_values.specs.Json.{tree_value, tree_items, tree_entries, Flaw, not_whole}

-- a value that is there; else some number is not whole
abbrev pub if_whole : {A : Type 0} → Option A → Result A Flaw
if_whole o = ok_or o not_whole

abbrev pub before : List Data → Items → Items
before [] vs = vs
before (d ∷ ds) vs = item (value_of d) (before ds vs)

abbrev pub before_entries : List (List ℕ × Data) → Entries → Entries
before_entries [] es = es
before_entries (d ∷ ds) es = entry d.0 (value_of d.1) (before_entries ds es)

before-all : (ds : List Data) → before ds no_item ≡ items_of ds
before-all [] = refl
before-all (d ∷ ds) = ap (item (value_of d)) (before-all ds)

before_entries-all : (ds : List (List ℕ × Data)) → before_entries ds no_entry ≡ entries_of ds
before_entries-all [] = refl
before_entries-all (d ∷ ds) = ap (entry d.0 (value_of d.1)) (before_entries-all ds)

before-one : (ds : List Data) (d : Data) (vs : Items) → before ds (item (value_of d) vs) ≡ before (ds ++ d ∷ []) vs
before-one [] d vs = refl
before-one (e ∷ es) d vs = ap (item (value_of e)) (before-one es d vs)

before_entries-one : (ds : List (List ℕ × Data)) (d : List ℕ × Data) (es : Entries)
    → before_entries ds (entry d.0 (value_of d.1) es) ≡ before_entries (ds ++ d ∷ []) es
before_entries-one [] d es = refl
before_entries-one (e ∷ ds) d es = ap (entry e.0 (value_of e.1)) (before_entries-one ds d es)

pub if_whole-Ok : {A : Type 0} (o : Option A) (a : A) → if_whole o ≡ Ok a → o ≡ Some a
if_whole-Ok None a h = cc
if_whole-Ok (Some b) a h = cc

option_map-option_map : {A B C : Type 0} (f : B → C) (g : A → B) (h : A → C) (o : Option A) → ((a : A) → f (g a) ≡ h a)
    → option_map f (option_map g o) ≡ option_map h o
option_map-option_map f g h None e = refl
option_map-option_map f g h (Some a) e = ap Some (e a)

module _ (all : Option Items) (ds ds' : List Data) (rest rest' : List json.Value) (v : json.Value) (d : Data) where
  -- one item more is done
  pub tree_items-step : all ≡ option_map (before ds) (tree_items (items_view rest)) → rest ≡ v ∷ rest'
      → if_whole (tree_value (view v)) ≡ Ok (value_of d) → ds' ≡ ds ++ d ∷ []
      → all ≡ option_map (before ds') (tree_items (items_view rest'))
  tree_items-step so_far cut read grown =
      rw (so_far, cut, if_whole-Ok _ _ read, grown)
      (option_map-option_map (before ds) (item (value_of d)) (before (ds ++ d ∷ [])) _ (before-one ds d))

-- all items are done
pub tree_items-end : (all : Option Items) (ds : List Data) (rest : List json.Value)
    → all ≡ option_map (before ds) (tree_items (items_view rest)) → rest ≡ [] → all ≡ Some (items_of ds)
tree_items-end all ds rest so_far past = rw (so_far, past) (ap Some (before-all ds))

module _ (all : Option Entries) (ds ds' : List (List ℕ × Data)) (rest rest' : List (String Global × json.Value)) (k : String Global)
    (v : json.Value) (d : Data) where
  -- one member more is done
  pub tree_entries-step : all ≡ option_map (before_entries ds) (tree_entries (members_view rest)) → rest ≡ (k, v) ∷ rest'
      → if_whole (tree_value (view v)) ≡ Ok (value_of d) → ds' ≡ ds ++ (string_bytes k, d) ∷ []
      → all ≡ option_map (before_entries ds') (tree_entries (members_view rest'))
  tree_entries-step so_far cut read grown =
      rw (so_far, cut, if_whole-Ok _ _ read, grown) (option_map-option_map (before_entries ds) (entry (string_bytes k) (value_of d))
      (before_entries (ds ++ (string_bytes k, d) ∷ [])) _ (before_entries-one ds (string_bytes k, d)))

-- all members are done
pub tree_entries-end : (all : Option Entries) (ds : List (List ℕ × Data)) (rest : List (String Global × json.Value))
    → all ≡ option_map (before_entries ds) (tree_entries (members_view rest)) → rest ≡ [] → all ≡ Some (entries_of ds)
tree_entries-end all ds rest so_far past = rw (so_far, past) (ap Some (before_entries-all ds))
