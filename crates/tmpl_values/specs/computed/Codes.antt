-- Values as trees of numbers, by which proofs tell them apart.
use Rattle.std.specs.Prelude.{◌≡◌, refl}
use Rattle.std.proofs.Common.{ap}
use Rattle.std.specs.Coded.{coded_bool, coded_ℤ}
use base.Stored.{Gv, gnil, gcons, Coded, coded_list, coded_ℕ}
use Rattle.tmpl_values.specs.Value.{Value, nothing, null, boolean, number, string, sequence, mapping, Items, no_item}
use Rattle.tmpl_values.specs.Value.{item, Entries, no_entry, entry}

abbrev mutual
  pub code : Value → Gv
  code nothing = gnil
  code null = gcons gnil gnil
  code (boolean b) = gcons (gcons gnil gnil) (coded_bool.code b)
  code (number n) = gcons (gcons (gcons gnil gnil) gnil) (coded_ℤ.code n)
  code (string s) = gcons (gcons (gcons (gcons gnil gnil) gnil) gnil) ((coded_list coded_ℕ).code s)
  code (sequence vs) =
      gcons (gcons (gcons (gcons (gcons gnil gnil) gnil) gnil) gnil) (items_code vs)
  code (mapping es) =
      gcons (gcons (gcons (gcons (gcons (gcons gnil gnil) gnil) gnil) gnil) gnil) (entries_code es)

  pub items_code : Items → Gv
  items_code no_item = gnil
  items_code (item v vs) = gcons (code v) (items_code vs)

  pub entries_code : Entries → Gv
  entries_code no_entry = gnil
  entries_code (entry k v es) =
      gcons ((coded_list coded_ℕ).code k) (gcons (code v) (entries_code es))

mutual
  same : (v w : Value) → code v ≡ code w → v ≡ w
  same nothing nothing e = refl
  same null null e = refl
  same (boolean b) (boolean c) e = ap boolean (coded_bool.inj b c cc)
  same (number m) (number n) e = ap number (coded_ℤ.inj m n cc)
  same (string s) (string t) e = ap string ((coded_list coded_ℕ).inj s t cc)
  same (sequence vs) (sequence ws) e = ap sequence (items_same vs ws cc)
  same (mapping vs) (mapping ws) e = ap mapping (entries_same vs ws cc)
  same _ _ e = cc

  pub items_same : (v w : Items) → items_code v ≡ items_code w → v ≡ w
  items_same no_item no_item e = refl
  items_same (item v vs) (item w ws) e =
      let p : v ≡ w = same v w cc in
      let q : vs ≡ ws = items_same vs ws cc in cc
  items_same _ _ e = cc

  pub entries_same : (v w : Entries) → entries_code v ≡ entries_code w → v ≡ w
  entries_same no_entry no_entry e = refl
  entries_same (entry k v vs) (entry l w ws) e =
      let keys : k ≡ l = (coded_list coded_ℕ).inj k l cc in
      let p : v ≡ w = same v w cc in
      let q : vs ≡ ws = entries_same vs ws cc in cc
  entries_same _ _ e = cc

-- items and their numbers
abbrev pub items_coded : Coded Items
items_coded = record { code = items_code; inj = items_same }

-- entries and their numbers
abbrev pub entries_coded : Coded Entries
entries_coded = record { code = entries_code; inj = entries_same }
