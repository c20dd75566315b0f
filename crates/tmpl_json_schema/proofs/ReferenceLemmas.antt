-- For `reference.rt`: which definition has a name.
use Rattle.std.proofs.Common.{◌≡◌, ◌++◌, ℕ, List, [], ◌∷◌, map, true, false, Some, None, refl, sym, ap, ◌∙◌, Bor, String, Global}
use Rattle.std.specs.List.{AllByRecursion}
use Rattle.std.specs.Iterator.{Yields}
use Rattle.std.specs.Map.Iter.{TakesFirst, deref_pair}
use Rattle.serde_json.specs.declared.value.Value as tree
use Rattle.serde_json.specs.View.{view, members_view}
use Rattle.tmpl_json_schema.specs.Document.{first_named, is_named}
use Rattle.tmpl_json_schema.specs.declared.draft.Draft.{Draft}
use Rattle.tmpl_json_schema.proofs.MeetLemmas.{front}

module _ (draft : Draft) (name : List ℕ) where
  -- those that do not have it are passed over
  passed : (xs : List (Bor (String Global) × Bor tree.Value)) (rest : List (String Global × tree.Value))
      → AllByRecursion (λ x. is_named draft name (view x.1.now) ≡ false) xs
      → first_named draft name (members_view (map deref_pair xs ++ rest)) ≡ first_named draft name (members_view rest)
  passed [] rest h = refl
  passed (x ∷ xs) rest h =
      let none = h.0 in
      rw none (passed xs rest h.1)

  pub named-first : (s es rest more : List (String Global × tree.Value)) (xs : List (Bor (String Global) × Bor tree.Value)) (x : Bor (String Global) × Bor tree.Value)
      → s ≡ es → Yields (TakesFirst deref_pair) s xs rest → rest ≡ deref_pair x ∷ more
      → AllByRecursion (λ x. is_named draft name (view x.1.now) ≡ false) xs → is_named draft name (view x.1.now) ≡ true
      → first_named draft name (members_view es) ≡ Some (view x.1.now)
  named-first s es rest more xs x is y next none here =
      ap (λ l. first_named draft name (members_view l)) (sym is ∙ front s xs rest y) ∙ passed xs rest none ∙ ap (λ l. first_named draft name (members_view l)) next ∙ by
    where
      by : first_named draft name (members_view (deref_pair x ∷ more)) ≡ Some (view x.1.now)
      by = rw here refl

  pub none-named : (s es rest : List (String Global × tree.Value)) (xs : List (Bor (String Global) × Bor tree.Value))
      → s ≡ es → Yields (TakesFirst deref_pair) s xs rest → rest ≡ [] → AllByRecursion (λ x. is_named draft name (view x.1.now) ≡ false) xs
      → first_named draft name (members_view es) ≡ None
  none-named s es rest xs is y end none =
      ap (λ l. first_named draft name (members_view l)) (sym is ∙ front s xs rest y) ∙ passed xs rest none ∙ ap (λ l. first_named draft name (members_view l)) end
