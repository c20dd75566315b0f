-- For the crates above: templates of a set, by name and by number.
use Rattle.std.proofs.lemmas.Bool.Decides.{nat_tests}
use Rattle.std.proofs.Common.{arith, ◌≡◌, ◌∙◌, ◌≤◌, ◌<◌, nat_lt, ℕ, Bool, true, false, cond, List, [], length, get_or, refl, ap, Some, None}
use Rattle.std.specs.Prelude.{slice_get, option_map}
use Rattle.std.specs.List.{position_or_len}
use Rattle.std.proofs.lemmas.List.Folds.{find_at}
use Rattle.std.proofs.lemmas.List.Quantifiers.{position-Some}
use Rattle.std.proofs.lemmas.List.Sums.{position_or_len_is}
use Rattle.std.proofs.lemmas.Option.{slice_get-get_or, slice_get_past}
use Rattle.std.proofs.lemmas.Slice.Eq.{bytes_eq-Decides}
use Rattle.tmpl_syntax.specs.Tree as tree
use Rattle.tmpl_syntax.specs.Set.{Template, number_of, tree_named}
use Rattle.tmpl_syntax.specs.computed.Set.{has_name}

-- a template by its name and by its number
pub record Named (name : List ℕ) (ts : List Template) (k : ℕ) : Type 0 where
  pub t : Template
  pub at : slice_get ts k ≡ Some t
  pub same : name ≡ t.0
  pub tree : tree_named name ts ≡ Some t.1

pub numbered : (name : List ℕ) (ts : List Template) (k : ℕ) → number_of name ts ≡ Some k → Named name ts k
numbered name ts k e = record {
  t = get_or ts k some;
  at = at;
  same = (bytes_eq-Decides name (get_or ts k some).0).0 found.1;
  tree =
      ap (λ o. option_map (λ (t : Template). t.1) o) (find_at (has_name name) ts ∙ ap (slice_get ts) index ∙ at);
}
  where
    some : Template
    some = ([], record { file = []; nodes = tree.none })

    found : (k < length ts) × (has_name name (get_or ts k some) ≡ true) × ((j : ℕ) → j < k → has_name name (get_or ts j some) ≡ false)
    found = position-Some (has_name name) ts k some e

    at : slice_get ts k ≡ Some (get_or ts k some)
    at = slice_get-get_or ts k some found.0

    index : position_or_len (has_name name) ts ≡ k
    index = position_or_len_is (has_name name) ts k some (let lt = found.0 in omega arith) found.2 (λ lt. found.1)

pub unnumbered : (name : List ℕ) (ts : List Template) → number_of name ts ≡ None → tree_named name ts ≡ None
unnumbered name ts e = ap (λ o. option_map (λ (t : Template). t.1) o) (find_at (has_name name) ts
    ∙ slice_get_past ts (position_or_len (has_name name) ts) (by (nat_lt (position_or_len (has_name name) ts) (length ts)) refl e))
  where
    by : (b : Bool) → nat_lt (position_or_len (has_name name) ts) (length ts) ≡ b
        → cond b (Some (position_or_len (has_name name) ts)) None ≡ None → length ts ≤ position_or_len (has_name name) ts
    by true is e = cc
    by false is e = grind (arith, nat_tests)
