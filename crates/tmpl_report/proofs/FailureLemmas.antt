-- For `failures`, and the law.
use Rattle.std.specs.Prelude.{ok_or}
use Rattle.serde_json.specs.Data.{Data}
use Rattle.tmpl_values.specs.Json.{data_of, not_json, not_whole, tree_value}
use Rattle.tmpl_values.specs.Stage.{and_then}
use Rattle.tmpl_values.specs.Value.{Value}
use Rattle.tmpl_json_schema.specs.Document.{document_of}
use Rattle.std.proofs.Common.{◌≡◌, ◌++◌, ℕ, refl, Ok, None, List, [], ◌∷◌, Option, Some, IfSome, option_and_then, subst, sym, ap, ◌∙◌}
use Rattle.tmpl_syntax.specs.Set.{tree_named}
use Rattle.tmpl_meaning.specs.Meaning.{ran}
use Rattle.tmpl_schema.specs.Safe.{MayEnd}
use Rattle.tmpl_schema.specs.declared.failure.Doubt.{Doubt}
use Rattle.tmpl_report.specs.Failing.{Asked, AreRight, IsRight}
use Rattle.tmpl_report.specs.Refutes.{FailureRefutes}
use Rattle.tmpl_report.specs.declared.samples.failing.Failure.{Failure}

-- one more entry is right
pub right_more : (asked : Asked) (doubts : List Doubt) (failures : List (Option Failure)) (doubt : Doubt) (found : Option Failure) → AreRight asked doubts failures
    → IfSome found (IsRight asked doubt) → AreRight asked (doubts ++ doubt ∷ []) (failures ++ found ∷ [])
right_more asked [] [] doubt found a p = (p, tt)
right_more asked [] (f ∷ fs) doubt found a p = absurd a
right_more asked (d ∷ ds) [] doubt found a p = absurd a
right_more asked (d ∷ ds) (f ∷ fs) doubt found a p = (a.0, right_more asked ds fs doubt found a.1 p)

-- ---- documents

-- the value of data is that of the JSON value that they read as
pub value-read : (bs : List ℕ) (d : Data) (v : Value) → document_of bs ≡ Some d → data_of bs ≡ Ok v → tree_value d ≡ Some v
value-read bs d v is p = of (tree_value d) (sym (ap (λ o. and_then (ok_or o not_json) (λ d. ok_or (tree_value d) not_whole)) is) ∙ p)
  where
    of : (o : Option Value) → ok_or o not_whole ≡ Ok v → o ≡ Some v
    of None e = cc
    of (Some w) e = let same : w ≡ v = cc in rw same refl

-- ---- the law

fault-there : {A B : Type 0} (f : A → Option B) (o : Option A) (a : A) (b : B) → option_and_then f o ≡ Some b → o ≡ Some a → f a ≡ Some b
fault-there f o a b e is = sym (ap (option_and_then f) is) ∙ e

pub failure-refutes : FailureRefutes
failure-refutes mode asked doubt failure covers right never =
    let t = never.0 in
    let there = fault-there (λ tree. (ran asked.rules asked.set asked.name tree (Some right.0)).fault) (tree_named asked.name asked.set) t right.1 right.4 never.1 in
    right.6 (subst (λ o. IfSome o (λ f. MayEnd asked.stops f.cause)) there (never.3 asked.rules right.0 covers right.3))
