-- For `infer_from`: what is read of each file.
use Rattle.std.specs.Prelude.{◌≡◌, ◌⊎◌, ◌++◌, true, false, List, [], ◌∷◌, Any, Some, Ok, Err}
use Rattle.serde_json.specs.View.{view}
use Rattle.serde_json.specs.declared.value.Value.{Value}
use Rattle.tmpl_values.specs.Json.{tree_value, data_of, Flaw}
use Rattle.tmpl_values.specs.Value as value
use Rattle.tmpl_problems.specs.Finding.{Finding, has_error}
use Rattle.tmpl_problems.specs.declared.source.Source.{Source}

-- the sample has the value of the file
abbrev pub IsSampleOf : Source → Value → Type 0
IsSampleOf file sample = (v : value.Value) × (data_of file.bytes.items ≡ Ok v) × (tree_value (view sample) ≡ Some v)

abbrev pub HasNoValue : Source → Type 0
HasNoValue file = (flaw : Flaw) × (data_of file.bytes.items ≡ Err flaw)

-- one sample is added of a file that has a value, and else an error
abbrev pub AddsSample : Source → List Finding → List Finding → List Value → List Value → Type 0
AddsSample file old new before after =
    ((sample : Value) × IsSampleOf file sample × (after ≡ before ++ sample ∷ [])
    × (has_error new ≡ has_error old))
    ⊎ (HasNoValue file × (has_error new ≡ true))

-- these are the samples of these files
abbrev pub AreSamplesOf : List Source → List Value → Type 0
AreSamplesOf [] [] = Unit {0}
AreSamplesOf (file ∷ files) (sample ∷ samples) = IsSampleOf file sample × AreSamplesOf files samples
AreSamplesOf files samples = ⊥

-- the files have samples, or one of them has no value and that is reported
abbrev pub AreRead : List Source → List Finding → List Value → Type 0
AreRead files found samples = ((has_error found ≡ false) × AreSamplesOf files samples)
    ⊎ ((has_error found ≡ true) × Any HasNoValue files)
