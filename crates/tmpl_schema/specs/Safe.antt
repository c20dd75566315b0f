-- What an accepted template is said to be.
use Rattle.std.specs.Prelude.{◌≡◌, ℕ, List, Option, Some, None, IfSome, Contains, unwrap_or}
use Rattle.tmpl_values.specs.Value.{Value, nothing}
use Rattle.tmpl_syntax.specs.Set.{Template, tree_named}
use Rattle.tmpl_syntax.specs.Tree.{Tree}
use Rattle.tmpl_meaning.specs.Fault.{Cause, steps_spent, calls_too_deep, no_template}
use Rattle.tmpl_meaning.specs.Meaning.{Rules, ran}
use Rattle.tmpl_meaning.specs.declared.missing_key.MissingKey.{MissingKey}
use Rattle.tmpl_shape.specs.Shape.{Schema, Fits}

-- a fault that an accepted template may have: no step is left, calls are too deep, or one of these names, of which there
-- is no template, is called to stop the run
abbrev pub MayEnd : List (List ℕ) → Cause → Type 0
MayEnd stops (steps_spent n) = Unit {0}
MayEnd stops (calls_too_deep n) = Unit {0}
MayEnd stops (no_template name) = Contains stops name
MayEnd stops cause = ⊥

-- a mode that was asked for: this one, or each
abbrev pub Covers : Option MissingKey → MissingKey → Type 0
Covers None m = Unit {0}
Covers (Some asked) m = asked ≡ m

-- the template of this name is there, and whatever the limits, its run over each value of the data that fits the schema
-- has no fault but those that it may have; where there is no data, nothing is its value
abbrev pub NeverFails : Schema → Option MissingKey → List (List ℕ) → List Template → List ℕ → Type 0
NeverFails schema asked stops set name = (t : Tree) × (tree_named name set ≡ Some t)
    × ((rules : Rules) (input : Option Value) → Covers asked rules.missing_key
    → Fits schema (unwrap_or input nothing)
    → IfSome (ran rules set name t input).fault (λ f. MayEnd stops f.cause))
