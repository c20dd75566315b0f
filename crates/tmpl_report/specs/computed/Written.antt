-- An output that is not of a format.
use Rattle.std.specs.Prelude.{◌≡◌, ℕ, List, Some, None, IsSome}
use Rattle.tmpl_formats.specs.computed.Format.{mistake_of}
use Rattle.tmpl_formats.specs.declared.format.Format.{Format}
use Rattle.tmpl_values.specs.Value.{Value}
use Rattle.tmpl_syntax.specs.Set.{Template, tree_named}
use Rattle.tmpl_syntax.specs.Tree.{Tree}
use Rattle.tmpl_meaning.specs.Meaning.{Rules, ran}
use Rattle.tmpl_meaning.specs.declared.missing_key.MissingKey.{MissingKey}

-- the rules of such a run: by this mode, 1,000,000 steps, and 500 templates inside one another
abbrev pub output_rules : MissingKey → Rules
output_rules mode = record { missing_key = mode; step_limit = 1000000; depth_limit = 500 }

-- the run of the template of this name over a value has no fault, and writes this
abbrev pub IsOutput : Rules → List Template → List ℕ → Value → List ℕ → Type 0
IsOutput rules set name value output = (t : Tree) × (tree_named name set ≡ Some t)
    × ((ran rules set name t (Some value)).fault ≡ None) × ((ran rules set name t (Some value)).text ≡ output)

-- .. and the machine of the format refuses it
abbrev pub IsBroken : Rules → List Template → List ℕ → Value → Format → List ℕ → Type 0
IsBroken rules set name value format output = IsOutput rules set name value output × IsSome (mistake_of format output)
