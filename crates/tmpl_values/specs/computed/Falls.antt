-- Data inside a row or a table is smaller.
use Rattle.std.specs.Prelude.{ℕ, ◌≤◌, max, List, [], ◌∷◌}
use Rattle.std.proofs.Common.{arith}
use denote.Param.Weighed.{most}
use Rattle.tmpl_values.specs.computed.Weight.{weight, items_weight, entries_weight}
use Rattle.tmpl_values.specs.row.View.{value_of, items_of, entries_of}
use Rattle.tmpl_values.specs.declared.data.Data.{Data}
use Rattle.tmpl_values.specs.declared.data.Data.TheVariants.{the_data}
use Rattle.tmpl_values.specs.declared.data.Data.TheVariants as kind
use Rattle.tmpl_values.specs.declared.data.Items.TheDeep.{deep-Data}
use Rattle.tmpl_values.specs.declared.data.Items.TheShapes.{weighed-Table-entries-at-2}

-- of data
deep-data : (d : Data) → deep-Data d ≤ weight (value_of d)
deep-data (kind.List vs) = omega arith
deep-data (kind.Map es) = omega arith
deep-data _ = omega arith

-- of a row
pub deep-row : (ds : List Data) → max (most (λ d. deep-Data d) ds) 0 ≤ items_weight (items_of ds)
deep-row [] = omega arith
deep-row (d ∷ ds) = omega (arith, deep-data d, deep-row ds)

-- of a table
pub deep-table : (es : List (List ℕ × Data))
    → max (most (λ e. weighed-Table-entries-at-2.weight the_data deep-Data e) es) 0 ≤ entries_weight (entries_of es)
deep-table [] = omega arith
deep-table (e ∷ es) = omega (arith, deep-data e.1, deep-table es)
