-- For `put_inner`, which goes over data: the sizes that fall from a value to what it holds.
use Rattle.std.proofs.Common.{ℕ, suc, max, ◌+◌, ◌*◌, ◌≤◌, List, [], ◌∷◌, arith}
use denote.Param.Weighed.{most}
use Rattle.tmpl_values.specs.computed.Weight.{weight, items_weight, entries_weight}
use Rattle.tmpl_values.specs.row.View.{value_of, items_of, entries_of}
use Rattle.tmpl_values.specs.declared.data.Data.{Data}
use Rattle.tmpl_values.specs.declared.data.Data.TheVariants.{the_data}
use Rattle.tmpl_values.specs.declared.data.Data.TheVariants as kind
use Rattle.tmpl_values.specs.declared.data.Items.TheDeep.{size-Data}
use Rattle.tmpl_values.specs.declared.data.Items.TheShapes.{weighed-Table-entries-at-2}

size-data : (d : Data) → size-Data d ≤ 2 * weight (value_of d) + 1
size-data (kind.List vs) =
    let g : 2 * max (items_weight vs + 1) 0 + 1 ≤ 2 * suc (items_weight vs) + 1 = omega arith in g
size-data (kind.Map es) =
    let g : 2 * max (entries_weight es + 1) 0 + 1 ≤ 2 * suc (entries_weight es) + 1 = omega arith in g
size-data _ = omega arith

pub size-row : (ds : List Data) → most (λ d. size-Data d) ds ≤ 2 * items_weight (items_of ds) + 1
size-row [] = omega arith
size-row (d ∷ ds) = omega (arith, size-data d, size-row ds)

pub size-table : (es : List (List ℕ × Data)) → most (λ e. weighed-Table-entries-at-2.weight the_data size-Data e) es ≤ 2 * entries_weight (entries_of es) + 1
size-table [] = omega arith
size-table (e ∷ es) = omega (arith, size-data e.1, size-table es)
