-- What the cells of a call stand for.
use Rattle.std.specs.Prelude.{List, map}
use Rattle.tmpl_values.specs.Value.{Value}
use Rattle.tmpl_values.specs.View.{val_of}
use Rattle.tmpl_values.specs.declared.value.Cell.{Cell}

-- the values in cells
abbrev pub values_of : List Cell → List Value
values_of cells = map (λ c. val_of c.val) cells
