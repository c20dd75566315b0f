use Rattle.std.proofs.Common.{◌≡◌, drop, false}
use Rattle.tmpl_values.specs.View.{val_of, is_made}
use Rattle.tmpl_funcs.specs.View.{values_of}
use Rattle.tmpl_funcs.specs.Index.{indexed_by}
use Rattle.tmpl_funcs.proofs.index.index_by.Given as goal

abbrev pub invariant-loop-index : goal.invariant-loop-index
invariant-loop-index l = record {
  table : indexed_by (val_of l.fn.first) (values_of l.indexes) ≡ indexed_by (val_of l.item) (values_of (drop l.index-index l.indexes));
  borrowed : is_made l.fn.first ≡ false → is_made l.item ≡ false;
}
