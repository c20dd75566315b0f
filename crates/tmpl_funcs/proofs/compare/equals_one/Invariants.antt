use Rattle.std.proofs.Common.{◌≡◌, drop}
use Rattle.tmpl_values.specs.View.{val_of}
use Rattle.tmpl_funcs.specs.View.{values_of}
use Rattle.tmpl_funcs.specs.Compare.{equal_to_one}
use Rattle.tmpl_funcs.proofs.compare.equals_one.Given as goal

abbrev pub invariant-loop-other : goal.invariant-loop-other
invariant-loop-other l =
    equal_to_one (val_of l.first) (values_of l.others) ≡ equal_to_one (val_of l.first) (values_of (drop l.other-index l.others))
