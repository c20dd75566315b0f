use Rattle.std.proofs.Common.{◌≡◌, false, take}
use Rattle.std.specs.List.{AllWithin}
use Rattle.tmpl_values.specs.View.{is_made}
use Rattle.tmpl_engine.proofs.stack.clear.Given as goal

abbrev pub invariant-loop-i : goal.invariant-loop-i
invariant-loop-i l = record {
  left : take l.from l.cells ≡ take l.from l.initial.cells;
  cleared : AllWithin (λ cell. is_made cell.val ≡ false) l.cells l.from l.i;
}
