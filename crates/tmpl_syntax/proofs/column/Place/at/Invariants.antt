use Rattle.std.proofs.Common.{◌≡◌}
use Rattle.tmpl_syntax.specs.Column.{IsPlace}
use Rattle.tmpl_syntax.proofs.column.Place.at.Given as goal

abbrev pub invariant-loop-index : goal.invariant-loop-index
invariant-loop-index l = record {
  place : IsPlace l.file l.place;
  start : l.place.start ≡ l.index;
}
