use Rattle.std.proofs.Common.{All, drop, map}
use Rattle.tmpl_syntax.specs.Column.{IsPlace}
use Rattle.tmpl_syntax.specs.Examine.{IsLocated}
use Rattle.tmpl_syntax.specs.Refusals.{refused_seen}
use Rattle.tmpl_syntax.proofs.ExamineLemmas.{Keeps}
use Rattle.tmpl_syntax.proofs.refused.firsts.Given as goal

abbrev pub invariant-loop-found : goal.invariant-loop-found
invariant-loop-found l = record {
  keeps : Keeps l.all (map refused_seen l.told.items) l.last (drop l.found-index l.all);
  located : All (IsLocated l.bytes) l.told.items;
  place : IsPlace l.bytes l.place;
}
