use Rattle.std.proofs.Common.{map, length, All}
use Rattle.tmpl_lex.specs.Part.{IsLeft}
use Rattle.tmpl_lex.specs.Place.{IsPlaced}
use Rattle.tmpl_lex.specs.View.{piece_of}
use Rattle.tmpl_lex.proofs.FirstPartLemmas.{IsSoFar}
use Rattle.tmpl_lex.proofs.cutter.cut.Given as goal

abbrev pub invariant-loop-tokens : goal.invariant-loop-tokens
invariant-loop-tokens l = record {
  so_far : IsSoFar l.bytes (map piece_of l.pieces.items) l.rest;
  left : IsLeft l.bytes l.rest;
  placed : All (IsPlaced l.bytes) l.pieces.items;
}

abbrev pub decreases-loop-tokens : goal.decreases-loop-tokens
decreases-loop-tokens l = length l.rest.bytes.now
