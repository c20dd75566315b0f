use Rattle.std.proofs.Common.{length}
use Rattle.tmpl_lex.specs.Part.{IsLeft}
use Rattle.tmpl_syntax.specs.Column.{IsPlace}
use Rattle.tmpl_problems.proofs.readable.read_on.Given as goal

abbrev pub invariant-loop-tokens : goal.invariant-loop-tokens
invariant-loop-tokens l = record {
  left : IsLeft l.file l.rest;
  place : IsPlace l.file l.place;
}

abbrev pub decreases-loop-tokens : goal.decreases-loop-tokens
decreases-loop-tokens l = length l.rest.bytes.now
