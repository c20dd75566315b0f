use Rattle.std.proofs.Common.{◌+◌, ℕ, map, length}
use Rattle.tmpl_lex.specs.Begin.{BeginsAt, BeginsIn}
use Rattle.tmpl_lex.specs.Part.{IsLeft}
use Rattle.tmpl_syntax.specs.computed.Begun.{AllFrom, IsBegun}
use Rattle.tmpl_syntax.specs.computed.View.{item_of}
use Rattle.tmpl_syntax.proofs.ItemLemmas.{AreSoFar}
use Rattle.tmpl_syntax.proofs.item.read_all.Given as goal

abbrev pub invariant-loop-tokens : goal.invariant-loop-tokens
invariant-loop-tokens l = record {
  so_far : AreSoFar l.file (map item_of l.items.items) l.rest;
  left : IsLeft l.file l.rest;
  begun : AllFrom (IsBegun l.file) 0 l.items.items;
  begins : (n at : ℕ) → BeginsIn l.file l.rest n at → BeginsAt l.file (length l.items.items + n) at;
}

abbrev pub decreases-loop-tokens : goal.decreases-loop-tokens
decreases-loop-tokens l = length l.rest.bytes.now
