use Rattle.std.proofs.Common.{◌+◌, ℕ, map, length}
use Rattle.tmpl_lex.specs.Begin.{BeginsAt, BeginsIn}
use Rattle.tmpl_lex.specs.Part.{IsLeft}
use Rattle.tmpl_syntax.specs.computed.Begun.{AllFrom, IsSited}
use Rattle.tmpl_syntax.specs.computed.Refusals.{site_of}
use Rattle.tmpl_syntax.proofs.SiteLemmas.{AreSoFar}
use Rattle.tmpl_syntax.proofs.site.read_sites.Given as goal

abbrev pub invariant-loop-tokens : goal.invariant-loop-tokens
invariant-loop-tokens l = record {
  so_far : AreSoFar l.file (map site_of l.sites.items) l.rest;
  left : IsLeft l.file l.rest;
  sited : AllFrom (IsSited l.file) 0 l.sites.items;
  begins : (n at : ℕ) → BeginsIn l.file l.rest n at → BeginsAt l.file (length l.sites.items + n) at;
}

abbrev pub decreases-loop-tokens : goal.decreases-loop-tokens
decreases-loop-tokens l = length l.rest.bytes.now
