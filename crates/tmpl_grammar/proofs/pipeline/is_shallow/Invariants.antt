use Rattle.std.proofs.Common.{◌≡◌, ◌≤◌, drop, map, nat_le}
use Rattle.tmpl_lex.specs.View.{token_of}
use Rattle.tmpl_grammar.specs.Depth.{most_deep}
use Rattle.tmpl_grammar.specs.computed.Depth.{deepest}
use Rattle.tmpl_grammar.proofs.pipeline.is_shallow.Given as goal

abbrev pub invariant-loop-token : goal.invariant-loop-token
invariant-loop-token l = record {
  low : l.depth ≤ most_deep;
  same : nat_le (deepest l.depth (map token_of (drop l.token-index l.tokens))) most_deep ≡ nat_le (deepest 0 (map token_of l.tokens)) most_deep;
}
