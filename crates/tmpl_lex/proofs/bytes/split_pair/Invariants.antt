use Rattle.std.proofs.Common.{◌≡◌, ◌≤◌, ◌-◌, length}
use Rattle.tmpl_lex.specs.computed.Bytes.{split_pair, split_from}
use Rattle.tmpl_lex.proofs.bytes.split_pair.Given as goal

abbrev pub invariant-loop-i : goal.invariant-loop-i
invariant-loop-i l = record {
  within : l.i ≤ length l.bytes;
  same : split_pair l.first l.second l.bytes ≡ split_from l.first l.second l.i l.bytes;
}

abbrev pub decreases-loop-i : goal.decreases-loop-i
decreases-loop-i l = length l.bytes - l.i
