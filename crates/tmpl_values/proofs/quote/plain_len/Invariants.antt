use Rattle.std.proofs.Common.{◌≡◌, ◌≤◌, ◌-◌, ◌++◌, length, take, drop}
use Rattle.tmpl_values.specs.computed.Quote.{inside}
use Rattle.tmpl_values.specs.Printable.{printable}
use Rattle.tmpl_values.proofs.quote.plain_len.Given as goal

abbrev pub invariant-loop-c : goal.invariant-loop-c
invariant-loop-c l =
    (l.len ≤ length l.bytes) × (inside printable l.bytes ≡ take l.len l.bytes ++ inside printable (drop l.len l.bytes))

abbrev pub decreases-loop-c : goal.decreases-loop-c
decreases-loop-c l = length l.bytes - l.len
