use Rattle.std.proofs.Common.{◌≡◌, ℕ, List, ◌++◌, length, Ok}
use Rattle.tmpl_values.specs.Put.{IsPut}
use Rattle.tmpl_values.specs.computed.Quote.{inside}
use Rattle.tmpl_values.specs.Printable.{printable}
use Rattle.tmpl_values.proofs.quote.put_inside.Given as goal

abbrev pub invariant-loop-rest : goal.invariant-loop-rest
invariant-loop-rest g l =
    (so_far : List ℕ) × (inside printable l.fn.bytes ≡ so_far ++ inside printable l.rest) × IsPut {F = g.row.P-Fault.Denot} (Ok tt)
    (g.P.Put.so_far l.initial.out) (g.P.Put.so_far l.out) so_far

abbrev pub decreases-loop-rest : goal.decreases-loop-rest
decreases-loop-rest g l = length l.rest
