use Rattle.std.proofs.Common.{◌≡◌, ◌<◌, ℕ}
use Rattle.std.specs.Prelude.{slice_index_or}
use Rattle.tmpl_report.proofs.samples.failing.is_stop.Given as goal

abbrev pub invariant-loop-stop : goal.invariant-loop-stop
invariant-loop-stop l = (k : ℕ) → k < l.stop-index → slice_index_or l.stops k l.name ≡ l.name → ⊥
