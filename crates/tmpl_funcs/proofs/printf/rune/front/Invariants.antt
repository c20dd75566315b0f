use Rattle.std.proofs.Common.{length}
use Rattle.tmpl_funcs.proofs.RuneLemmas.{IsCutting}
use Rattle.tmpl_funcs.proofs.printf.rune.front.Given as goal

abbrev pub invariant-loop-left : goal.invariant-loop-left
invariant-loop-left l = IsCutting l.text l.initial.left l.rest l.left

abbrev pub decreases-loop-left : goal.decreases-loop-left
decreases-loop-left l = length l.rest
