use Rattle.std.proofs.Common.{◌≡◌, ◌<◌, ℕ, Some}
use Rattle.std.specs.Prelude.{slice_get}
use Rattle.tmpl_syntax.specs.Set.{Template}
use Rattle.tmpl_syntax.specs.View.{set_view}
use Rattle.tmpl_code.specs.computed.Weights.{HoldsOf}
use Rattle.tmpl_code.proofs.bound.holds.Given as goal

abbrev pub invariant-loop-number : goal.invariant-loop-number
invariant-loop-number l =
    (k : ℕ) (t : Template) → k < l.number → slice_get (set_view l.set) k ≡ Some t → HoldsOf (set_view l.set) l.guess.claims.weights.items
    l.guess.claims.allowances.items l.guess.fixed l.guess.each k t
