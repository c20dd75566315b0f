use Rattle.std.proofs.Common.{◌≡◌, ◌≤◌, length, drop}
use Rattle.std.specs.Fmt.{digits_onto, digits}
use Rattle.tmpl_funcs.proofs.printf.digits.write_digits.Given as goal

abbrev pub invariant-loop-i : goal.invariant-loop-i
invariant-loop-i l =
    (l.i ≤ 64) × (length l.out ≡ 64) × (digits_onto l.i l.base l.upper l.rest (drop l.i l.out) ≡ digits l.base l.upper l.n)

abbrev pub decreases-loop-i : goal.decreases-loop-i
decreases-loop-i l = l.i
