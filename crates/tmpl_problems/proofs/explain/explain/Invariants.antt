use Rattle.std.proofs.Common.{◌≡◌, ◌++◌, map}
use Rattle.tmpl_problems.specs.Checked.{refused_in}
use Rattle.tmpl_problems.proofs.explain.explain.Given as goal

abbrev pub invariant-loop-refused : goal.invariant-loop-refused
invariant-loop-refused l = map refused_in l.problems.items ++ l.refused-iterator.rest.items ≡ l.fn.refusals.items
