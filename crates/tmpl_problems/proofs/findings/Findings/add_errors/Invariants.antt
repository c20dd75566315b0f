use Rattle.std.proofs.Common.{◌≡◌, ◌++◌, map, take}
use Rattle.tmpl_problems.specs.Errors.{error_of}
use Rattle.tmpl_problems.proofs.findings.Findings.add_errors.Given as goal

abbrev pub invariant-loop-problem : goal.invariant-loop-problem
invariant-loop-problem l = l.self ≡ l.initial.self ++ map (error_of l.file) (take l.problem-index l.problems)
