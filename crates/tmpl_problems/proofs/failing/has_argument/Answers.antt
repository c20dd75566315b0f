use Rattle.std.proofs.Common.{arith}
use Rattle.tmpl_problems.proofs.FailingLemmas.{argued}
use Rattle.tmpl_problems.proofs.failing.has_argument.Goals as goal

pub returns-in-len1-up : goal.returns-in-len1-up
returns-in-len1-up c = argued c.args.arguments.now c.args.is_piped (omega (arith, c.in-len1-up.len_at_least))
