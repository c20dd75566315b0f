use Rattle.std.proofs.Common.{take}
use Rattle.tmpl_report.specs.Failing.{AreRight}
use Rattle.tmpl_report.specs.computed.Asked.{asked_in}
use Rattle.tmpl_report.proofs.samples.failing.Suspect.failures.Given as goal

abbrev pub invariant-loop-doubt : goal.invariant-loop-doubt
invariant-loop-doubt l = AreRight (asked_in l.self) (take l.doubt-index l.self.doubts.now) l.failures.items
