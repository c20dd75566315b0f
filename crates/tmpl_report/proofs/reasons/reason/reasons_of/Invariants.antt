use Rattle.std.proofs.Common.{take}
use Rattle.std.specs.List.{AllZip}
use Rattle.tmpl_report.specs.Reason.{IsTold}
use Rattle.tmpl_report.proofs.reasons.reason.reasons_of.Given as goal

abbrev pub invariant-loop-doubt : goal.invariant-loop-doubt
invariant-loop-doubt l = AllZip (IsTold l.bytes) (take l.doubt-index l.doubts) l.reasons.items
