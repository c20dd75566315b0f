use Rattle.std.proofs.Common.{take}
use Rattle.tmpl_report.specs.computed.Inferred.{AreRead}
use Rattle.tmpl_report.proofs.infer.infer_from.Given as goal

abbrev pub invariant-loop-file : goal.invariant-loop-file
invariant-loop-file l = AreRead (take l.file-index l.files) l.findings l.samples.items
