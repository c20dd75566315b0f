use Rattle.std.proofs.Common.{IfSome}
use Rattle.tmpl_json_schema.specs.Permission.{Explains}
use Rattle.tmpl_json_schema.proofs.provenance.Document.permission.Given as goal

abbrev pub invariant-loop-place : goal.invariant-loop-place
invariant-loop-place l = IfSome l.only (Explains l.gap)
