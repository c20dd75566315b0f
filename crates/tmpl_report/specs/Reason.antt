-- Which reasons are given for which alarms.
use Rattle.std.specs.Prelude.{◌≡◌, ℕ, List, Option, Some, None, IfSome}
use Rattle.tmpl_shape.specs.declared.cause.Cause.{Cause}
use Rattle.tmpl_shape.specs.declared.cause.Cause.TheVariants as cause
use Rattle.tmpl_schema.specs.declared.failure.Doubt.{Doubt}
use Rattle.tmpl_json_schema.specs.Permission.{Sort, absence, few, kind, sort_of}
use Rattle.tmpl_report.specs.declared.reasons.reason.Reason.{Reason}
use Rattle.tmpl_problems.specs.Position.{IsLine}

-- what a document lets through of which a cause speaks; none where there is no reason to give
abbrev pub sort_for : Cause → Option Sort
sort_for (cause.Absent name) = Some absence
sort_for (cause.NoFields name word) = Some kind
sort_for (cause.Range word) = Some kind
sort_for (cause.FewItems func count) = Some few
sort_for _ = None

-- it is a reason for that, at a line of the document
pub record IsReason (bytes : List ℕ) (sort : Option Sort) (reason : Reason) : Type 0 where
  pub why : Some (sort_of reason.why) ≡ sort
  pub line : IsLine bytes reason.line

-- what is found for an alarm, a reason or none
abbrev pub IsTold : List ℕ → Doubt → Option Reason → Type 0
IsTold bytes doubt told = IfSome told (IsReason bytes (sort_for doubt.cause))
