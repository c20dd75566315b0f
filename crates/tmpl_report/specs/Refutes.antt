-- What follows where a failure is right.
use Rattle.std.specs.Prelude.{Option}
use Rattle.tmpl_meaning.specs.declared.missing_key.MissingKey.{MissingKey}
use Rattle.tmpl_schema.specs.Safe.{Covers}
use Rattle.tmpl_schema.specs.declared.failure.Doubt.{Doubt}
use Rattle.tmpl_report.specs.Safe.{NeverFailsOver}
use Rattle.tmpl_report.specs.declared.samples.failing.Failure.{Failure}
use Rattle.tmpl_report.specs.Failing.{Asked, IsRight}

-- of a template it is not so that it never fails over the schema, by the modes that are asked for
abbrev pub FailureRefutes : Type 0
FailureRefutes = (mode : Option MissingKey) (asked : Asked) (doubt : Doubt) (failure : Failure)
    → Covers mode asked.rules.missing_key → IsRight asked doubt failure
    → ¬ (NeverFailsOver asked.schema mode asked.stops asked.set asked.name)
