use Rattle.serde_json.specs.View.{view}
use Rattle.tmpl_syntax.specs.View.{set_view}
use Rattle.tmpl_shape.specs.View.{schema_of}
use Rattle.tmpl_report.proofs.SafeLemmas.{over-document}
use Rattle.tmpl_report.proofs.check.check_document.Goals as goal

pub returns-in-Ok-check_schema : goal.returns-in-Ok-check_schema
returns-in-Ok-check_schema c =
    over-document (view c.args.document.now) c.args.mode c.args.stops.now (set_view c.args.set.now) c.args.name.now (schema_of c.in-Ok.schema) c.in-Ok.ensures.draft c.in-Ok.ensures.fits
    c.in-Ok-check_schema.ensures
