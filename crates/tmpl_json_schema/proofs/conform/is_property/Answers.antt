use Rattle.std.proofs.Common.{◌∙◌, ap}
use Rattle.tmpl_json_schema.specs.Document.{in_properties}
use Rattle.tmpl_json_schema.proofs.MeetLemmas.{is-in}
use Rattle.tmpl_json_schema.proofs.conform.is_property.Goals as goal

pub returns-in-Some : goal.returns-in-Some
returns-in-Some c =
    c.is_some.ensures ∙ is-in c.args.name.now c.get-in-Some.result _ c.get-in-Some.ensures ∙ ap (in_properties c.args.name.now) c.in-Some.ensures
