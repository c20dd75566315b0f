use Rattle.std.proofs.Common.{◌∙◌, sym}
use Rattle.serde_json.specs.View.{members_view}
use Rattle.tmpl_json_schema.proofs.MeetLemmas.{key-there, there-by, view-String}
use Rattle.tmpl_json_schema.proofs.conform.has_key.Goals as goal

pub returns-in-String : goal.returns-in-String
returns-in-String c = λ e.
    let is = c.in-String.is in
    let name = c.as_str.ensures.value in
    rw (is, view-String c.in-String.name, ← name)
    (key-there c.as_str.result.now (members_view c.args.members.now.entries)
    (there-by c.as_str.result.now c.args.members.now.entries c.get.result c.get.ensures.value (sym c.is_some.ensures ∙ e)))
