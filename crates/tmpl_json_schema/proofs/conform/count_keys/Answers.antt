use Rattle.serde_json.proofs.Views.{view-Object}
use Rattle.tmpl_json_schema.proofs.MeetLemmas.{sorted-apart}
use Rattle.tmpl_json_schema.proofs.conform.count_keys.Goals as goal

pub returns-in-Object : goal.returns-in-Object
returns-in-Object c = let is = c.in-Object.is in rw (is, view-Object c.in-Object.members) (sorted-apart c.in-Object.members.entries c.len-count.ensures.ordered)
