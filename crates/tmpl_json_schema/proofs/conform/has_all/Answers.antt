use Rattle.serde_json.specs.View.{members_view}
use Rattle.serde_json.proofs.Views.{view-Array}
use Rattle.tmpl_values.specs.Json.{tree_entries}
use Rattle.tmpl_json_schema.proofs.MeetLemmas.{all-taken, keys-there, one-more}
use Rattle.tmpl_json_schema.proofs.conform.has_all.Goals as goal

pub returns : goal.returns
returns c = λ _.
    let is = c.in-Array.is in
    let items = c.deref-name-items.ensures.value in
    rw (is, view-Array c.in-Array.names, ← items)
    (keys-there (tree_entries (members_view c.args.members.now.entries)) c.deref-name-items.result.now
    (all-taken _ c.deref-name-items.result.now c.loop-name.name-index c.loop-name-test.false c.loop-name.invariant))

pub loop-name-preserved : goal.loop-name-preserved
loop-name-preserved c =
    one-more _ c.deref-name-items.result.now c.loop-name.name-index c.name-item.result c.loop-name-test.true c.name-item.is c.loop-name.invariant
    (c.has_key.ensures c.if-not-has_key.false)
