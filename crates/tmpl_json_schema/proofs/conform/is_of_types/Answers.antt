use Rattle.serde_json.specs.View.{view}
use Rattle.serde_json.proofs.Views.{view-Array}
use Rattle.tmpl_values.specs.Json.{tree_value}
use Rattle.tmpl_json_schema.specs.Document.{IsNameOfType}
use Rattle.tmpl_json_schema.proofs.MeetLemmas.{some-item, view-String}
use Rattle.tmpl_json_schema.proofs.conform.is_of_types.Goals as goal

pub returns-then-is_of_type : goal.returns-then-is_of_type
returns-then-is_of_type c = λ _.
    let is = c.in-Array.is in
    let items = c.deref-name-items.ensures.value in
    let named = c.in-String-name.is in
    let name = c.as_str-in-String-name.ensures.value in
    rw (is, view-Array c.in-Array.names, ← items)
    (some-item (λ d v. IsNameOfType v d) (tree_value (view c.args.value.now)) c.deref-name-items.result.now c.loop-name.name-index c.name-item.result
    c.loop-name-test.true c.name-item.is (rw (named, view-String c.in-String-name.name, ← name) (c.is_of_type-in-String-name.ensures c.if-is_of_type.true)))
