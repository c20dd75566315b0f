use Rattle.serde_json.specs.View.{view}
use Rattle.serde_json.proofs.Views.{view-Array}
use Rattle.tmpl_values.specs.Json.{tree_value}
use Rattle.tmpl_json_schema.specs.Document.{IsConstant}
use Rattle.tmpl_json_schema.proofs.MeetLemmas.{some-item}
use Rattle.tmpl_json_schema.proofs.conform.is_among.Goals as goal

pub returns-then-is_constant : goal.returns-then-is_constant
returns-then-is_constant c = λ _.
    let is = c.in-Array.is in
    let items = c.deref-one-items.ensures.value in
    rw (is, view-Array c.in-Array.values, ← items)
    (some-item (λ d v. IsConstant v d) (tree_value (view c.args.value.now)) c.deref-one-items.result.now c.loop-one.one-index c.one-item.result
    c.loop-one-test.true c.one-item.is (c.is_constant.ensures c.if-is_constant.true))
