use Rattle.std.proofs.Common.{◌≡◌, codes}
use Rattle.serde_json.specs.View.{view, items_view}
use Rattle.tmpl_values.specs.Value.{sequence}
use Rattle.tmpl_values.specs.Json.{tree_items}
use Rattle.tmpl_json_schema.specs.Document.{HasItems}
use Rattle.tmpl_json_schema.proofs.MeetLemmas.{least-items, weaker}
use Rattle.tmpl_json_schema.proofs.conform.judge_list.Goals as goal

pub returns-in-minItems : goal.returns-in-minItems
returns-in-minItems c = λ e.
    weaker (λ vs. HasItems (sequence vs) (view c.args.rule.now)) (λ vs. c.args.keyword.now ≡ codes "minItems" → HasItems (sequence vs) (view c.args.rule.now))
    (tree_items (items_view c.args.items.now)) (least-items (view c.args.rule.now) c.args.items.now (c.judge_least.ensures e)) (λ vs p _. p)
