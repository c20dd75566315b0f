use Rattle.std.proofs.Common.{IfSome, take}
use Rattle.std.specs.List.{AllByRecursion}
use Rattle.serde_json.specs.View.{view, members_view}
use Rattle.tmpl_values.specs.Json.{tree_entries}
use Rattle.tmpl_json_schema.specs.Document.{HasKey}
use Rattle.tmpl_json_schema.proofs.conform.has_all.Given as goal

abbrev pub invariant-loop-name : goal.invariant-loop-name
invariant-loop-name l =
    AllByRecursion (λ name. IfSome (tree_entries (members_view l.members.entries)) (λ es. HasKey es (view name))) (take l.name-index l.name-items)
