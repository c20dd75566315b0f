use Rattle.std.proofs.Common.{IfSome, take}
use Rattle.std.specs.List.{AllByRecursion}
use Rattle.serde_json.specs.View.{view}
use Rattle.tmpl_json_schema.specs.Document.{referent}
use Rattle.tmpl_json_schema.specs.Keywords.{IsKnown}
use Rattle.tmpl_json_schema.proofs.schema.are_known_at.Given as goal

abbrev pub invariant-loop-definition : goal.invariant-loop-definition
invariant-loop-definition l = AllByRecursion (λ d. IfSome (referent d.name (view l.root)) IsKnown) (take l.definition-index l.definitions)
