use Rattle.std.proofs.Common.{◌≡◌, false}
use Rattle.std.specs.List.{AllByRecursion}
use Rattle.serde_json.specs.View.{view}
use Rattle.tmpl_json_schema.specs.Document.{is_named}
use Rattle.tmpl_json_schema.proofs.reference.first_named.Given as goal

abbrev pub invariant-loop-key : goal.invariant-loop-key
invariant-loop-key l = AllByRecursion (λ x. is_named l.draft l.name (view x.1.now) ≡ false) l.yielded
