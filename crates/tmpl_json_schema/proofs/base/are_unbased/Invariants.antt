use Rattle.std.proofs.Common.{◌≡◌, false}
use Rattle.std.specs.List.{AllByRecursion}
use Rattle.serde_json.specs.View.{view}
use Rattle.tmpl_json_schema.specs.Document.{has_base}
use Rattle.tmpl_json_schema.proofs.base.are_unbased.Given as goal

abbrev pub invariant-loop-name : goal.invariant-loop-name
invariant-loop-name l = AllByRecursion (λ x. has_base l.key (view x.1.now) ≡ false) l.yielded
