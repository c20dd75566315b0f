use Rattle.std.proofs.Common.{◌≡◌, ◌++◌, map}
use Rattle.serde_json.specs.View.{view}
use Rattle.tmpl_json_schema.specs.computed.Inferred.{seen}
use Rattle.tmpl_json_schema.proofs.infer.add_values_of.Given as goal

abbrev pub invariant-loop-value : goal.invariant-loop-value
invariant-loop-value l = seen l.all.items ≡ seen l.initial.all.items ++ map (λ x. view x.1.now) l.yielded
