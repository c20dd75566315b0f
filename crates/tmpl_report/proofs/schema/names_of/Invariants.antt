use Rattle.std.proofs.Common.{◌≡◌, map, take}
use Rattle.tmpl_report.proofs.schema.names_of.Given as goal

abbrev pub invariant-loop-name : goal.invariant-loop-name
invariant-loop-name l = l.names.items ≡ map (λ name. name.now) (take l.name-index l.given)
