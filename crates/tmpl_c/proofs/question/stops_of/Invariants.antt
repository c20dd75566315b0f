use Rattle.std.proofs.Common.{◌≡◌, map, take}
use Rattle.tmpl_c.proofs.question.stops_of.Given as goal

abbrev pub invariant-loop-name : goal.invariant-loop-name
invariant-loop-name l = map (λ s. s.now) l.stops.items ≡ map (λ n. n.bytes.now) (take l.name-index l.names)
