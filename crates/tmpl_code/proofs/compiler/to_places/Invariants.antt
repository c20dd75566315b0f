use Rattle.std.proofs.Common.{◌≡◌, ◌++◌, ◌-◌, drop, map, take}
use Rattle.tmpl_code.proofs.compiler.to_places.Given as goal

abbrev pub invariant-loop-count : goal.invariant-loop-count
invariant-loop-count l =
    let xs = l.initial.counts in
    l.counts ≡ map (λ n. l.size - n) (take l.count-index xs) ++ drop l.count-index xs
