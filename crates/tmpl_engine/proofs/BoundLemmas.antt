-- For the law `bounded_turns`: what is left of a run, which each turn lessens, is at its start no more than the bound.
use Rattle.std.proofs.Common.{arith, inl, inr, ◌≡◌, ◌+◌, ◌-◌, ◌*◌, ◌<◌, ◌≤◌, ℕ, zero, suc, length, refl, ap}
use Rattle.std.proofs.Math.Nat.{mul-le-mul_right, suc-mul}
use Rattle.tmpl_meaning.specs.Meaning.{Ran}
use Rattle.tmpl_engine.specs.State.{Plan, State, starting}
use Rattle.tmpl_engine.specs.Machine.{Turn, ended, goes, next_of, stuck}
use Rattle.tmpl_engine.specs.Ends.{Comes, RunsTo}
use Rattle.tmpl_engine.specs.Laws.{Lessens}
use Rattle.tmpl_engine.specs.Laws.{TurnsAreBounded, most_turns}
use Rattle.tmpl_engine.proofs.DoneLemmas.{each-lessens, in-code, next-depth}

-- steps and open templates, each for all of the code, and places within it
abbrev rest : ℕ → State → ℕ
rest size s = (2 * s.left + s.depth) * size + (size - s.place)

fewer : (size : ℕ) (s t : State) → s.place < size → 2 * t.left + t.depth < 2 * s.left + s.depth → rest size t < rest size s
fewer size s t within e =
    let m : suc (2 * t.left + t.depth) * size ≤ (2 * s.left + s.depth) * size = mul-le-mul_right size e in
    let d : suc (2 * t.left + t.depth) * size ≡ (2 * t.left + t.depth) * size + size = suc-mul (2 * t.left + t.depth) size in
    omega arith

less : (size : ℕ) (s t : State) → s.place < size → t.depth ≤ suc s.depth → Lessens s t → rest size t < rest size s
less size s t within deep (inl left) = fewer size s t within (omega arith)
less size s t within deep (inr (left, inl depth)) = fewer size s t within (omega arith)
less size s t within deep (inr (left, inr (depth, place))) =
    let same : (2 * t.left + t.depth) * size ≡ (2 * s.left + s.depth) * size = ap (λ n. n * size) (omega arith) in omega arith

module _ (plan : Plan) (room : ℕ) (f : Ran) where
  abbrev left_at : State → ℕ
  left_at s = rest (length plan.code) s

  on-turn : (n m : ℕ) (s : State) → s.place < length plan.code → left_at s ≤ suc m
      → ((t : State) → RunsTo plan room n t f → left_at t ≤ m → RunsTo plan room m t f)
      → (u : Turn) → next_of plan s ≡ u → Comes (λ t. RunsTo plan room n t f) u f → Comes (λ t. RunsTo plan room m t f) u f
  on-turn n m s within bound later (goes t) is h =
      let fewer : left_at t < left_at s = less (length plan.code) s t within (next-depth plan s t is) (each-lessens plan s t is) in
      later t h (omega arith)
  on-turn n m s within bound later (ended r) is h = h
  on-turn n m s within bound later stuck is h = h

  within-rest : (n m : ℕ) (s : State) → RunsTo plan room n s f → left_at s ≤ m → RunsTo plan room m s f
  within-rest zero m s h bound = absurd h
  within-rest (suc n) zero s h bound = absurd (let within = (in-code plan room f s (suc n, h)).2 in omega arith)
  within-rest (suc n) (suc m) s h bound =
      (h.0, on-turn n m s (in-code plan room f s (suc n, h)).2 bound (λ t. within-rest n m t) (next_of plan s) refl h.1)

pub bounded_turns : TurnsAreBounded
bounded_turns plan size number start dot end h =
    let s = starting plan number start dot in
    within-rest plan size end h.0 (most_turns plan) s h.1 (start-within plan.rules.step_limit (length plan.code) start)
  where
    start-within : (steps size start : ℕ) → (2 * steps + 1) * size + (size - start) ≤ 2 * size * (steps + 1)
    start-within steps size start = omega arith
