-- For `number`, which reads a width: a number of four digits is small, so no sum wraps.
use Rattle.std.proofs.Common.{ℕ, zero, suc, ◌+◌, ◌*◌, ◌<◌, ◌≤◌, arith}

-- the most that this many bytes write, whether they are digits or not
abbrev pub most : ℕ → ℕ
most zero = 0
most (suc i) = 10 * most i + 207

pub most_few : (i : ℕ) → i < 4 → most i ≤ 22977
most_few zero h = omega arith
most_few (suc zero) h = omega arith
most_few (suc (suc zero)) h = omega arith
most_few (suc (suc (suc zero))) h = omega arith
most_few (suc (suc (suc (suc i)))) h = absurd (omega arith)
