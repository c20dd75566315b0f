-- A machine that reads bytes, from a configuration to the next.
use Rattle.std.specs.Prelude.{ℕ, ◌+◌, Bool, List, [], ◌∷◌, Option, Some, None, option_map, if◌then◌else◌}

-- the place after a step, if there is one, or the place of the step
abbrev pub after_step : {C : Type 0} → (C → Option ℕ) → Option C → Option ℕ
after_step read None = Some 0
after_step read (Some c) = option_map (λ n. n + 1) (read c)

-- where a text ceases to be one that the machine accepts from a configuration: the place of the byte that has no step, or the
-- end of a text that may not end there
unfoldable pub mistake : {C : Type 0} → (C → ℕ → Option C) → (C → Bool) → C → List ℕ → Option ℕ
mistake step ends c [] = if ends c then None else Some 0
mistake step ends c (b ∷ bs) = after_step (λ d. mistake step ends d bs) (step c b)
