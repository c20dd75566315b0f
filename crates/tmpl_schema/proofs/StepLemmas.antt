-- For code that looks for the variables at the head of a range in rounds: what is computed where a round is left.
use Rattle.std.proofs.Common.{◌≡◌, ◌-◌, ℕ, zero, suc, Option, refl, sym, subst, arith}
use Rattle.tmpl_shape.specs.computed.Shapes.{Base}
use Rattle.tmpl_schema.specs.computed.Check.{Known, settle_known, settle_soon, settle_step}

-- what holds of a number and one more holds where that is not zero
by_step : (P : ℕ → ℕ → Type 0) → ((n : ℕ) → P (suc n) n) → (n : ℕ) → (n ≡ 0 → ⊥) → P n (n - 1)
by_step P f zero e = absurd (e refl)
by_step P f (suc n) e = let same : suc n - 1 ≡ n = omega arith in subst (λ i. P (suc n) i) (sym same) (f n)

pub settle_known-next : (base : Base) (n : ℕ) (turn : Known → Option Known) (ks : Known) → (n ≡ 0 → ⊥)
    → settle_known base n turn ks ≡ settle_step base (settle_known base (n - 1) turn) turn ks
settle_known-next base n turn ks e = by_step (λ i j. settle_known base i turn ks ≡ settle_step base (settle_known base j turn) turn ks) (λ i. refl) n e

pub soon-settle_known : (base : Base) (turn : Known → Option Known) (ks : Known) → settle_soon base turn ks ≡ settle_known base 12 turn ks
unfolding settle_soon
soon-settle_known base turn ks = refl

pub ruleset rounds = (settle_known-next)
