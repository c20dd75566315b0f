-- For `quoted_len` and `through_len`: what stands up to a closing quote.
use Rattle.std.proofs.Common.{arith, ◌≡◌, ℕ, zero, suc, ◌+◌, ◌<◌, Bool, false, List, [], ◌∷◌, ◌++◌, Option, Some, None, refl, length, take, drop, nat_eq}
use Rattle.std.proofs.lemmas.Bool.{false_from_ne_true}
use Rattle.memchr.specs.Find.{Nowhere, Passes, is_byte}
use Rattle.tmpl_lex.specs.computed.Quoted.{through, quoted_front}

-- ---- the next such byte

pub through-none : (q : ℕ) (bs : List ℕ) → Nowhere (Passes (is_byte q) bs) 0 (length bs) → through q bs ≡ None
through-none q [] none = refl
through-none q (b ∷ bs) none =
    simp (
      false_from_ne_true (nat_eq b q) (none 0 (omega arith) (omega arith)),
      through-none q bs (λ k low high. none (suc k) (omega arith) (omega arith)),
    )

pub through-some : (q : ℕ) (bs : List ℕ) (k : ℕ) → k < length bs → Nowhere (Passes (is_byte q) bs) 0 k → Passes (is_byte q) bs k
    → through q bs ≡ Some (take (k + 1) bs)
through-some q [] k h none here = absurd (omega arith)
through-some q (b ∷ bs) zero h none here = simp here
through-some q (b ∷ bs) (suc k) h none here =
    let next : suc k + 1 ≡ suc (k + 1) = omega arith in
    simp (
      false_from_ne_true (nat_eq b q) (none 0 (omega arith) (omega arith)),
      next,
      through-some q bs k (omega arith) (λ j low high. none (suc j) (omega arith) (omega arith)) here,
    )

-- ---- the next quote that no backslash escapes

-- more bytes before what is found further on
abbrev pub after : List ℕ → Option (List ℕ) → Option (List ℕ)
after front None = None
after front (Some bs) = Some (front ++ bs)

-- the first bytes hold no end, and after them one is escaped or not
pub record IsOpen (q : ℕ) (bs : List ℕ) (i : ℕ) (escaped : Bool) : Type 0 where
  pub same : quoted_front q false bs ≡ after (take i bs) (quoted_front q escaped (drop i bs))

pub ruleset finds = (through-none, through-some)
