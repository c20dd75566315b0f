-- For `add_escaped`: a text is escaped byte by byte, though a run of plain bytes waits and is added at once.
use Rattle.std.proofs.Common.{◌≡◌, ◌∙◌, ℕ, suc, ◌+◌, ◌-◌, ◌<◌, ◌≤◌, List, [], ◌∷◌, ◌++◌, length, get_or, take, drop}
use Rattle.std.proofs.Common.{slice_range, length-drop, sym, ap, append_assoc, arith}
use Rattle.std.specs.List.{flat_map}
use Rattle.std.proofs.lemmas.List.{at_drop_more}
use Rattle.std.proofs.lemmas.Grind.{common_steps}
use Rattle.std.proofs.Math.Seq.{take-suc}

-- one byte more in the run
pub slice_range-suc : (bs : List ℕ) (start i : ℕ) → start ≤ i → i < length bs → slice_range bs start (i + 1) ≡ slice_range bs start i ++ get_or bs i 0 ∷ []
slice_range-suc bs start i s h =
    let n : i + 1 - start ≡ suc (i - start) = omega arith in
    let within : i - start < length (drop start bs) = omega (arith, length-drop start bs) in
    let there : get_or (drop start bs) (i - start) 0 ≡ get_or bs i 0 = grind (arith, common_steps) in
    ap (λ k. take k (drop start bs)) n ∙ take-suc (drop start bs) (i - start) 0 within ∙ ap (λ b. take (i - start) (drop start bs) ++ b ∷ []) there

-- an empty run
pub slice_range-nil : (bs : List ℕ) (i : ℕ) → slice_range bs i i ≡ []
slice_range-nil bs i = ap (λ k. take k (drop i bs)) {x = i - i} {y = 0} (omega arith)

module _ (f : ℕ → List ℕ) (bs : List ℕ) (start i : ℕ) (front all : List ℕ) (so_far : front ++ (slice_range bs start i ++ flat_map f (drop i bs)) ≡ all) where
  -- a byte that stands for itself
  pub flat_map-plain : start ≤ i → i < length bs → get_or bs i 0 ∷ [] ≡ f (get_or bs i 0)
      → front ++ (slice_range bs start (i + 1) ++ flat_map f (drop (i + 1) bs)) ≡ all
  flat_map-plain s h plain =
      let b : ℕ = get_or bs i 0 in
      rw (
        slice_range-suc bs start i s h,
        plain,
        append_assoc (slice_range bs start i) (f b) (flat_map f (drop (i + 1) bs)),
        sym (at_drop_more (flat_map f) bs i 0 h),
      ) so_far

  -- a byte that is replaced
  pub flat_map-escaped : i < length bs → (text : List ℕ) → text ≡ f (get_or bs i 0)
      → ((front ++ slice_range bs start i) ++ text) ++ (slice_range bs (i + 1) (i + 1) ++ flat_map f (drop (i + 1) bs)) ≡ all
  flat_map-escaped h text is =
      let rest : List ℕ = flat_map f (drop (i + 1) bs) in
      rw (
        slice_range-nil bs (i + 1),
        append_assoc (front ++ slice_range bs start i) text rest,
        append_assoc front (slice_range bs start i) (text ++ rest),
        is,
        sym (at_drop_more (flat_map f) bs i 0 h),
      ) so_far
