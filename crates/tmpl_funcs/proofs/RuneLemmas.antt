-- For `rune_count` and `front`: a text is counted and cut rune by rune.
use Rattle.std.proofs.Common.{◌≡◌, ◌∙◌, ℕ, zero, suc, ◌-◌, ◌<◌, ◌≤◌, List, [], ◌∷◌, ◌++◌, length, take, drop, refl, sym}
use Rattle.std.proofs.Common.{ap, append_assoc, append-nil, arith, length-append}
use Rattle.std.specs.List.{flat_map}
use Rattle.std.specs.Char.{len_utf8, encode_utf8}
use Rattle.std.proofs.Math.Seq.{take-append_seam}
use Rattle.std.proofs.lemmas.List.{take-append-drop}
use Rattle.std.proofs.lemmas.Str.{len_utf8_bounds, length-encode}
use Rattle.tmpl_values.specs.Rune.{Rune, bytes_in}
use Rattle.tmpl_values.specs.Runes.{runes}
use Rattle.tmpl_values.specs.computed.Rune.{first_rune, tail_len}
use Rattle.tmpl_values.specs.computed.Runes.{Front, encoding, lone, front}
use Rattle.tmpl_values.proofs.RunesLemmas.{runes-first, runes-nil}

bytes_in-Front : (b : ℕ) (bs : List ℕ) (r : Rune) → Front (b ∷ bs) r → bytes_in r ≡ take (suc (tail_len r)) (b ∷ bs)
bytes_in-Front b bs _ lone = refl
bytes_in-Front b bs _ (encoding c s e) =
    let n : suc (length (encode_utf8 c) - 1) ≡ len_utf8 c = omega (arith, len_utf8_bounds c, length-encode c) in
    sym (ap (λ k. take k (b ∷ bs)) n ∙ e)

-- the first rune's bytes are those at the front
pub bytes_in-front : (bs : List ℕ) → 0 < length bs → bytes_in (first_rune bs) ≡ take (suc (tail_len (first_rune bs))) bs
bytes_in-front [] h = absurd (omega arith)
bytes_in-front (b ∷ bs) h = bytes_in-Front b bs (first_rune (b ∷ bs)) (front (b ∷ bs))

pub runes-none : (bs : List ℕ) → length bs ≤ 0 → runes bs ≡ []
runes-none [] h = runes-nil
runes-none (b ∷ bs) h = absurd (omega arith)

-- how many runes there are, by the first
pub count-first : (bs rest : List ℕ) → 0 < length bs → rest ≡ drop (suc (tail_len (first_rune bs))) bs → length (runes bs) ≡ suc (length (runes rest))
count-first bs rest h is = ap length (runes-first bs (first_rune bs) h refl) ∙ ap (λ r. suc (length (runes r))) (sym is)

-- the bytes of the first runes
abbrev pub first_bytes : ℕ → List ℕ → List ℕ
first_bytes n bs = flat_map bytes_in (take n (runes bs))

first_bytes-more : (n k : ℕ) (bs rest : List ℕ) → n ≡ suc k → 0 < length bs → rest ≡ drop (suc (tail_len (first_rune bs))) bs
    → first_bytes n bs ≡ take (suc (tail_len (first_rune bs))) bs ++ first_bytes k rest
first_bytes-more n k bs rest one h is =
    rw (one, is, runes-first bs (first_rune bs) h refl)
    (ap (λ t. t ++ first_bytes k (drop (suc (tail_len (first_rune bs))) bs)) (bytes_in-front bs h))

-- a text of which some runes are cut off: what is taken, and how many are still to be taken of the rest
pub record IsCutting (text : List ℕ) (count : ℕ) (rest : List ℕ) (left : ℕ) : Type 0 where
  pub taken : List ℕ
  pub split : text ≡ taken ++ rest
  pub wanted : first_bytes count text ≡ taken ++ first_bytes left rest

pub IsCutting-more : (text : List ℕ) (count : ℕ) (rest : List ℕ) (left : ℕ) (rest' : List ℕ) → IsCutting text count rest left → 0 < left
    → 0 < length rest → rest' ≡ drop (suc (tail_len (first_rune rest))) rest
    → IsCutting text count rest' (left - 1)
IsCutting-more text count rest left rest' so_far some there is =
    let n : ℕ = suc (tail_len (first_rune rest)) in record {
      taken = so_far.taken ++ take n rest;
      split = rw (is, append_assoc so_far.taken (take n rest) (drop n rest), take-append-drop n rest) so_far.split;
      wanted =
          rw (
            append_assoc so_far.taken (take n rest) (first_bytes (left - 1) rest'),
            sym (first_bytes-more left (left - 1) rest rest' (omega arith) there is),
          ) so_far.wanted;
    }

cut-end : (text : List ℕ) (count : ℕ) (rest : List ℕ) (left : ℕ) (c : IsCutting text count rest left) → first_bytes left rest ≡ []
    → take (length text - length rest) text ≡ first_bytes count text
cut-end text count rest left c past =
    let n : length text - length rest ≡ length c.taken = omega (arith, ap length c.split, length-append c.taken rest) in
    ap (λ k. take k text) n ∙ ap (take (length c.taken)) c.split ∙ take-append_seam c.taken rest ∙
    sym (c.wanted ∙ ap (λ t. c.taken ++ t) past ∙ append-nil c.taken)

pub cut-full : (text : List ℕ) (count : ℕ) (rest : List ℕ) (left : ℕ) → IsCutting text count rest left → left ≤ 0
    → take (length text - length rest) text ≡ first_bytes count text
cut-full text count rest left c h = cut-end text count rest left c (ap (λ n. first_bytes n rest) {x = left} {y = 0} (omega arith))

take-nil : (n : ℕ) → take {A = Rune} n [] ≡ []
take-nil zero = refl
take-nil (suc n) = refl

pub cut-past : (text : List ℕ) (count : ℕ) (rest : List ℕ) (left : ℕ) → IsCutting text count rest left → length rest ≤ 0
    → take (length text - length rest) text ≡ first_bytes count text
cut-past text count rest left c h =
    cut-end text count rest left c (ap (λ rs. flat_map bytes_in (take left rs)) (runes-none rest h) ∙ ap (flat_map bytes_in) (take-nil left))
