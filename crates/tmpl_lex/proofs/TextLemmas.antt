-- For the law `one_cut`: what trim markers leave of a text, as it is computed and as the relation says.
use Rattle.std.proofs.Common.{arith, ◌≡◌, ◌∙◌, ℕ, ◌-◌, Bool, true, false, List, [], ◌++◌, refl, sym, ap, subst, length, take, drop, append_assoc}
use Rattle.std.proofs.Common.{length-append, length-drop, reverse}
use Rattle.std.specs.List.{prefix_len, suffix_len}
use Rattle.std.proofs.lemmas.List.{take_all, take-append-drop, reverse-append, reverse-reverse, length-reverse}
use Rattle.std.proofs.Math.ListN.{drop_of_length-le}
use Rattle.std.proofs.Math.Seq.{take-append_seam, drop-append_seam}
use Rattle.tmpl_lex.specs.Bytes.{is_space}
use Rattle.tmpl_lex.specs.Piece.{Piece}
use Rattle.tmpl_lex.specs.Text.{Trims, keeps, trims, Texts, trimmed}
use Rattle.tmpl_lex.specs.computed.Text.{leading, trailing, without_leading, without_trailing, texts}
use Rattle.tmpl_lex.proofs.PartLemmas.{run-length, taken-run}

-- ---- what is computed is so

front-made : (right : Bool) (bs : List ℕ) → Trims right (take (leading right bs) bs) (without_leading right bs)
front-made true bs = trims (taken-run is_space bs)
front-made false bs = keeps

-- the two sides of the place before the white space at the end
at-end : (bs : List ℕ) → let n = length bs - suffix_len is_space bs in let k = suffix_len is_space bs in
    (take n bs ≡ reverse (drop k (reverse bs))) × (drop n bs ≡ reverse (take k (reverse bs)))
at-end bs =
    let k = suffix_len is_space bs in
    let kept = reverse (drop k (reverse bs)) in
    let taken = reverse (take k (reverse bs)) in
    let whole : bs ≡ kept ++ taken =
    sym (reverse-reverse bs) ∙ ap reverse (sym (take-append-drop k (reverse bs))) ∙ reverse-append (take k (reverse bs)) (drop k (reverse bs)) in
    let count : length bs - k ≡ length kept = omega (arith, length-reverse (drop k (reverse bs)), length-drop k (reverse bs), length-reverse bs) in (
      ap (take (length bs - k)) whole ∙ ap (λ n. take n (kept ++ taken)) count ∙ take-append_seam kept taken,
      ap (drop (length bs - k)) whole ∙ ap (λ n. drop n (kept ++ taken)) count ∙ drop-append_seam kept taken,
    )

end-made : (left : Bool) (bs : List ℕ)
    → Trims left (reverse (drop (length bs - trailing left bs) bs)) (reverse (take (length bs - trailing left bs) bs))
end-made true bs =
    let k = suffix_len is_space bs in
    let sides = at-end bs in
    rw (sides.0, sides.1, reverse-reverse (drop k (reverse bs)), reverse-reverse (take k (reverse bs))) (trims (taken-run is_space (reverse bs)))
end-made false bs =
    let all : take (length bs - 0) bs ≡ bs = take_all (length bs - 0) bs (omega arith) in
    let none : drop (length bs - 0) bs ≡ [] = drop_of_length-le bs (omega arith) in
    rw (all, none) keeps

pub texts-made : (right left : Bool) (line : ℕ) (bs : List ℕ) → Texts right left line bs (texts right left line bs)
texts-made right left line bs =
    let front : List ℕ = take (leading right bs) bs in
    let mid : List ℕ = without_leading right bs in
    let kept : List ℕ = without_trailing left mid in
    let end : List ℕ = drop (length mid - trailing left mid) mid in
    let both : kept ++ end ≡ mid = take-append-drop (length mid - trailing left mid) mid in
    let whole : front ++ kept ++ end ≡ bs = append_assoc front kept end ∙ ap (λ l. front ++ l) both ∙ take-append-drop (leading right bs) bs in
    subst (λ (xs : List ℕ). Texts right left line xs (texts right left line bs)) whole (trimmed kept end (rw both (front-made right bs)) (end-made left mid))

-- ---- and nothing else is

front-len : {right : Bool} {front rest : List ℕ} → Trims right front rest → leading right (front ++ rest) ≡ length front
front-len keeps = refl
front-len (trims {taken = taken} {kept = kept} run) = run-length is_space taken kept run

end-len : (left : Bool) (kept end : List ℕ) → Trims left (reverse end) (reverse kept) → length (kept ++ end) - trailing left (kept ++ end) ≡ length kept
end-len false kept end h = omega (arith, front-len h, length-reverse end, length-append kept end)
end-len true kept end h =
    omega (arith, front-len h, ap (prefix_len is_space) (reverse-append kept end), length-reverse end, length-append kept end)

pub texts-only : {right left : Bool} {line : ℕ} {bs : List ℕ} {ps : List Piece} → Texts right left line bs ps → ps ≡ texts right left line bs
texts-only (trimmed {right = right} {left = left} {line = line} {front = front} kept end f e) =
    grind (arith, append_assoc, drop-append_seam, end-len, front-len, take-append_seam)
