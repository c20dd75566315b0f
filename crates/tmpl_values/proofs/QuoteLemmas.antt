-- For `put_inside`, `plain_len` and `plain_char`: the inside of a quote goes on rune by rune.
use Rattle.std.proofs.Common.{◌≡◌, ◌∙◌, ℕ, Bool, suc, ◌<◌, List, [], ◌∷◌, ◌++◌, ◌≤◌, length, drop, take, ap, sym, arith}
use Rattle.std.proofs.Common.{◌-◌, ◌+◌, append_assoc, true, false, ◌==◌, Option, Some, None, refl}
use Rattle.std.specs.Option.{is_some}
use Rattle.std.specs.List.{flat_map}
use Rattle.std.specs.Char.{len_utf8, encode_utf8}
use Rattle.std.proofs.Math.Seq.{take-add}
use Rattle.std.proofs.lemmas.List.{drop-drop}
use Rattle.std.proofs.lemmas.Str.{len_utf8_bounds, length-encode}
use Rattle.tmpl_values.specs.Rune.{char, byte}
use Rattle.tmpl_values.specs.computed.Rune.{first_rune}
use Rattle.tmpl_values.specs.Quote.{spelling, letters, letter_of}
use Rattle.tmpl_values.specs.computed.Quote.{inside}
use Rattle.tmpl_values.proofs.RuneLemmas.{take-first_rune}
use Rattle.tmpl_values.proofs.RunesLemmas.{runes-first, runes-nil}

pub inside-char : (p : ℕ → Bool) (bs : List ℕ) (c : ℕ) → 0 < length bs → first_rune bs ≡ char c
    → inside p bs ≡ spelling p (char c) ++ inside p (drop (len_utf8 c) bs)
inside-char p bs c h is =
    let n : suc (length (encode_utf8 c) - 1) ≡ len_utf8 c = omega (arith, len_utf8_bounds c, length-encode c) in
    ap (flat_map (spelling p)) (runes-first bs (char c) h is) ∙ ap (λ k. spelling p (char c) ++ inside p (drop k bs)) n

pub inside-byte : (p : ℕ → Bool) (bs : List ℕ) (b : ℕ) → 0 < length bs → first_rune bs ≡ byte b → inside p bs ≡ spelling p (byte b) ++ inside p (drop 1 bs)
inside-byte p bs b h is = ap (flat_map (spelling p)) (runes-first bs (byte b) h is)

pub inside-nil : (p : ℕ → Bool) (bs : List ℕ) → length bs ≤ 0 → inside p bs ≡ []
inside-nil p [] h = ap (flat_map (spelling p)) runes-nil
inside-nil p (b ∷ bs) h = absurd (omega arith)

-- a character that is spelled as itself
pub inside-plain : (p : ℕ → Bool) (bs : List ℕ) (c : ℕ) → 0 < length bs → first_rune bs ≡ char c → spelling p (char c) ≡ encode_utf8 c
    → inside p bs ≡ take (len_utf8 c) bs ++ inside p (drop (len_utf8 c) bs)
inside-plain p bs c h is plain =
    inside-char p bs c h is ∙ ap (λ s. s ++ inside p (drop (len_utf8 c) bs)) (plain ∙ sym (take-first_rune bs c is))

-- a plain run and a plain character after it are a plain run
pub inside-plain_run : (p : ℕ → Bool) (bs : List ℕ) (n m : ℕ) → inside p bs ≡ take n bs ++ inside p (drop n bs)
    → inside p (drop n bs) ≡ take m (drop n bs) ++ inside p (drop m (drop n bs))
    → inside p bs ≡ take (n + m) bs ++ inside p (drop (n + m) bs)
inside-plain_run p bs n m run more =
    run ∙ ap (λ s. take n bs ++ s) more ∙
    sym (append_assoc (take n bs) (take m (drop n bs)) (inside p (drop m (drop n bs)))) ∙
    ap (λ s. s ++ inside p (drop m (drop n bs))) (sym (take-add n m bs)) ∙
    ap (λ r. take (n + m) bs ++ inside p r) (drop-drop m n bs)

-- a character that prints and has no letter is spelled as itself
pub spelling-plain : (p : ℕ → Bool) (c : ℕ) → letter_of c letters ≡ None → p c ≡ true → spelling p (char c) ≡ encode_utf8 c
spelling-plain p c IsPut-nil prints = rw (IsPut-nil, prints) refl

-- what stands before, and a piece of the rest
pub append-more : (all front now piece later : List ℕ) → all ≡ front ++ now → now ≡ piece ++ later → all ≡ (front ++ piece) ++ later
append-more all front now piece later so_far cut = so_far ∙ ap (λ t. front ++ t) cut ∙ sym (append_assoc front piece later)

pub length-not_empty : (bs : List ℕ) (b : Bool) → b ≡ (length bs == 0) → b ≡ false → 0 < length bs
length-not_empty [] b e h = cc
length-not_empty (x ∷ xs) b e h = omega arith

pub is_some-none : (o : Option ℕ) → is_some o ≡ false → o ≡ None
is_some-none None h = refl
is_some-none (Some e) h = cc
