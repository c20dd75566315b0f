-- That a text has runes, and no others: those that are read from left to right.
use Rattle.std.proofs.Common.{◌≡◌, ◌∙◌, ℕ, zero, suc, ◌-◌, ◌<◌, ◌≤◌, ◌&&◌, Bool, true, false, List, [], ◌∷◌, ◌++◌, length, take, drop}
use Rattle.std.proofs.Common.{get_or, bytes_eq, if◌then◌else◌, refl, sym, ap, subst, arith, append-nil, length-append}
use Rattle.std.proofs.Math.Seq.{take-append_seam, drop-append_seam}
use Rattle.std.proofs.lemmas.Bool.{and_parts}
use Rattle.std.proofs.lemmas.List.{take-append-drop, length-take}
use Rattle.std.proofs.lemmas.Slice.Eq.{bytes_eq-Decides}
use Rattle.std.proofs.lemmas.Str.{chars-append, chars_past_char, chars-nil, IsUtf8-encode, length-encode, len_utf8_bounds}
use Rattle.std.specs.Char.{encode_utf8, len_utf8, IsScalar}
use Rattle.std.specs.Str.{chars}
use lib.Utf8.{scalar}
use Rattle.tmpl_values.specs.One.{One}
use Rattle.tmpl_values.specs.Rune.{Rune, char, byte, bytes_in, BeginsNoChar, HasRunes, at_end, a_char, a_byte}
use Rattle.tmpl_values.specs.computed.Rune.{first_rune, runes_read, runes_after, tail_len}

-- the bytes begin with the encoding of this character
abbrev begins_with : ℕ → List ℕ → Bool
begins_with c bs = scalar c && bytes_eq (take (len_utf8 c) bs) (encode_utf8 c)

chars-encode : (c : ℕ) (rest : List ℕ) → IsScalar c → chars (encode_utf8 c ++ rest) ≡ c ∷ chars rest
chars-encode c rest s =
    let one : chars (encode_utf8 c) ≡ c ∷ [] = chars_past_char (encode_utf8 c) [] c (IsUtf8-encode c s) (sym (append-nil (encode_utf8 c)))
    ∙ ap (λ l. c ∷ l) chars-nil in
    chars-append (encode_utf8 c) rest (IsUtf8-encode c s) ∙ ap (λ l. l ++ chars rest) one

begins_with-encode : (c : ℕ) (rest : List ℕ) → IsScalar c → begins_with c (encode_utf8 c ++ rest) ≡ true
begins_with-encode c rest s =
    let front : take (len_utf8 c) (encode_utf8 c ++ rest) ≡ encode_utf8 c = ap (λ n. take n (encode_utf8 c ++ rest)) (sym (length-encode c))
    ∙ take-append_seam (encode_utf8 c) rest in
    rw (s, front) ((bytes_eq-Decides (encode_utf8 c) (encode_utf8 c)).1 refl)

pub first_rune-encode : (c : ℕ) (rest : List ℕ) → IsScalar c → first_rune (encode_utf8 c ++ rest) ≡ char c
unfolding first_rune
first_rune-encode c rest s = rw (chars-encode c rest s, begins_with-encode c rest s) refl

-- ---- the runes of bytes are those bytes

-- what the first rune is
pub data Front (bs : List ℕ) : Rune → Type 0 where
  encoding : (c : ℕ) → IsScalar c → take (len_utf8 c) bs ≡ encode_utf8 c → Front bs (char c)
  lone : Front bs (byte (get_or bs 0 0))

Front-by : (t : Bool) (bs : List ℕ) (c : ℕ) → begins_with c bs ≡ t → Front bs (if t then char c else byte (get_or bs 0 0))
Front-by true bs c h =
    let parts = and_parts (scalar c) _ h in
    encoding c parts.0 ((bytes_eq-Decides (take (len_utf8 c) bs) (encode_utf8 c)).0 parts.1)
Front-by false bs c h = lone

pub front : (bs : List ℕ) → Front bs (first_rune bs)
unfolding first_rune
front bs = Front-by _ bs (get_or (chars bs) 0 0) refl

pub bytes_in-Front : (b : ℕ) (bs : List ℕ) (r : Rune) → Front (b ∷ bs) r → (bytes_in r ++ drop (tail_len r) bs ≡ b ∷ bs) × (tail_len r ≤ length bs)
bytes_in-Front b bs _ lone = (refl, omega arith)
bytes_in-Front b bs _ (encoding c s e) =
    let n : len_utf8 c ≡ suc (len_utf8 c - 1) = omega (arith, len_utf8_bounds c) in rw (length-encode c) (
      ap (λ t. t ++ drop (len_utf8 c - 1) bs) (sym e) ∙ ap (λ k. take (len_utf8 c) (b ∷ bs) ++ drop k (b ∷ bs)) (sym n)
          ∙ take-append-drop (len_utf8 c) (b ∷ bs),
      omega (arith, length-take (len_utf8 c) (b ∷ bs), ap length e, length-encode c, len_utf8_bounds c),
    )

runes_after-drop : (n : ℕ) (bs : List ℕ) → n ≤ length bs → runes_after n bs ≡ runes_after 0 (drop n bs)
runes_after-drop zero bs h = refl
runes_after-drop (suc n) [] h = refl
runes_after-drop (suc n) (b ∷ bs) h = runes_after-drop n bs (omega arith)

-- the first rune, and those after it
pub read-first : (bs : List ℕ) (r : Rune) → 0 < length bs → first_rune bs ≡ r → runes_read bs ≡ r ∷ runes_read (drop (suc (tail_len r)) bs)
unfolding runes_read
read-first [] r h is = absurd (omega arith)
read-first (b ∷ bs) r h is =
    let fits = (bytes_in-Front b bs r (subst (Front (b ∷ bs)) is (front (b ∷ bs)))).1 in
    ap (λ r. r ∷ runes_after (tail_len r) bs) is ∙ ap (λ rs. r ∷ rs) (runes_after-drop (tail_len r) bs fits)

pub read-nil : runes_read [] ≡ []
unfolding runes_read
read-nil = refl

-- where no character is found none begins
pub begins-none : (bs : List ℕ) (b : ℕ) → first_rune bs ≡ byte b → BeginsNoChar bs
begins-none bs b is c rest s e = let both : byte b ≡ char c = sym is ∙ ap first_rune e ∙ first_rune-encode c rest s in cc

step : (b : ℕ) (bs : List ℕ) (r : Rune) (rs : List Rune) → first_rune (b ∷ bs) ≡ r → Front (b ∷ bs) r → HasRunes (drop (tail_len r) bs) rs
    → HasRunes (b ∷ bs) (r ∷ rs)
step b bs _ rs is lone more = a_byte (begins-none (b ∷ bs) b is) more
step b bs _ rs is (encoding c s e) more =
    subst (λ xs. HasRunes xs (char c ∷ rs)) (bytes_in-Front b bs (char c) (encoding c s e)).0 (a_char s more)

runes-from : (n : ℕ) (bs : List ℕ) → n ≤ length bs → HasRunes (drop n bs) (runes_after n bs)
runes-from zero [] h = at_end
runes-from (suc n) [] h = at_end
runes-from (suc n) (b ∷ bs) h = runes-from n bs (omega arith)
runes-from zero (b ∷ bs) h =
    let r : Rune = first_rune (b ∷ bs) in
    let is = front (b ∷ bs) in
    step b bs r (runes_after (tail_len r) bs) refl is (runes-from (tail_len r) bs (bytes_in-Front b bs r is).1)

pub runes-read : (bs : List ℕ) → HasRunes bs (runes_read bs)
unfolding runes_read
runes-read bs = runes-from 0 bs (omega arith)

-- a byte at which no character begins
pub byte-first : (b : ℕ) (rest : List ℕ) → BeginsNoChar (b ∷ rest) → (r : Rune) → Front (b ∷ rest) r → r ≡ byte b
byte-first b rest none _ lone = refl
byte-first b rest none _ (encoding c s e) =
    absurd (none c (drop (len_utf8 c) (b ∷ rest)) s (sym (take-append-drop (len_utf8 c) (b ∷ rest)) ∙ ap (λ t. t ++ drop (len_utf8 c) (b ∷ rest)) e))

after-char : (c : ℕ) (rest : List ℕ) → drop (suc (tail_len (char c))) (encode_utf8 c ++ rest) ≡ rest
after-char c rest =
    let n : suc (length (encode_utf8 c) - 1) ≡ length (encode_utf8 c) = omega (arith, len_utf8_bounds c, length-encode c) in
    ap (λ k. drop k (encode_utf8 c ++ rest)) n ∙ drop-append_seam (encode_utf8 c) rest

pub no-others : (bs : List ℕ) (rs : List Rune) → HasRunes bs rs → rs ≡ runes_read bs
no-others _ _ at_end = sym read-nil
no-others _ _ (a_char {c = c} {rest = rest} {rs = rs} s more) =
    let some : 0 < length (encode_utf8 c ++ rest) = omega (arith, len_utf8_bounds c, length-encode c, length-append (encode_utf8 c) rest) in
    ap (λ qs. char c ∷ qs) (no-others rest rs more ∙ ap runes_read (sym (after-char c rest)))
    ∙ sym (read-first (encode_utf8 c ++ rest) (char c) some (first_rune-encode c rest s))
no-others _ _ (a_byte {b = b} {rest = rest} {rs = rs} none more) =
    let first = byte-first b rest none (first_rune (b ∷ rest)) (front (b ∷ rest)) in
    ap (λ qs. byte b ∷ qs) (no-others rest rs more) ∙ sym (read-first (b ∷ rest) (byte b) (omega arith) first)

unfoldable pub one_list : (bs : List ℕ) → One (HasRunes bs)
one_list bs = record { it = runes_read bs; holds = runes-read bs; only = no-others bs }
