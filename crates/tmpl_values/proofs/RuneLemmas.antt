-- For `first_char` and all that goes rune by rune: which rune stands at the front, and that runes joined are the text.
use Rattle.std.proofs.Common.{◌≡◌, ◌∙◌, ℕ, zero, suc, ◌+◌, ◌-◌, ◌<◌, Bool, true, false, List, [], ◌∷◌, ◌++◌, length}
use Rattle.std.proofs.Common.{take, refl, sym, ap, subst, arith, append_assoc, drop, get_or, ◌≤◌}
use Rattle.std.proofs.Common.{length-append}
use Rattle.std.specs.List.{flat_map}
use Rattle.std.proofs.lemmas.List.{take-append-drop, length-take}
use lib.Utf8.{scalar, scalars, next, scalar_cases}
use Rattle.std.specs.Str.{IsUtf8, continuation_len}
use Rattle.std.specs.Option.{MatchOption}
use Rattle.std.proofs.lemmas.Str.{cons_from_encodes}
use Rattle.std.proofs.lemmas.Bool.{and_parts}
use Rattle.std.proofs.lemmas.Bool.Decides.{nat_tests}
use Rattle.std.proofs.Common.{Option, Some, None, cond, nat_lt, min, ◌/◌, Fits, w8, ⊎_elim}
use Rattle.std.specs.Char.{encode_utf8, len_utf8, IsScalar}
use Rattle.std.proofs.lemmas.Str.{IsUtf8-encode, length-encode}
use Rattle.tmpl_values.specs.Bytes.{AreBytes}
use Rattle.tmpl_values.specs.Rune.{Rune, char, byte, bytes_in}
use Rattle.tmpl_values.specs.computed.Rune.{first_rune, runes_read, runes_after, tail_len}
use Rattle.tmpl_values.specs.computed.Runes.{Front, encoding, lone, front, bytes_in-Front, first_rune-encode}

pub bytes_in-runes : (n : ℕ) (bs : List ℕ) → n ≤ length bs → flat_map bytes_in (runes_after n bs) ≡ drop n bs
bytes_in-runes zero [] h = refl
bytes_in-runes (suc n) [] h = refl
bytes_in-runes (suc n) (b ∷ bs) h = bytes_in-runes n bs (omega arith)
bytes_in-runes zero (b ∷ bs) h =
    let r : Rune = first_rune (b ∷ bs) in
    let parts = bytes_in-Front b bs r (front (b ∷ bs)) in
    ap (λ t. bytes_in r ++ t) (bytes_in-runes (tail_len r) bs parts.1) ∙ parts.0

-- the runes of a text, one after another, are the text
pub text-read : (bs : List ℕ) → flat_map bytes_in (runes_read bs) ≡ bs
unfolding runes_read
text-read bs = bytes_in-runes 0 bs (omega arith)

abbrev pub IsRune : Rune → Type 0
IsRune (char c) = IsScalar c
IsRune (byte b) = b < 256

abbrev pub AreRunes : List Rune → Type 0
AreRunes [] = Unit {0}
AreRunes (r ∷ rs) = IsRune r × AreRunes rs

IsRune-Front : (b : ℕ) (bs : List ℕ) (r : Rune) → Front (b ∷ bs) r → b < 256 → IsRune r
IsRune-Front b bs _ lone h = h
IsRune-Front b bs _ (encoding c s e) h = s

AreRunes-runes_after : (n : ℕ) (bs : List ℕ) → AreBytes bs → AreRunes (runes_after n bs)
AreRunes-runes_after zero [] h = tt
AreRunes-runes_after (suc n) [] h = tt
AreRunes-runes_after (suc n) (b ∷ bs) h = AreRunes-runes_after n bs h.1
AreRunes-runes_after zero (b ∷ bs) h = (IsRune-Front b bs _ (front (b ∷ bs)) h.0, AreRunes-runes_after (tail_len (first_rune (b ∷ bs))) bs h.1)

pub are_read : (bs : List ℕ) → AreBytes bs → AreRunes (runes_read bs)
unfolding runes_read
are_read bs h = AreRunes-runes_after 0 bs h

Front-char : (bs : List ℕ) (c : ℕ) → Front bs (char c) → IsScalar c × (take (len_utf8 c) bs ≡ encode_utf8 c)
Front-char bs _ (encoding c s e) = (s, e)

pub take-first_rune : (bs : List ℕ) (c : ℕ) → first_rune bs ≡ char c → take (len_utf8 c) bs ≡ encode_utf8 c
take-first_rune bs c is = (Front-char bs c (subst (Front bs) is (front bs))).1

-- whether a character stands at the front can be told from the length that the first byte names
pub first_rune-text : (bs rest t : List ℕ) (c : ℕ) → IsScalar c → t ≡ encode_utf8 c ++ rest → (n : ℕ) → t ≡ take n bs
    → (first_rune bs ≡ char c) × (len_utf8 c ≤ length bs)
first_rune-text bs rest t c s e n is =
    let bytes_are : bs ≡ encode_utf8 c ++ (rest ++ drop n bs) = sym (take-append-drop n bs) ∙ ap (λ x. x ++ drop n bs) (sym is ∙ e)
    ∙ append_assoc (encode_utf8 c) rest (drop n bs) in (
      ap first_rune bytes_are ∙ first_rune-encode c (rest ++ drop n bs) s,
      omega (arith, ap length bytes_are, length-append (encode_utf8 c) (rest ++ drop n bs), length-encode c),
    )

IsScalar-first : (t rest : List ℕ) (c : ℕ) → IsUtf8 t → t ≡ encode_utf8 c ++ rest → IsScalar c
IsScalar-first t rest c u is =
    let first = cons_from_encodes u.0 rest c (u.1.1 ∙ is) in
    (and_parts (scalar c) (scalars first.0) (ap scalars (sym first.1) ∙ u.1.0)).0

-- what the first character of a front that is UTF-8 says
pub first_rune-known : (bs t rest : List ℕ) (n : ℕ) (r : Option ℕ) (X : Type 0) → IsUtf8 t → t ≡ take n bs → 0 < length t
    → MatchOption r ((length t ≡ 0) × X) (λ c. t ≡ encode_utf8 c ++ rest)
    → MatchOption r (first_rune bs ≡ byte (get_or bs 0 0)) (λ c. (first_rune bs ≡ char c) × (len_utf8 c ≤ length bs))
first_rune-known bs t rest n None X u is some h = absurd (omega arith)
first_rune-known bs t rest n (Some c) X u is some h = first_rune-text bs rest t c (IsScalar-first t rest c u h) h n is

continuation_len-by : (a b d : Bool) (c : ℕ) (rest : List ℕ) → c < 1114112 → nat_lt c 128 ≡ a → nat_lt c 2048 ≡ b → nat_lt c 65536 ≡ d
    → continuation_len (get_or ((cond a (c ∷ []) (cond b ((192 + c / 64) ∷ next c ∷ [])
    (cond d ((224 + c / 4096) ∷ next (c / 64) ∷ next c ∷ []) ((240 + c / 262144) ∷ next (c / 4096) ∷ next
    (c / 64) ∷ next c ∷ [])))) ++ rest) 0 0) + 1 ≡ cond a 1 (cond b 2 (cond d 3 4))
continuation_len-by true b d c rest h p q r = grind (arith, nat_tests)
continuation_len-by false true d c rest h p q r = grind (arith, nat_tests)
continuation_len-by false false true c rest h p q r = grind (arith, nat_tests)
continuation_len-by false false false c rest h p q r = grind (arith, nat_tests)

continuation_len-encode : (c : ℕ) (rest : List ℕ) → c < 1114112 → continuation_len (get_or (encode_utf8 c ++ rest) 0 0) + 1 ≡ len_utf8 c
unfolding encode_utf8
continuation_len-encode c rest h = continuation_len-by _ _ _ c rest h refl refl refl

IsScalar-below : (c : ℕ) → IsScalar c → c < 1114112
IsScalar-below c s = ⊎_elim (λ h. omega arith) (λ h. h.1) (scalar_cases c s)

first_rune-ill_formed_by : (bs : List ℕ) (n : ℕ) (r : Rune) → n ≡ min (continuation_len (get_or bs 0 0) + 1) (length bs) → (IsUtf8 (take n bs) → ⊥)
    → Front bs r → r ≡ byte (get_or bs 0 0)
first_rune-ill_formed_by bs n _ e never lone = refl
first_rune-ill_formed_by bs n _ e never (encoding c s is) =
    let bytes_are : bs ≡ encode_utf8 c ++ drop (len_utf8 c) bs = sym (take-append-drop (len_utf8 c) bs) ∙ ap (λ t. t ++ drop (len_utf8 c) bs) is in
    let lead : continuation_len (get_or bs 0 0) + 1 ≡ len_utf8 c = ap (λ t. continuation_len (get_or t 0 0) + 1) bytes_are
    ∙ continuation_len-encode c (drop (len_utf8 c) bs) (IsScalar-below c s) in
    let fits : len_utf8 c ≤ length bs = omega (arith, length-take (len_utf8 c) bs, ap length is, length-encode c) in
    let n_is : n ≡ len_utf8 c = omega arith in
    absurd (never (subst IsUtf8 (sym (ap (λ k. take k bs) n_is ∙ is)) (IsUtf8-encode c s)))

pub first_rune-ill_formed : (bs : List ℕ) (n : ℕ) → n ≡ min (continuation_len (get_or bs 0 0) + 1) (length bs) → (IsUtf8 (take n bs) → ⊥)
    → first_rune bs ≡ byte (get_or bs 0 0)
first_rune-ill_formed bs n e never = first_rune-ill_formed_by bs n (first_rune bs) e never (front bs)

pub are_bytes : (bs : List ℕ) → ((i : ℕ) → Fits w8 (get_or bs i 0)) → AreBytes bs
are_bytes [] f = tt
are_bytes (b ∷ bs) f = (omega (arith, f 0), are_bytes bs (λ i. f (suc i)))
