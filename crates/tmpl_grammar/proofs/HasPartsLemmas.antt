-- For `one_constant`: the runes between quotes that are computed are those that the relation admits.
use Rattle.std.proofs.Common.{◌≡◌, ◌∙◌, ℕ, zero, suc, ◌<◌, ◌≤◌, false, nat_eq, List, [], ◌∷◌, ◌++◌, length, drop}
use Rattle.std.proofs.Common.{Option, Some, None, IfSome, refl, sym, ap, arith, length-append}
use Rattle.std.specs.Char.{encode_utf8, len_utf8, IsScalar}
use Rattle.std.proofs.Math.Seq.{drop-append_seam}
use Rattle.std.proofs.lemmas.List.{take-append-drop}
use Rattle.std.proofs.lemmas.Bool.{eqb-true, cond_both}
use Rattle.std.proofs.lemmas.Bool.Decides.{nat_tests}
use Rattle.std.proofs.lemmas.Str.{length-encode, len_utf8_bounds, char_from_byte, encode_ascii}
use lib.Utf8.{low_scalar}
use Rattle.tmpl_values.specs.Rune.{Rune, BeginsNoChar, char}
use Rattle.tmpl_values.specs.computed.Rune.{first_rune}
use Rattle.tmpl_values.specs.computed.Runes.{first_rune-encode, Front, encoding, lone, front, begins-none, byte-first}
use Rattle.tmpl_grammar.specs.Constant.Quoted.{code_of, SpellsRunes, at_end, a_char, a_byte, an_escape}
use Rattle.tmpl_grammar.specs.computed.Quoted.{Spelled, rune_part, part_at, with_part, parts, whole_code, rune_code}
use Rattle.tmpl_grammar.proofs.EscapeLemmas.{IsMark, escape-at, escape-some, FirstPart, has-escape}
use Rattle.tmpl_grammar.proofs.OptionLemmas.{mapped, chained}
use Rattle.tmpl_grammar.proofs.QuotedLemmas.{parts-nil, parts-first, parts-none}

-- ---- what the relation admits is computed

mark-low : (quote : ℕ) → IsMark quote → quote < 128
mark-low quote h = grind (arith, nat_tests)

-- neither a backslash nor the quote comes first
part-rune : (quote b : ℕ) (bs : List ℕ) → (b ≡ 92 → ⊥) → (b ≡ quote → ⊥) → part_at quote (b ∷ bs) ≡ Some (rune_part (first_rune (b ∷ bs)))
unfolding part_at
part-rune quote b bs slash other = grind (arith, nat_tests)

-- a character as it is
char-at : (quote c : ℕ) (rest : List ℕ) → quote < 128 → IsScalar c → (c ≡ 92 → ⊥) → (c ≡ quote → ⊥)
    → part_at quote (encode_utf8 c ++ rest) ≡ Some (char c, len_utf8 c)
char-at quote c rest low s slash other = split (encode_utf8 c ++ rest) refl
  where
    split : (bs : List ℕ) → bs ≡ encode_utf8 c ++ rest → part_at quote bs ≡ Some (char c, len_utf8 c)
    split [] e = absurd (omega (arith, ap length e, length-append (encode_utf8 c) rest, length-encode c, len_utf8_bounds c))
    split (b ∷ bs) e =
        part-rune quote b bs (λ is. slash (char_from_byte (b ∷ bs) rest c e (omega arith) (omega arith) ∙ is))
        (λ is. other (char_from_byte (b ∷ bs) rest c e (omega arith) (omega arith) ∙ is))
        ∙ simp (e, first_rune-encode c rest s)

-- where no character begins stands no byte of ASCII
byte-at : (quote b : ℕ) (rest : List ℕ) → quote < 128 → BeginsNoChar (b ∷ rest) → part_at quote (b ∷ rest) ≡ Some (char 65533, 1)
byte-at quote b rest low none =
    part-rune quote b rest (begun 92 (omega arith)) (begun quote low)
    ∙ ap (λ r. Some (rune_part r)) (byte-first b rest none (first_rune (b ∷ rest)) (front (b ∷ rest)))
  where
    begun : (k : ℕ) → k < 128 → b ≡ k → ⊥
    begun k low is = none k rest (low_scalar k (omega (arith, low))) (ap (λ x. x ∷ rest) is ∙ ap (λ t. t ++ rest) (sym (encode_ascii k low)))

-- a part comes off the front
parts-seam : (quote : ℕ) (s rest : List ℕ) (p : Rune) → 0 < length s → part_at quote (s ++ rest) ≡ Some (p, length s)
    → parts quote (s ++ rest) ≡ with_part p (parts quote rest)
parts-seam quote s rest p low is = grind (arith, parts-first quote (s ++ rest) (p, length s), length-append s rest, drop-append_seam s rest)

-- the bytes that spell the first rune, which is read, and those after them
abbrev Leading : ℕ → List ℕ → Rune → List Rune → Type 0
Leading quote bs r rs =
    (s : List ℕ) × (rest : List ℕ) × (bs ≡ s ++ rest) × (0 < length s) × (part_at quote (s ++ rest) ≡ Some (r, length s)) × SpellsRunes quote rest rs

leading : (quote : ℕ) (bs : List ℕ) (r : Rune) (rs : List Rune) → IsMark quote → SpellsRunes quote bs (r ∷ rs) → Leading quote bs r rs
leading quote _ _ _ m (a_char {c = c} {rest = rest} s other slash more) = grind (arith, nat_tests, char-at, len_utf8_bounds, length-encode, mark-low)
leading quote _ _ _ m (a_byte {b = b} {rest = rest} none more) = (b ∷ [], rest, refl, omega arith, byte-at quote b rest (mark-low quote m) none, more)
leading quote _ _ _ m (an_escape {spelling = s} {rest = rest} {r = p} is more) = grind (arith, nat_tests, escape-at, escape-some)

pub parts-computed : (quote : ℕ) (bs : List ℕ) (rs : List Rune) → IsMark quote → SpellsRunes quote bs rs → parts quote bs ≡ Some rs
parts-computed quote _ [] m at_end = parts-nil quote
parts-computed quote bs (r ∷ rs) m has =
    let (s, rest, is, some, first, more) = leading quote bs r rs m has in
    ap (parts quote) is ∙ simp (parts-seam quote s rest r some first, parts-computed quote rest rs m more)

none-spelled : (quote : ℕ) (bs : List ℕ) → SpellsRunes quote bs [] → bs ≡ []
none-spelled quote _ at_end = refl

pub rune-computed : (quote : ℕ) (bs : List ℕ) (r : Rune) → IsMark quote → SpellsRunes quote bs (r ∷ []) → rune_code quote bs ≡ Some (code_of r)
rune-computed quote bs r m has =
    let (s, rest, is, some, first, more) = leading quote bs r [] m has in
    grind (arith, nat_tests, is, first, length-append s rest, none-spelled quote rest more)

-- ---- what is computed the relation admits

other-char : (b k c : ℕ) (bs rest : List ℕ) → encode_utf8 c ++ rest ≡ b ∷ bs → k < 128 → nat_eq b k ≡ false → c ≡ k → ⊥
other-char b k c bs rest h l e m = grind (arith, nat_tests, encode_ascii)

rune-first : (quote b : ℕ) (bs : List ℕ) (r : Rune) → quote < 128 → nat_eq b 92 ≡ false → nat_eq b quote ≡ false → first_rune (b ∷ bs) ≡ r
    → Front (b ∷ bs) r → FirstPart quote (b ∷ bs) (rune_part r)
rune-first quote b bs _ low slash other is lone =
    record { spelling = b ∷ []; rest = bs; is = refl; count = refl; some = omega arith; leads = λ ps more. a_byte (begins-none (b ∷ bs) b is) more }
rune-first quote b bs _ low slash other is (encoding c s e) =
    let rest : List ℕ = drop (len_utf8 c) (b ∷ bs) in
    let whole : encode_utf8 c ++ rest ≡ b ∷ bs = ap (λ t. t ++ rest) (sym e) ∙ take-append-drop (len_utf8 c) (b ∷ bs) in
    record {
      spelling = encode_utf8 c;
      rest = rest;
      is = sym whole;
      count = length-encode c;
      some = omega (arith, len_utf8_bounds c);
      leads = λ ps more. a_char s (other-char b quote c bs rest whole low other) (other-char b 92 c bs rest whole (omega arith) slash) more;
    }

first-part : (quote : ℕ) (bs : List ℕ) → quote < 128 → IfSome (part_at quote bs) (FirstPart quote bs)
unfolding part_at
first-part quote [] low = tt
first-part quote (b ∷ bs) low =
    let First : Option Spelled → Type 0 = λ o. IfSome o (FirstPart quote (b ∷ bs)) in
    cond_both _ _ _ First (λ h. rw (eqb-true b 92 h) (has-escape quote bs)) (λ h. cond_both _ _ _ First (λ k. tt) (λ k.
    rune-first quote b bs (first_rune (b ∷ bs)) low h k refl (front (b ∷ bs))))

parts-in : (n quote : ℕ) (bs : List ℕ) → length bs ≤ n → quote < 128 → IfSome (parts quote bs) (SpellsRunes quote bs)
parts-in n quote [] h low = rw (parts-nil quote) at_end
parts-in zero quote (b ∷ bs) h low = absurd (omega arith)
parts-in (suc n) quote (b ∷ bs) h low =
    go (λ rest fits. parts-in n quote rest fits low) (part_at quote (b ∷ bs)) refl (first-part quote (b ∷ bs) low)
  where
    go : ((rest : List ℕ) → length rest ≤ n → IfSome (parts quote rest) (SpellsRunes quote rest)) → (o : Option Spelled) → part_at quote (b ∷ bs) ≡ o
        → IfSome o (FirstPart quote (b ∷ bs)) → IfSome (parts quote (b ∷ bs)) (SpellsRunes quote (b ∷ bs))
    go after None is f = rw (parts-none quote (b ∷ bs) (omega arith) is) tt
    go after (Some p) is f =
        let n : length f.spelling ≡ p.1 = f.count in
        let some : 0 < length f.spelling = omega (arith, n, f.some) in
        let first : part_at quote (f.spelling ++ f.rest) ≡ Some (p.0, length f.spelling) = grind (arith, n, f.is) in
        rw (ap (parts quote) f.is ∙ parts-seam quote f.spelling f.rest p.0 some first)
        (mapped (λ (qs : List Rune). p.0 ∷ qs) (SpellsRunes quote (b ∷ bs)) (parts quote f.rest)
        (after f.rest (omega (arith, ap length f.is, length-append f.spelling f.rest, some))) (λ qs more. rw f.is (f.leads qs more)))

pub parts-admitted : (quote : ℕ) (bs : List ℕ) → IsMark quote → IfSome (parts quote bs) (SpellsRunes quote bs)
parts-admitted quote bs m = parts-in (length bs) quote bs (omega arith) (mark-low quote m)

nothing-left : (s rest : List ℕ) → length s ≡ length (s ++ rest) → rest ≡ []
nothing-left s [] e = refl
nothing-left s (b ∷ rest) e = absurd (omega (arith, e, length-append s (b ∷ rest)))

pub rune-admitted : (quote : ℕ) (bs : List ℕ) (P : ℕ → Type 0) → IsMark quote → ((r : Rune) → SpellsRunes quote bs (r ∷ []) → P (code_of r))
    → IfSome (rune_code quote bs) P
rune-admitted quote bs P m f = chained (whole_code (length bs)) P (part_at quote bs) (first-part quote bs (mark-low quote m))
    (λ p first. cond_both _ _ _ (λ o. IfSome o P) (λ e.
    let none = nothing-left first.spelling first.rest (first.count ∙ eqb-true p.1 (length bs) e ∙ ap length first.is) in
    f p.0 (rw first.is (first.leads [] (rw none at_end)))) (λ e. tt))
