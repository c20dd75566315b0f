-- For `printed_spelling`: what stands between the quotes of a quote spells the text.
use Rattle.std.proofs.Common.{◌≡◌, ◌∙◌, ℕ, ◌^◌, ◌<◌, Bool, true, false, nat_eq, nat_lt, ◌||◌, List, [], ◌∷◌, ◌++◌, Option, Some, None, refl, sym, ap, subst}
use Rattle.std.proofs.Common.{arith, if◌then◌else◌, flat_map}
use Rattle.std.specs.Char.{encode_utf8, IsScalar}
use Rattle.std.proofs.lemmas.Bool.{eqb-true, eqb-false}
use Rattle.std.proofs.lemmas.Bool.Decides.{nat_tests}
use Rattle.std.proofs.lemmas.Str.{encode_ascii}
use lib.Utf8.{scalar, scalar_fits}
use Rattle.tmpl_values.specs.Rune.{Rune, char, byte, bytes_in}
use Rattle.tmpl_values.specs.Runes.{runes}
use Rattle.tmpl_values.specs.Quote.{letters, letter_of, hexes, spelling}
use Rattle.tmpl_values.specs.computed.Quote.{inside, rune_spelling}
use Rattle.tmpl_values.specs.Bytes.{AreBytes}
use Rattle.tmpl_values.proofs.RuneLemmas.{IsRune, AreRunes}
use Rattle.tmpl_values.proofs.RunesLemmas.{are_runes, text-runes}
use Rattle.tmpl_grammar.specs.Constant.Quoted.{IsEscape, a_letter, the_quote, two_digits, four_digits, eight_digits, SpellsRunes, at_end, a_char, an_escape}
use Rattle.tmpl_grammar.proofs.HexLemmas.{are-hexes, value-hexes}

-- bytes between double quotes that spell the runes of this text
pub record SpellsText (s text : List ℕ) : Type 0 where
  pub parts : List Rune
  pub spells : SpellsRunes 34 s parts
  pub is : flat_map bytes_in parts ≡ text

escaped : {s rest text : List ℕ} {r : Rune} → IsEscape 34 s r → SpellsText rest text → SpellsText (s ++ rest) (bytes_in r ++ text)
escaped {r = r} e t = record { parts = r ∷ t.parts; spells = an_escape e t.spells; is = ap (λ bs. bytes_in r ++ bs) t.is }

-- ---- letters

pub letter-ascii : (c e : ℕ) → letter_of c letters ≡ Some e → c < 128
letter-ascii c e is = grind (arith, nat_tests)

pub letter-no-newline : (c e : ℕ) → letter_of c letters ≡ Some e → nat_eq e 10 ≡ false
letter-no-newline c e is = grind (arith, nat_tests)

pub unlettered : (c k e : ℕ) → letter_of k letters ≡ Some e → letter_of c letters ≡ None → c ≡ k → ⊥
unlettered c k e there none same = let n : Some e ≡ None = sym there ∙ sym (ap (λ x. letter_of x letters) same) ∙ none in cc

-- ---- escapes

letter-escape : (c e : ℕ) → letter_of c letters ≡ Some e → IsEscape 34 (92 ∷ e ∷ []) (byte c)
letter-escape c e is = by (nat_eq c 34) refl
  where
    by : (b : Bool) → nat_eq c 34 ≡ b → IsEscape 34 (92 ∷ e ∷ []) (byte c)
    by true h =
        let same : c ≡ 34 = eqb-true c 34 h in
        let letter : e ≡ 34 = grind (arith, nat_tests) in
        rw (letter, same) the_quote
    by false h = a_letter is (eqb-false c 34 h)

x-escape : (b : ℕ) → b < 256 → IsEscape 34 (92 ∷ 120 ∷ hexes 2 b) (byte b)
x-escape b h = subst (λ n. IsEscape 34 (92 ∷ 120 ∷ hexes 2 b) (byte n)) (value-hexes 2 b h) (two_digits (are-hexes 2 b))

u-escape : (c : ℕ) → c < 65536 → IsScalar c → IsEscape 34 (92 ∷ 117 ∷ hexes 4 c) (char c)
u-escape c h s =
    let is = value-hexes 4 c h in
    subst (λ n. IsEscape 34 (92 ∷ 117 ∷ hexes 4 c) (char n)) is (four_digits (are-hexes 4 c) (ap scalar is ∙ s))

U-escape : (c : ℕ) → c < 16 ^ 8 → IsScalar c → IsEscape 34 (92 ∷ 85 ∷ hexes 8 c) (char c)
U-escape c h s =
    let is = value-hexes 8 c h in
    subst (λ n. IsEscape 34 (92 ∷ 85 ∷ hexes 8 c) (char n)) is (eight_digits (are-hexes 8 c) (ap scalar is ∙ s))

-- ---- every spelling

-- a byte of ASCII is a character
as-char : {s text : List ℕ} (c : ℕ) → c < 128 → SpellsText s ((c ∷ []) ++ text) → SpellsText s (encode_utf8 c ++ text)
as-char {s} {text} c h t = subst (λ bs. SpellsText s (bs ++ text)) (sym (encode_ascii c h)) t

module _ (rest text : List ℕ) (t : SpellsText rest text) where
  spelled-code : (p low bmp : Bool) (c : ℕ) → IsScalar c → letter_of c letters ≡ None → (nat_lt c 32 || nat_eq c 127) ≡ low → nat_lt c 65536 ≡ bmp
      → SpellsText ((if p then encode_utf8 c else (if low then 92 ∷ 120 ∷ hexes 2 c
      else (if bmp then 92 ∷ 117 ∷ hexes 4 c else 92 ∷ 85 ∷ hexes 8 c))) ++ rest) (encode_utf8 c ++ text)
  spelled-code true low bmp c s none l b = record {
    parts = char c ∷ t.parts;
    spells = a_char s (unlettered c 34 34 refl none) (unlettered c 92 92 refl none) t.spells;
    is = ap (λ bs. encode_utf8 c ++ bs) t.is;
  }
  spelled-code false true bmp c s none l b =
      let under : c < 128 = grind (arith, nat_tests) in
      as-char c under (escaped (x-escape c (omega arith)) t)
  spelled-code false false true c s none l b = let under : c < 65536 = grind (arith, nat_tests) in escaped (u-escape c under s) t
  spelled-code false false false c s none l b = escaped (U-escape c (scalar_fits c s) s) t

  spelled-char : (prints : ℕ → Bool) (c : ℕ) (o : Option ℕ) → letter_of c letters ≡ o → IsScalar c
      → SpellsText (rune_spelling prints c o ++ rest) (encode_utf8 c ++ text)
  spelled-char prints c (Some e) is s =
      as-char c (letter-ascii c e is) (escaped (letter-escape c e is) t)
  spelled-char prints c None is s = spelled-code (prints c) _ _ c s is refl refl

  spelled-rune : (prints : ℕ → Bool) (r : Rune) → IsRune r → SpellsText (spelling prints r ++ rest) (bytes_in r ++ text)
  spelled-rune prints (char c) s = spelled-char prints c (letter_of c letters) refl s
  spelled-rune prints (byte b) h = escaped (x-escape b h) t

spelled-runes : (prints : ℕ → Bool) (rs : List Rune) → AreRunes rs → SpellsText (flat_map (spelling prints) rs) (flat_map bytes_in rs)
spelled-runes prints [] h = record { parts = []; spells = at_end; is = refl }
spelled-runes prints (r ∷ rs) h = spelled-rune _ _ (spelled-runes prints rs h.1) prints r h.0

pub inside-spelled : (prints : ℕ → Bool) (bs : List ℕ) → AreBytes bs → SpellsText (inside prints bs) bs
inside-spelled prints bs h = subst (SpellsText (inside prints bs)) (text-runes bs) (spelled-runes prints (runes bs) (are_runes bs h))
