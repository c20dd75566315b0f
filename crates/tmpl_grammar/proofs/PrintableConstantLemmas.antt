-- For what can be printed: the constants that tokens are, are numbers within the range, and texts of bytes.
use Rattle.std.proofs.Common.{arith, ℕ, ◌^◌, ◌<◌, ◌≤◌, not, nat_eq, List, [], ◌∷◌, ◌++◌, refl, pos, neg_ℤ, ⊎_elim, flat_map}
use lib.IntN.{ℤ}
use lib.Signed.{mag}
use lib.Utf8.{scalar_cases}
use Rattle.std.specs.Char.{encode_utf8, IsScalar}
use Rattle.std.proofs.lemmas.Bool.{cond_both}
use Rattle.std.proofs.lemmas.Bool.Decides.{nat_tests}
use Rattle.tmpl_values.specs.Rune.{Rune, bytes_in}
use Rattle.tmpl_values.specs.Bytes.{AreBytes}
use Rattle.tmpl_values.proofs.RuneLemmas.{IsRune, AreRunes}
use Rattle.tmpl_lex.specs.Piece.{Token}
use Rattle.tmpl_grammar.specs.Tree.{Operand}
use Rattle.tmpl_grammar.specs.Constant as constant
use Rattle.tmpl_grammar.specs.Constant.{IsConstant}
use Rattle.tmpl_grammar.specs.Constant.Integer.{IsInteger}
use Rattle.tmpl_grammar.specs.Constant.Quoted.{code_of, IsEscape, SpellsRunes, at_end, a_char, a_byte, an_escape}
use Rattle.tmpl_grammar.specs.computed.Quoted.{without_returns}
use Rattle.tmpl_grammar.specs.Printable.{OfOperand}
use Rattle.tmpl_grammar.proofs.DigitLemmas.{hex-byte}
use Rattle.tmpl_grammar.proofs.PrintableTokenLemmas.{bytes-front}
use Rattle.tmpl_grammar.proofs.QuotePartLemmas.{letter-ascii}

-- ---- numbers

neg-range : (n : ℕ) → n ≤ 2 ^ 63 → mag (neg_ℤ (pos n)) < 2 ^ 63
neg-range n h = grind (arith, nat_tests)

integer-range : {bs : List ℕ} {n : ℤ} → IsInteger bs n → mag n < 2 ^ 63
integer-range h = grind (arith, neg-range)

-- ---- the runes of a text

escape-rune : {quote : ℕ} {s : List ℕ} {r : Rune} → quote < 256 → IsEscape quote s r → IsRune r
escape-rune h is = grind (arith, hex-byte, letter-ascii)

runes-spelled : {quote : ℕ} {bs : List ℕ} {rs : List Rune} → quote < 256 → SpellsRunes quote bs rs → AreRunes rs
runes-spelled h at_end = tt
runes-spelled h (a_char s other slash more) = (s, runes-spelled h more)
runes-spelled h (a_byte none more) = (refl, runes-spelled h more)
runes-spelled h (an_escape is more) = (escape-rune h is, runes-spelled h more)

-- ---- texts

bytes-append : (xs ys : List ℕ) → AreBytes xs → AreBytes ys → AreBytes (xs ++ ys)
bytes-append [] ys h k = k
bytes-append (x ∷ xs) ys h k = (h.0, bytes-append xs ys h.1 k)

below : (c : ℕ) → IsScalar c → c < 1114112
below c s = ⊎_elim (λ h. omega arith) (λ h. h.1) (scalar_cases c s)

rune-bytes : (r : Rune) → IsRune r → AreBytes (bytes_in r)
unfolding encode_utf8
rune-bytes r h = grind (arith, nat_tests, below)

text-bytes : (rs : List Rune) → AreRunes rs → AreBytes (flat_map bytes_in rs)
text-bytes [] h = tt
text-bytes (r ∷ rs) h = bytes-append (bytes_in r) (flat_map bytes_in rs) (rune-bytes r h.0) (text-bytes rs h.1)

raw-bytes : (bs : List ℕ) → AreBytes bs → AreBytes (without_returns bs)
raw-bytes [] h = tt
raw-bytes (b ∷ bs) h =
    let more = raw-bytes bs h.1 in
    cond_both (not (nat_eq b 13)) (b ∷ without_returns bs) (without_returns bs) AreBytes (λ e. (h.0, more)) (λ e. more)

-- ---- constants

code-range : (r : Rune) → IsRune r → code_of r < 2 ^ 63
code-range r h = grind (arith, below)

pub of-constant : (t : Token) (o : Operand) → AreBytes t.bytes → IsConstant t o → OfOperand o
of-constant _ _ h (constant.number is) = integer-range is
of-constant _ _ h (constant.string {rs = rs} has) = text-bytes rs (runes-spelled (omega arith) has)
of-constant _ _ h (constant.raw_string bs) = raw-bytes bs (bytes-front bs (96 ∷ []) h.1).0
of-constant _ _ h (constant.character {r = r} has) = code-range r (runes-spelled (omega arith) has).0
