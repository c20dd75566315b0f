-- For `printed_tokens`: a quote is one string token, whatever stands after it.
use Rattle.std.proofs.Common.{◌≡◌, ◌∙◌, ℕ, zero, suc, ◌/◌, ◌%◌, ◌<◌, Bool, true, false, nat_eq, List, [], ◌∷◌, ◌++◌, get_or, Option, Some, None, if◌then◌else◌}
use Rattle.std.proofs.Common.{refl, sym, ap, arith, append-nil, not, ◌||◌, flat_map}
use Rattle.std.specs.List.{list_all}
use Rattle.std.proofs.lemmas.Bool.{and_parts}
use Rattle.std.proofs.lemmas.List.Elements.{All-from_get_or}
use Rattle.std.proofs.lemmas.List.Folds.{list_all-append}
use Rattle.std.proofs.lemmas.List.Sums.{list_all-from_AllPass}
use Rattle.std.specs.Char.{encode_utf8, digit_char}
use Rattle.std.proofs.lemmas.Bool.Decides.{nat_tests}
use Rattle.std.proofs.lemmas.Str.{inside_one}
use Rattle.tmpl_lex.specs.Token.{IsQuoted, no_byte, a_byte, an_escape}
use Rattle.tmpl_values.specs.Rune.{Rune}
use Rattle.tmpl_values.specs.Runes.{runes}
use Rattle.tmpl_values.specs.Quote.{letters, letter_of, hexes, spelling}
use Rattle.tmpl_values.specs.computed.Quote.{inside, rune_spelling}
use Rattle.tmpl_grammar.proofs.QuotePartLemmas.{letter-no-newline}

-- a byte that ends no string and begins no escape
abbrev is_plain : ℕ → Bool
is_plain b = not (nat_eq b 34 || (nat_eq b 10 || nat_eq b 92))

within-plain : (s t : List ℕ) → list_all is_plain s ≡ true → IsQuoted 34 t → IsQuoted 34 (s ++ t)
within-plain [] t h k = k
within-plain (b ∷ s) t h k =
    let both = and_parts (is_plain b) (list_all is_plain s) h in
    a_byte (grind (arith, nat_tests)) (grind (arith, nat_tests)) (grind (arith, nat_tests)) (within-plain s t both.1 k)

within-escape : (e : ℕ) (s t : List ℕ) → nat_eq e 10 ≡ false → list_all is_plain s ≡ true → IsQuoted 34 t → IsQuoted 34 (92 ∷ e ∷ (s ++ t))
within-escape e s t n h k = an_escape n (within-plain s t h k)

-- ---- which bytes are plain

plain-digit : (d : ℕ) → d < 16 → is_plain (digit_char d) ≡ true
plain-digit d h = grind (arith, nat_tests)

plain-hexes : (k c : ℕ) → list_all is_plain (hexes k c) ≡ true
unfolding hexes
plain-hexes zero c = refl
plain-hexes (suc k) c = simp (list_all-append, plain-hexes k (c / 16), plain-digit (c % 16) (omega arith))

plain-byte : (b : ℕ) → (b < 128 → letter_of b letters ≡ None) → is_plain b ≡ true
plain-byte b h = grind (arith, nat_tests)

plain-encode : (c : ℕ) → letter_of c letters ≡ None → list_all is_plain (encode_utf8 c) ≡ true
plain-encode c is = list_all-from_AllPass is_plain (encode_utf8 c) (All-from_get_or (λ b. is_plain b ≡ true) (encode_utf8 c) 0 (λ k h.
    plain-byte (get_or (encode_utf8 c) k 0) (λ low.
    sym (ap (λ b. letter_of b letters) (inside_one c [] (encode_utf8 c) k (sym (append-nil (encode_utf8 c))) h low)) ∙ is)))

-- ---- each spelling within a token

code-within : (p low bmp : Bool) (c : ℕ) (t : List ℕ) → letter_of c letters ≡ None → IsQuoted 34 t
    → IsQuoted 34 ((if p then encode_utf8 c else (if low then 92 ∷ 120 ∷ hexes 2 c else (if bmp then 92 ∷ 117 ∷ hexes 4 c else 92 ∷ 85 ∷ hexes 8 c))) ++ t)
code-within p low bmp c t h k = grind (arith, nat_tests, plain-encode, plain-hexes, within-escape, within-plain)

char-within : (prints : ℕ → Bool) (c : ℕ) (o : Option ℕ) (t : List ℕ) → letter_of c letters ≡ o → IsQuoted 34 t → IsQuoted 34 (rune_spelling prints c o ++ t)
char-within prints c (Some e) t is k = within-escape e [] t (letter-no-newline c e is) refl k
char-within prints c None t is k = code-within (prints c) _ _ c t is k

within : (prints : ℕ → Bool) (r : Rune) (t : List ℕ) → IsQuoted 34 t → IsQuoted 34 (spelling prints r ++ t)
within prints r t h = grind (arith, nat_tests, char-within, plain-hexes, within-escape)

all-within : (prints : ℕ → Bool) (rs : List Rune) → IsQuoted 34 (flat_map (spelling prints) rs)
all-within prints [] = no_byte
all-within prints (r ∷ rs) = within prints r (flat_map (spelling prints) rs) (all-within prints rs)

-- what stands between the quotes of a quote ends no string
pub quoted-inside : (prints : ℕ → Bool) (bs : List ℕ) → IsQuoted 34 (inside prints bs)
quoted-inside prints bs = all-within prints (runes bs)
