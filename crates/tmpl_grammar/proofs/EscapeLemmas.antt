-- For `one_constant`: the escapes that are computed are those that the relation admits.
use Rattle.std.proofs.Common.{◌≡◌, ◌∙◌, ℕ, ◌+◌, ◌<◌, ◌≤◌, Bool, true, false, ◌&&◌, nat_eq, nat_lt, List, [], ◌∷◌, ◌++◌, length, Option, Some, IfSome, None}
use Rattle.std.proofs.Common.{option_and_then, refl, ap, sym, arith, append_assoc, if◌then◌else◌, ltb-true}
use Rattle.std.specs.Str.Parse.{digits_value}
use Rattle.std.proofs.lemmas.Bool.{eqb-true, and_parts, cond_both}
use Rattle.std.proofs.lemmas.Bool.Decides.{nat_tests}
use lib.Utf8.{scalar}
use Rattle.tmpl_values.specs.Rune.{Rune, char, byte}
use Rattle.tmpl_values.specs.Quote.{letters, letter_of}
use Rattle.tmpl_grammar.specs.Constant.Quoted.{AreDigits, IsEscape, a_letter, the_quote, octal, two_digits, four_digits, eight_digits, SpellsRunes, an_escape}
use Rattle.tmpl_grammar.specs.computed.Quoted.{Spelled, as_byte, as_char, code, byte_named, escape_code, escape_by, escape, part_at}
use Rattle.tmpl_grammar.proofs.DigitLemmas.{code-digits, code-tells, octal-digit, hex-byte}
use Rattle.tmpl_grammar.proofs.OptionLemmas.{chained}

-- what ends a string, and what ends a character
pub data IsMark : ℕ → Type 0 where
  double : IsMark 34
  single : IsMark 39

-- ---- what the relation admits is computed

not-named : (quote e : ℕ) → IsMark quote → 48 ≤ e → e < 56 → byte_named quote e ≡ None
not-named quote e h k l = grind (arith, nat_tests)

not-lettered : (e : ℕ) (bs : List ℕ) → 48 ≤ e → e < 56 → escape_code e bs ≡ option_and_then (as_byte 4) (code 8 3 (e ∷ bs))
not-lettered e bs low high = grind (arith, nat_tests)

byte-read : (base count : ℕ) (ds rest : List ℕ) → AreDigits base count ds → digits_value base ds < 256
    → option_and_then (as_byte 4) (code base count (ds ++ rest)) ≡ Some (byte (digits_value base ds), 4)
byte-read base count ds rest h k = grind (arith, nat_tests, code-digits)

char-read : (len count : ℕ) (ds rest : List ℕ) → AreDigits 16 count ds → scalar (digits_value 16 ds) ≡ true
    → option_and_then (as_char len) (code 16 count (ds ++ rest)) ≡ Some (char (digits_value 16 ds), len)
char-read len count ds rest are s = simp (code-digits 16 count ds rest are, s)

octal-read : (quote : ℕ) (ds rest : List ℕ) → IsMark quote → AreDigits 8 3 ds → digits_value 8 ds < 256
    → escape quote (ds ++ rest) ≡ Some (byte (digits_value 8 ds), 4)
octal-read quote [] rest m are h = absurd (omega (arith, are.0))
octal-read quote (e ∷ ds) rest m are h =
    let range = octal-digit e are.1.0 in
    simp (not-named quote e m range.0 range.1) (not-lettered e (ds ++ rest) range.0 range.1 ∙ byte-read 8 3 (e ∷ ds) rest are h)

-- a byte that no letter is, whichever mark ends the text
escape_code-read : (quote e : ℕ) (bs : List ℕ) → IsMark quote → byte_named 34 e ≡ None → byte_named 39 e ≡ None → escape quote (e ∷ bs) ≡ escape_code e bs
escape_code-read _ e bs double h k = simp h
escape_code-read _ e bs single h k = simp k

quote-read : (quote : ℕ) (rest : List ℕ) → IsMark quote → escape quote (quote ∷ rest) ≡ Some (byte quote, 2)
quote-read quote rest h = grind (arith, nat_tests)

named : (quote c e : ℕ) → IsMark quote → letter_of c letters ≡ Some e → (c ≡ 34 → ⊥) → byte_named quote e ≡ Some c
named quote c e h k l = grind (arith, nat_tests)

pub escape-at : (quote : ℕ) (s rest : List ℕ) (p : Rune) → IsMark quote → IsEscape quote s p → part_at quote (s ++ rest) ≡ Some (p, length s)
unfolding part_at
escape-at quote _ rest _ m (a_letter {c = c} {letter = e} is other) = ap (λ o. escape_by o e rest) (named quote c e m is other)
escape-at quote _ rest _ m the_quote = quote-read quote rest m
escape-at quote _ rest _ m (octal {ds = ds} are h) = rw are.0 (octal-read quote ds rest m are h)
escape-at quote _ rest _ m (two_digits {ds = ds} are) =
    rw are.0 (escape_code-read quote 120 (ds ++ rest) m refl refl ∙ byte-read 16 2 ds rest are (hex-byte ds are))
escape-at quote _ rest _ m (four_digits {ds = ds} are s) = rw are.0 (escape_code-read quote 117 (ds ++ rest) m refl refl ∙ char-read 6 4 ds rest are s)
escape-at quote _ rest _ m (eight_digits {ds = ds} are s) = rw are.0 (escape_code-read quote 85 (ds ++ rest) m refl refl ∙ char-read 10 8 ds rest are s)

pub escape-some : (quote : ℕ) (s : List ℕ) (p : Rune) → IsEscape quote s p → 0 < length s
escape-some quote s p h = grind (arith, nat_tests)

-- ---- what is computed the relation admits

-- the bytes begin with those of one rune, and say it before whatever those after them say
pub record FirstPart (quote : ℕ) (bs : List ℕ) (p : Spelled) : Type 0 where
  pub spelling : List ℕ
  pub rest : List ℕ
  pub is : bs ≡ spelling ++ rest
  pub count : length spelling ≡ p.1
  pub some : 0 < p.1
  pub leads : (ps : List Rune) → SpellsRunes quote rest ps → SpellsRunes quote (spelling ++ rest) (p.0 ∷ ps)

abbrev Begins : ℕ → List ℕ → Option Spelled → Type 0
Begins quote bs o = IfSome o (FirstPart quote bs)

-- by whether this byte comes first
if-byte : (quote e k : ℕ) (bs : List ℕ) (o p : Option Spelled) → Begins quote (92 ∷ k ∷ bs) o → Begins quote (92 ∷ e ∷ bs) p
    → Begins quote (92 ∷ e ∷ bs) (if nat_eq e k then o else p)
if-byte quote e k bs o p this that = cond_both _ _ _ (Begins quote (92 ∷ e ∷ bs)) (λ h. rw (eqb-true e k h) this) (λ h. that)

-- what stands for a byte is the letter of it, or the mark
letter-named : (quote e b : ℕ) → byte_named quote e ≡ Some b → (nat_eq b quote && nat_eq e quote) ≡ false → letter_of b letters ≡ Some e
letter-named quote e b is other = grind (arith, nat_tests)

no-mark : (quote e b : ℕ) → byte_named quote e ≡ Some b → (nat_eq b quote && nat_eq e quote) ≡ false → b ≡ 34 → ⊥
no-mark quote e b is other same = grind (arith, nat_tests)

lettered : (quote e b : ℕ) → byte_named quote e ≡ Some b → IsEscape quote (92 ∷ e ∷ []) (byte b)
lettered quote e b is = by (nat_eq b quote && nat_eq e quote) refl
  where
    by : (t : Bool) → (nat_eq b quote && nat_eq e quote) ≡ t → IsEscape quote (92 ∷ e ∷ []) (byte b)
    by true h =
        let both = and_parts (nat_eq b quote) (nat_eq e quote) h in
        rw (eqb-true e quote both.1, eqb-true b quote both.0) the_quote
    by false h = a_letter (letter-named quote e b is h) (λ e34. no-mark quote e b is h e34)

-- this many digits after these bytes
has-digits : (quote base count len : ℕ) (front : List ℕ) (made : ℕ → Rune) (test : ℕ → Bool) (bs : List ℕ) → 0 < len
    → ((ds : List ℕ) → length ds ≡ count → length (92 ∷ front ++ ds) ≡ len)
    → ((ds : List ℕ) → AreDigits base count ds → test (digits_value base ds) ≡ true → IsEscape quote (92 ∷ (front ++ ds)) (made (digits_value base ds)))
    → Begins quote (92 ∷ (front ++ bs)) (option_and_then (λ n. if test n then Some (made n, len) else None) (code base count bs))
has-digits quote base count len front made test bs some long escapes =
    let Has : Option Spelled → Type 0 = Begins quote (92 ∷ (front ++ bs)) in
    let said : ℕ → Option Spelled = λ n. if test n then Some (made n, len) else None in
    chained said (FirstPart quote (92 ∷ (front ++ bs))) (code base count bs)
    (code-tells base count bs (λ n. Has (said n)) (λ ds rest is are.
    let n = digits_value base ds in
    cond_both (test n) (Some (made n, len)) None Has (λ e. record {
      spelling = 92 ∷ (front ++ ds);
      rest = rest;
      is = ap (λ xs. 92 ∷ (front ++ xs)) is ∙ ap (λ xs. 92 ∷ xs) (sym (append_assoc front ds rest));
      count = long ds are.0;
      some = some;
      leads = λ ps more. an_escape (escapes ds are e) more;
    }) (λ e. tt))) (λ n has. has)

has-octal : (quote : ℕ) (bs : List ℕ) → Begins quote (92 ∷ bs) (option_and_then (as_byte 4) (code 8 3 bs))
has-octal quote bs =
    has-digits quote 8 3 4 [] byte (λ n. nat_lt n 256) bs (omega arith) (λ ds h. omega (arith, h)) (λ ds are e. octal are (ltb-true _ 256 e))

has-hex : (quote : ℕ) (bs : List ℕ) → Begins quote (92 ∷ 120 ∷ bs) (option_and_then (as_byte 4) (code 16 2 bs))
has-hex quote bs = has-digits quote 16 2 4 (120 ∷ []) byte (λ n. nat_lt n 256) bs (omega arith) (λ ds h. omega (arith, h)) (λ ds are e. two_digits are)

-- by this many digits of base 16 after this first byte
has-char : (quote head count : ℕ) (bs : List ℕ)
    → ((ds : List ℕ) → AreDigits 16 count ds → scalar (digits_value 16 ds) ≡ true → IsEscape quote (92 ∷ head ∷ ds) (char (digits_value 16 ds)))
    → Begins quote (92 ∷ head ∷ bs) (option_and_then (as_char (2 + count)) (code 16 count bs))
has-char quote head count bs made =
    has-digits quote 16 count (2 + count) (head ∷ []) char scalar bs (omega arith) (λ ds h. omega (arith, h)) made

has-escape_code : (quote e : ℕ) (bs : List ℕ) → Begins quote (92 ∷ e ∷ bs) (escape_code e bs)
has-escape_code quote e bs =
    if-byte quote e 120 bs _ _ (has-hex quote bs)
    (if-byte quote e 117 bs _ _ (has-char quote 117 4 bs (λ ds are s. four_digits are s))
    (if-byte quote e 85 bs _ _ (has-char quote 85 8 bs (λ ds are s. eight_digits are s)) (has-octal quote (e ∷ bs))))

pub has-escape : (quote : ℕ) (bs : List ℕ) → Begins quote (92 ∷ bs) (escape quote bs)
has-escape quote [] = tt
has-escape quote (e ∷ bs) = go (byte_named quote e) refl
  where
    go : (o : Option ℕ) → byte_named quote e ≡ o → Begins quote (92 ∷ e ∷ bs) (escape_by o e bs)
    go None is = has-escape_code quote e bs
    go (Some b) is = record {
      spelling = 92 ∷ e ∷ [];
      rest = bs;
      is = refl;
      count = refl;
      some = omega arith;
      leads = λ ps more. an_escape (lettered quote e b is) more;
    }
