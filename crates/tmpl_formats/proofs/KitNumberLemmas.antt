-- A number of the grammar is one by the definitions of `json`.
use Rattle.std.proofs.Common.{◌≡◌, ◌⊎◌, inl, inr, ℕ, suc, ◌+◌, ◌-◌, ◌==◌, Bool, true, false, cond, ◌||◌, List, [], ◌∷◌, drop, take, length, Option, Some, arith, refl, ◌∙◌, ap}
use Rattle.std.proofs.lemmas.Grind.{common_steps}
use Rattle.std.specs.Char.{is_ascii_digit}
use Rattle.std.specs.List.{prefix_len}
use Rattle.std.specs.Prelude.{option_and_then}
use Rattle.json.specs.Lex as lexer
use Rattle.json.specs.Lex.{lex, lex_byte, class, Mode, Lexeme}
use Rattle.json.specs.Token as kit
use Rattle.json.specs.Token.{Token}
use Rattle.json.specs.Word.{is_operator, is_space, head, ends_word, after_digits, after_minus, after_sign, after_whole, after_fraction, after_exponent, after_number, number_before, word}
use Rattle.tmpl_formats.proofs.JsonGrammar as own
use Rattle.tmpl_formats.proofs.JsonGrammar.{HasDigits, HasSome, HasExponent, HasFraction, HasUnsigned, HasNumber}

-- what a byte at which a word ends is not
record EndsAt (h : ℕ) : Type 0 where
  no_digit : is_ascii_digit h ≡ false
  no_dot : (h == 46) ≡ false
  no_e : ((h == 101) || (h == 69)) ≡ false

ends_at : (h : ℕ) → (is_operator h || is_space h) ≡ true → EndsAt h
ends_at h e = record { no_digit = grind (arith, common_steps); no_dot = grind (arith, common_steps); no_e = grind (arith, common_steps) }

-- no digit is next
abbrev Stops : List ℕ → Type 0
Stops t = is_ascii_digit (head t) ≡ false

no_prefix : (t : List ℕ) → Stops t → prefix_len is_ascii_digit t ≡ 0
no_prefix [] h = refl
no_prefix (b ∷ t) h = rw h refl

one_add : (n : ℕ) → 1 + n ≡ suc n
one_add n = omega arith

drop_digits : (text rest : List ℕ) → HasDigits text rest → Stops rest → drop (prefix_len is_ascii_digit text) text ≡ rest
drop_digits text _ own.no_more h = rw (no_prefix text h) refl
drop_digits _ rest (own.digit {b} {text} d m) h = rw (d, one_add) (drop_digits text rest m h)

not_zero : (n : ℕ) → (1 + n == 0) ≡ false
not_zero n = grind (arith, common_steps)

some_digits : (text rest : List ℕ) → HasSome text rest → Stops rest → after_digits text ≡ Some rest
some_digits _ rest (own.some {b} {text} d m) h = rw (d, not_zero, one_add) (ap Some (drop_digits text rest m h))

-- ---- exponents and fractions

abbrev pub Ends : List ℕ → Type 0
Ends t = ends_word t ≡ true

no_sign : (h : ℕ) → is_ascii_digit h ≡ true → ((h == 45) || (h == 43)) ≡ false
no_sign h d = grind (arith, common_steps)

unsigned_exponent : (text rest : List ℕ) → HasSome text rest → Stops rest → after_digits (after_sign text) ≡ Some rest
unsigned_exponent _ rest (own.some {b} {text} d m) h = rw (no_sign b d) (some_digits (b ∷ text) rest (own.some d m) h)

exponent_at : (b : ℕ) (t rest : List ℕ) → (b ≡ 101) ⊎ (b ≡ 69) → after_digits (after_sign t) ≡ Some rest → after_exponent (b ∷ t) ≡ Some rest
exponent_at b t rest (inl e) h = rw e h
exponent_at b t rest (inr e) h = rw e h

signed_at : (c : ℕ) (t : List ℕ) → (c ≡ 43) ⊎ (c ≡ 45) → after_sign (c ∷ t) ≡ t
signed_at c t (inl e) = rw e refl
signed_at c t (inr e) = rw e refl

exponents : (text rest : List ℕ) → HasExponent text rest → Ends rest → after_exponent text ≡ Some rest
exponents text _ own.no_exponent h = rw (ends_at (head text) h).no_e refl
exponents _ rest (own.unsigned {b} {text} e m) h = exponent_at b text rest e (unsigned_exponent text rest m (ends_at (head rest) h).no_digit)
exponents _ rest (own.signed {b} {c} {text} e f m) h =
    exponent_at b (c ∷ text) rest e (rw (signed_at c text f) (some_digits text rest m (ends_at (head rest) h).no_digit))

-- the head of an exponent, or of what follows a number
record NoDigit (h : ℕ) : Type 0 where
  stops : is_ascii_digit h ≡ false
  no_point : (h == 46) ≡ false

letter_head : (b : ℕ) → (b ≡ 101) ⊎ (b ≡ 69) → NoDigit b
letter_head b (inl e) = rw e (record { stops = refl; no_point = refl })
letter_head b (inr e) = rw e (record { stops = refl; no_point = refl })

exponent_head : (text rest : List ℕ) → HasExponent text rest → Ends rest → NoDigit (head text)
exponent_head text _ own.no_exponent h = record { stops = (ends_at (head text) h).no_digit; no_point = (ends_at (head text) h).no_dot }
exponent_head _ rest (own.unsigned {b} {text} e m) h = letter_head b e
exponent_head _ rest (own.signed {b} {c} {text} e f m) h = letter_head b e

abbrev from_fraction : List ℕ → Option (List ℕ)
from_fraction t = option_and_then after_exponent (after_fraction t)

fractions : (text rest : List ℕ) → HasFraction text rest → Ends rest → from_fraction text ≡ Some rest
fractions text rest (own.no_fraction x) h = rw (exponent_head text rest x h).no_point (exponents text rest x h)
fractions _ rest (own.fraction {text} {more} m x) h = rw (some_digits text more m (exponent_head more rest x h).stops) (exponents more rest x h)

fraction_stops : (text rest : List ℕ) → HasFraction text rest → Ends rest → Stops text
fraction_stops text rest (own.no_fraction x) h = (exponent_head text rest x h).stops
fraction_stops _ rest (own.fraction m x) h = refl

abbrev from_whole : List ℕ → Option (List ℕ)
from_whole t = option_and_then after_exponent (option_and_then after_fraction (after_whole t))

digit_no_zero : (b : ℕ) → (b ≡ 48 → ⊥) → (b == 48) ≡ false
digit_no_zero b h = grind (arith, common_steps)

wholes : (text rest : List ℕ) → HasUnsigned text rest → Ends rest → from_whole text ≡ Some rest
wholes _ rest (own.zero {text} f) h = fractions text rest f h
wholes _ rest (own.whole {b} {text} {more} d n m f) h = rw (digit_no_zero b n, some_digits (b ∷ text) more (own.some d m) (fraction_stops more rest f h)) (fractions more rest f h)

digit_no_minus : (b : ℕ) → is_ascii_digit b ≡ true → (b == 45) ≡ false
digit_no_minus b d = grind (arith, common_steps)

unsigned_minus : (text rest : List ℕ) → HasUnsigned text rest → after_minus text ≡ text
unsigned_minus _ rest (own.zero f) = refl
unsigned_minus _ rest (own.whole {b} d n m f) = rw (digit_no_minus b d) refl

numbers : (text rest : List ℕ) → HasNumber text rest → Ends rest → after_number text ≡ Some rest
unfolding after_number
numbers text rest (own.positive u) h = rw (unsigned_minus text rest u) (wholes text rest u h)
numbers _ rest (own.negative {text} u) h = wholes text rest u h

-- ---- the token of a number, and the lexer after it

number_of : (t rest : List ℕ) → Ends rest → (s : List ℕ) × (number_before t (Some rest) ≡ kit.number s)
number_of t rest h = (take (length t - length rest) t, rw h refl)

-- a byte that begins a number
abbrev begins : ℕ → Bool
begins b = (b == 45) || is_ascii_digit b

begins_no_letter : (b : ℕ) → begins b ≡ true → ((b == 116) ≡ false) × ((b == 102) ≡ false) × ((b == 110) ≡ false)
begins_no_letter b h = (grind (arith, common_steps), grind (arith, common_steps), grind (arith, common_steps))

word_at : (b : ℕ) (xs rest : List ℕ) → begins b ≡ true → after_number (b ∷ xs) ≡ Some rest → Ends rest → (s : List ℕ) × (word (b ∷ xs) ≡ kit.number s)
unfolding word
word_at b xs rest n e h =
    let x = begins_no_letter b n in
    let found = number_of (b ∷ xs) rest h in
    (found.0, rw (x.0, x.1, x.2, e) found.1)

-- a byte that may stand in a number is of no other class
abbrev in_number : ℕ → Bool
in_number b = is_ascii_digit b || (b == 45) || (b == 43) || (b == 46) || (b == 101) || (b == 69)

number_class : (b : ℕ) → in_number b ≡ true → class b ≡ lexer.other
number_class b h = grind (arith, common_steps)

lex_more : (b : ℕ) (t : List ℕ) → in_number b ≡ true → lex lexer.in_word (b ∷ t) ≡ lex lexer.in_word t
unfolding lex
lex_more b t h = rw (number_class b h) refl

lex_first : (b : ℕ) (t : List ℕ) → in_number b ≡ true → lex lexer.between (b ∷ t) ≡ lexer.token (word (b ∷ t)) ∷ lex lexer.in_word t
unfolding lex
lex_first b t h = rw (number_class b h) refl

digit_in : (b : ℕ) → is_ascii_digit b ≡ true → in_number b ≡ true
digit_in b h = grind (arith, common_steps)

letter_in : (b : ℕ) → (b ≡ 101) ⊎ (b ≡ 69) → in_number b ≡ true
letter_in b h = grind (arith, common_steps)

sign_in : (b : ℕ) → (b ≡ 43) ⊎ (b ≡ 45) → in_number b ≡ true
sign_in b h = grind (arith, common_steps)

abbrev Skips : List ℕ → List ℕ → Type 0
Skips text rest = lex lexer.in_word text ≡ lex lexer.in_word rest

skip_digits : (text rest : List ℕ) → HasDigits text rest → Skips text rest
skip_digits _ rest own.no_more = refl
skip_digits _ rest (own.digit {b} {text} d m) = lex_more b text (digit_in b d) ∙ skip_digits text rest m

skip_some : (text rest : List ℕ) → HasSome text rest → Skips text rest
skip_some _ rest (own.some {b} {text} d m) = lex_more b text (digit_in b d) ∙ skip_digits text rest m

skip_exponent : (text rest : List ℕ) → HasExponent text rest → Skips text rest
skip_exponent _ rest own.no_exponent = refl
skip_exponent _ rest (own.unsigned {b} {text} e m) = lex_more b text (letter_in b e) ∙ skip_some text rest m
skip_exponent _ rest (own.signed {b} {c} {text} e f m) = lex_more b (c ∷ text) (letter_in b e) ∙ (lex_more c text (sign_in c f) ∙ skip_some text rest m)

skip_fraction : (text rest : List ℕ) → HasFraction text rest → Skips text rest
skip_fraction text rest (own.no_fraction x) = skip_exponent text rest x
skip_fraction _ rest (own.fraction {text} {more} m x) = lex_more 46 text refl ∙ (skip_some text more m ∙ skip_exponent more rest x)

-- after a word
no_quote : (b : ℕ) → (is_operator b || is_space b) ≡ true → ((b == 34) ≡ false) × ((b == 92) ≡ false)
no_quote b h = (grind (arith, common_steps), grind (arith, common_steps))

end_class : (t u : Bool) (x : ℕ) (xs : List ℕ) (k : Mode → List Lexeme) → (t || u) ≡ true
    → lex_byte lexer.in_word (cond t lexer.operator (cond u lexer.space lexer.other)) x xs k
    ≡ lex_byte lexer.between (cond t lexer.operator (cond u lexer.space lexer.other)) x xs k
end_class false false x xs k h = cc
end_class _ _ x xs k h = refl

lex_end : (rest : List ℕ) → Ends rest → lex lexer.in_word rest ≡ lex lexer.between rest
unfolding lex
lex_end [] h = refl
lex_end (b ∷ t) h = let x = no_quote b h in rw (x.0, x.1) (end_class (is_operator b) (is_space b) b t (λ next. lex next t) h)

-- a token, and the lexer after it
pub record Lexes (text rest : List ℕ) (is_it : Token → Type 0) : Type 0 where
  pub the_token : Token
  pub fits : is_it the_token
  pub lexed : lex lexer.between text ≡ lexer.token the_token ∷ lex lexer.between rest

pub data IsNumberToken : Token → Type 0 where
  a_number : (s : List ℕ) → IsNumberToken (kit.number s)

number_lexes : (b : ℕ) (text rest : List ℕ) → begins b ≡ true → in_number b ≡ true → HasNumber (b ∷ text) rest → Skips text rest → Ends rest → Lexes (b ∷ text) rest IsNumberToken
number_lexes b text rest n i x skip h =
    let w = word_at b text rest n (numbers (b ∷ text) rest x h) h in
    record {
      the_token = kit.number w.0;
      fits = a_number w.0;
      lexed = lex_first b text i ∙ (ap (λ t. lexer.token t ∷ lex lexer.in_word text) w.1 ∙ ap (λ ls. lexer.token (kit.number w.0) ∷ ls) (skip ∙ lex_end rest h));
    }

digit_begins : (b : ℕ) → is_ascii_digit b ≡ true → begins b ≡ true
digit_begins b h = grind (arith, common_steps)

skip_unsigned : (text rest : List ℕ) → HasUnsigned text rest → Skips text rest
skip_unsigned _ rest (own.zero {text} f) = lex_more 48 text refl ∙ skip_fraction text rest f
skip_unsigned _ rest (own.whole {b} {text} {more} d n m f) = lex_more b text (digit_in b d) ∙ (skip_digits text more m ∙ skip_fraction more rest f)

pub number_token : (text rest : List ℕ) → HasNumber text rest → Ends rest → Lexes text rest IsNumberToken
number_token _ rest (own.positive (own.zero {text} f)) h = number_lexes 48 text rest refl refl (own.positive (own.zero f)) (skip_fraction text rest f) h
number_token _ rest (own.positive (own.whole {b} {text} {more} d n m f)) h =
    number_lexes b text rest (digit_begins b d) (digit_in b d) (own.positive (own.whole d n m f)) (skip_digits text more m ∙ skip_fraction more rest f) h
number_token _ rest (own.negative {text} u) h = number_lexes 45 text rest refl refl (own.negative u) (skip_unsigned text rest u) h

true_word : (rest : List ℕ) → Ends rest → word (116 ∷ 114 ∷ 117 ∷ 101 ∷ rest) ≡ kit.boolean true
unfolding word
true_word rest h = rw h refl

false_word : (rest : List ℕ) → Ends rest → word (102 ∷ 97 ∷ 108 ∷ 115 ∷ 101 ∷ rest) ≡ kit.boolean false
unfolding word
false_word rest h = rw h refl

null_word : (rest : List ℕ) → Ends rest → word (110 ∷ 117 ∷ 108 ∷ 108 ∷ rest) ≡ kit.null
unfolding word
null_word rest h = rw h refl

pub true_lexed : (rest : List ℕ) → Ends rest → lex lexer.between (116 ∷ 114 ∷ 117 ∷ 101 ∷ rest) ≡ lexer.token (kit.boolean true) ∷ lex lexer.between rest
unfolding lex
true_lexed rest h = rw (true_word rest h) (ap (λ ls. lexer.token (kit.boolean true) ∷ ls) (lex_end rest h))

pub false_lexed : (rest : List ℕ) → Ends rest → lex lexer.between (102 ∷ 97 ∷ 108 ∷ 115 ∷ 101 ∷ rest) ≡ lexer.token (kit.boolean false) ∷ lex lexer.between rest
unfolding lex
false_lexed rest h = rw (false_word rest h) (ap (λ ls. lexer.token (kit.boolean false) ∷ ls) (lex_end rest h))

pub null_lexed : (rest : List ℕ) → Ends rest → lex lexer.between (110 ∷ 117 ∷ 108 ∷ 108 ∷ rest) ≡ lexer.token kit.null ∷ lex lexer.between rest
unfolding lex
null_lexed rest h = rw (null_word rest h) (ap (λ ls. lexer.token kit.null ∷ ls) (lex_end rest h))
