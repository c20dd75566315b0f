-- A string of the grammar is one by the definitions of `json`.
use Rattle.std.proofs.Common.{◌≡◌, ◌≢◌, ◌<◌, ◌≤◌, ◌⊎◌, inl, ℕ, ◌+◌, ◌*◌, ◌==◌, Bool, true, false, cond, List, [], ◌∷◌, ◌++◌, Option, Some, None, arith, refl, ◌∙◌, ap}
use Rattle.std.proofs.lemmas.Grind.{common_steps}
use Rattle.std.specs.Char.{is_digit, digit_value, encode_utf8}
use Rattle.std.specs.Prelude.{nat_lt, is_some}
use Rattle.json.specs.Lex as lexer
use Rattle.json.specs.Lex.{lex, lex_byte, Mode, Lexeme}
use Rattle.json.specs.Text as kit
use Rattle.json.specs.Text.{content, code_unit, is_high_surrogate, is_low_surrogate, short_escape, surrogate_pair}
use Rattle.json.specs.Word.{is_operator, is_space}
use Rattle.tmpl_formats.proofs.JsonGrammar as own
use Rattle.tmpl_formats.proofs.JsonGrammar.{HasHex, HasUnit, HasHigh, HasLow, HasString}
use Rattle.tmpl_formats.specs.computed.JsonBytes.{hex_value, is_plain, is_short_escape}

-- ---- the lexer passes over bytes of a string

skip_class : (t u : Bool) (x : ℕ) (xs : List ℕ) (k : Mode → List Lexeme)
    → lex_byte lexer.in_string (cond t lexer.operator (cond u lexer.space lexer.other)) x xs k ≡ k lexer.in_string
skip_class true u x xs k = refl
skip_class false true x xs k = refl
skip_class false false x xs k = refl

unequal : (m n : ℕ) → (m ≡ n → ⊥) → (m == n) ≡ false
unequal m n h = grind (arith, common_steps)

pub lex_inside : (b : ℕ) (t : List ℕ) → b ≢ 34 → b ≢ 92 → lex lexer.in_string (b ∷ t) ≡ lex lexer.in_string t
unfolding lex
lex_inside b t q s = rw (unequal b 34 q, unequal b 92 s) (skip_class (is_operator b) (is_space b) b t (λ next. lex next t))

-- ---- digits

hex_digit : (b : ℕ) → hex_value b < 16 → digit_value b ≡ hex_value b
hex_digit b h = grind (arith, common_steps)

is_hex : (b : ℕ) → hex_value b < 16 → is_digit b 16 ≡ true
is_hex b h = grind (arith, common_steps)

hex_other : (b : ℕ) → hex_value b < 16 → (b ≢ 34) × (b ≢ 92)
hex_other b h = (λ e. let f : 16 < 16 = (rw e at h) in omega arith, λ e. let f : 16 < 16 = (rw e at h) in omega arith)

lex_hex : (b : ℕ) (t : List ℕ) → hex_value b < 16 → lex lexer.in_string (b ∷ t) ≡ lex lexer.in_string t
lex_hex b t h = lex_inside b t (hex_other b h).0 (hex_other b h).1

-- the digits of a code unit
record Hex1 (text rest : List ℕ) : Type 0 where
  d : ℕ
  is : text ≡ d ∷ rest
  d_hex : hex_value d < 16

record Hex2 (text rest : List ℕ) : Type 0 where
  c : ℕ
  d : ℕ
  is : text ≡ c ∷ d ∷ rest
  c_hex : hex_value c < 16
  d_hex : hex_value d < 16

record Hex3 (text rest : List ℕ) : Type 0 where
  b : ℕ
  c : ℕ
  d : ℕ
  is : text ≡ b ∷ c ∷ d ∷ rest
  b_hex : hex_value b < 16
  c_hex : hex_value c < 16
  d_hex : hex_value d < 16

hex_none : (n : ℕ) (text rest : List ℕ) → n ≡ 0 → HasHex n text rest → text ≡ rest
hex_none _ text _ e own.no_digit = refl
hex_none _ _ rest e (own.a_digit v h) = absurd (omega arith)

hex_one : (n : ℕ) (text rest : List ℕ) → n ≡ 1 → HasHex n text rest → Hex1 text rest
hex_one _ text _ e own.no_digit = absurd (omega arith)
hex_one _ _ rest e (own.a_digit {count} {b} {text} v h) = let z : count ≡ 0 = omega arith in record { d = b; is = ap (λ t. b ∷ t) (hex_none count text rest z h); d_hex = v }

hex_two : (n : ℕ) (text rest : List ℕ) → n ≡ 2 → HasHex n text rest → Hex2 text rest
hex_two _ text _ e own.no_digit = absurd (omega arith)
hex_two _ _ rest e (own.a_digit {count} {b} {text} v h) =
    let z : count ≡ 1 = omega arith in
    let one = hex_one count text rest z h in
    record { c = b; d = one.d; is = ap (λ t. b ∷ t) one.is; c_hex = v; d_hex = one.d_hex }

hex_three : (n : ℕ) (text rest : List ℕ) → n ≡ 3 → HasHex n text rest → Hex3 text rest
hex_three _ text _ e own.no_digit = absurd (omega arith)
hex_three _ _ rest e (own.a_digit {count} {b} {text} v h) =
    let z : count ≡ 2 = omega arith in
    let two = hex_two count text rest z h in
    record { b = b; c = two.c; d = two.d; is = ap (λ t. b ∷ t) two.is; b_hex = v; c_hex = two.c_hex; d_hex = two.d_hex }

abbrev unit_value : ℕ → ℕ → ℕ → ℕ → ℕ
unit_value a b c d = hex_value a * 4096 + hex_value b * 256 + hex_value c * 16 + hex_value d

code_of : (a b c d : ℕ) → hex_value a < 16 → hex_value b < 16 → hex_value c < 16 → hex_value d < 16 → code_unit a b c d ≡ Some (unit_value a b c d)
unfolding code_unit
code_of a b c d ha hb hc hd = rw (is_hex a ha, is_hex b hb, is_hex c hc, is_hex d hd, hex_digit a ha, hex_digit b hb, hex_digit c hc, hex_digit d hd) refl

not_high : (u : ℕ) → (u < 55296) ⊎ (57344 ≤ u) → is_high_surrogate u ≡ false
not_high u h = grind (arith, common_steps)

not_low : (u : ℕ) → (u < 55296) ⊎ (57344 ≤ u) → is_low_surrogate u ≡ false
not_low u h = grind (arith, common_steps)

are_high : (u : ℕ) → 55296 ≤ u → u < 56320 → is_high_surrogate u ≡ true
are_high u h i = grind (arith, common_steps)

are_low : (u : ℕ) → 56320 ≤ u → u < 57344 → is_low_surrogate u ≡ true
are_low u h i = grind (arith, common_steps)

-- ---- content

-- the lexer after four digits, and after an escape of them
lex_unit : (a b c d : ℕ) (t : List ℕ) → hex_value a < 16 → hex_value b < 16 → hex_value c < 16 → hex_value d < 16
    → lex lexer.in_string (a ∷ b ∷ c ∷ d ∷ t) ≡ lex lexer.in_string t
lex_unit a b c d t ha hb hc hd = lex_hex a (b ∷ c ∷ d ∷ t) ha ∙ (lex_hex b (c ∷ d ∷ t) hb ∙ (lex_hex c (d ∷ t) hc ∙ lex_hex d t hd))

lex_escape : (b : ℕ) (t : List ℕ) → lex lexer.in_string (92 ∷ b ∷ t) ≡ lex lexer.in_string t
unfolding lex
lex_escape b t = refl

plain_unit : (a b c d : ℕ) (xs s : List ℕ) → hex_value a < 16 → hex_value b < 16 → hex_value c < 16 → hex_value d < 16
    → (unit_value a b c d < 55296) ⊎ (57344 ≤ unit_value a b c d) → content kit.plain xs ≡ Some s
    → content kit.after_u (a ∷ b ∷ c ∷ d ∷ xs) ≡ Some (encode_utf8 (unit_value a b c d) ++ s)
unfolding content
plain_unit a b c d xs s ha hb hc hd n h = rw (code_of a b c d ha hb hc hd, not_high (unit_value a b c d) n, not_low (unit_value a b c d) n, h) refl

low_unit : (u a b c d : ℕ) (xs s : List ℕ) → hex_value a < 16 → hex_value b < 16 → hex_value c < 16 → hex_value d < 16
    → is_low_surrogate (unit_value a b c d) ≡ true → content kit.plain xs ≡ Some s
    → content (kit.after_high u) (92 ∷ 117 ∷ a ∷ b ∷ c ∷ d ∷ xs) ≡ Some (encode_utf8 (surrogate_pair u (unit_value a b c d)) ++ s)
unfolding content
low_unit u a b c d xs s ha hb hc hd l h = rw (code_of a b c d ha hb hc hd, l, h) refl

high_unit : (a b c d : ℕ) (xs s : List ℕ) → hex_value a < 16 → hex_value b < 16 → hex_value c < 16 → hex_value d < 16
    → is_high_surrogate (unit_value a b c d) ≡ true → content (kit.after_high (unit_value a b c d)) xs ≡ Some s
    → content kit.after_u (a ∷ b ∷ c ∷ d ∷ xs) ≡ Some s
unfolding content
high_unit a b c d xs s ha hb hc hd i h = rw (code_of a b c d ha hb hc hd, i) h

-- four digits that are no surrogate
record Unit4 (text rest : List ℕ) : Type 0 where
  a : ℕ
  b : ℕ
  c : ℕ
  d : ℕ
  is : text ≡ a ∷ b ∷ c ∷ d ∷ rest
  a_hex : hex_value a < 16
  b_hex : hex_value b < 16
  c_hex : hex_value c < 16
  d_hex : hex_value d < 16
  range : (unit_value a b c d < 55296) ⊎ (57344 ≤ unit_value a b c d)

other_range : (a b c d : ℕ) → a < 16 → b < 16 → c < 16 → d < 16 → a ≢ 13 → (a * 4096 + b * 256 + c * 16 + d < 55296) ⊎ (57344 ≤ a * 4096 + b * 256 + c * 16 + d)
other_range a b c d ha hb hc hd n = grind arith

below_range : (a b c d : ℕ) → a ≡ 13 → b < 8 → c < 16 → d < 16 → a * 4096 + b * 256 + c * 16 + d < 55296
below_range a b c d ha hb hc hd = omega arith

high_range : (a b c d : ℕ) → a ≡ 13 → 8 ≤ b → b < 12 → c < 16 → d < 16 → (55296 ≤ a * 4096 + b * 256 + c * 16 + d) × (a * 4096 + b * 256 + c * 16 + d < 56320)
high_range a b c d ha lb hb hc hd = (omega arith, omega arith)

low_range : (a b c d : ℕ) → a ≡ 13 → 12 ≤ b → b < 16 → c < 16 → d < 16 → (56320 ≤ a * 4096 + b * 256 + c * 16 + d) × (a * 4096 + b * 256 + c * 16 + d < 57344)
low_range a b c d ha lb hb hc hd = (omega arith, omega arith)

unit_digits : (text rest : List ℕ) → HasUnit text rest → Unit4 text rest
unit_digits _ rest (own.other {b} {text} v n h) =
    let x = hex_three 3 text rest refl h in
    record {
      a = b;
      b = x.b;
      c = x.c;
      d = x.d;
      is = ap (λ t. b ∷ t) x.is;
      a_hex = v;
      b_hex = x.b_hex;
      c_hex = x.c_hex;
      d_hex = x.d_hex;
      range = other_range (hex_value b) (hex_value x.b) (hex_value x.c) (hex_value x.d) v x.b_hex x.c_hex x.d_hex n;
    }
unit_digits _ rest (own.below {b} {c} {text} v w h) =
    let x = hex_two 2 text rest refl h in
    record {
      a = b;
      b = c;
      c = x.c;
      d = x.d;
      is = ap (λ t. b ∷ c ∷ t) x.is;
      a_hex = omega arith;
      b_hex = omega arith;
      c_hex = x.c_hex;
      d_hex = x.d_hex;
      range = inl (below_range (hex_value b) (hex_value c) (hex_value x.c) (hex_value x.d) v w x.c_hex x.d_hex);
    }

-- what a string comes to: its content, and the lexer after it
pub record Reads (text rest : List ℕ) : Type 0 where
  pub content_is : List ℕ
  pub content_of : content kit.plain text ≡ Some content_is
  pub lexed : lex lexer.in_string text ≡ lex lexer.between rest

close_lex : (rest : List ℕ) → lex lexer.in_string (34 ∷ rest) ≡ lex lexer.between rest
unfolding lex
close_lex rest = refl

close_content : (rest : List ℕ) → content kit.plain (34 ∷ rest) ≡ Some []
unfolding content
close_content rest = refl

plain_tests : (b : ℕ) → is_plain b ≡ true → ((b == 34) ≡ false) × ((b == 92) ≡ false) × (nat_lt b 32 ≡ false)
plain_tests b h = (grind (arith, common_steps), grind (arith, common_steps), grind (arith, common_steps))

plain_content : (b : ℕ) (t s : List ℕ) → is_plain b ≡ true → content kit.plain t ≡ Some s → content kit.plain (b ∷ t) ≡ Some (b ∷ [] ++ s)
unfolding content
plain_content b t s p h = let x = plain_tests b p in rw (x.0, x.1, x.2, h) refl

plain_bytes : (b : ℕ) → is_plain b ≡ true → (b ≢ 34) × (b ≢ 92)
plain_bytes b p = (grind (arith, common_steps), grind (arith, common_steps))

some_of : (o : Option ℕ) → is_some o ≡ true → (c : ℕ) × (o ≡ Some c)
some_of None h = cc
some_of (Some c) h = (c, refl)

short_some : (b : ℕ) → is_short_escape b ≡ true → is_some (short_escape b) ≡ true
unfolding short_escape
short_some b h = grind (arith, common_steps)

short_other : (b : ℕ) → is_short_escape b ≡ true → (b == 117) ≡ false
short_other b h = grind (arith, common_steps)

short_content : (b c : ℕ) (t s : List ℕ) → (b == 117) ≡ false → short_escape b ≡ Some c → content kit.plain t ≡ Some s
    → content kit.plain (92 ∷ b ∷ t) ≡ Some (c ∷ [] ++ s)
unfolding content
short_content b c t s n e h = rw (n, e, h) refl

unit_content : (t s : List ℕ) → content kit.after_u t ≡ Some s → content kit.plain (92 ∷ 117 ∷ t) ≡ Some s
unfolding content
unit_content t s h = h

-- the digits of a high and a low surrogate
record Pair4 (low high : ℕ) (text rest : List ℕ) : Type 0 where
  a : ℕ
  b : ℕ
  c : ℕ
  d : ℕ
  is : text ≡ a ∷ b ∷ c ∷ d ∷ rest
  a_hex : hex_value a < 16
  b_hex : hex_value b < 16
  c_hex : hex_value c < 16
  d_hex : hex_value d < 16
  least : low ≤ unit_value a b c d
  most : unit_value a b c d < high

high_digits : (text rest : List ℕ) → HasHigh text rest → Pair4 55296 56320 text rest
high_digits _ rest (own.high {b} {c} {text} v l w h) =
    let x = hex_two 2 text rest refl h in
    let r = high_range (hex_value b) (hex_value c) (hex_value x.c) (hex_value x.d) v l w x.c_hex x.d_hex in
    record { a = b; b = c; c = x.c; d = x.d; is = ap (λ t. b ∷ c ∷ t) x.is; a_hex = omega arith; b_hex = omega arith; c_hex = x.c_hex; d_hex = x.d_hex; least = r.0; most = r.1 }

low_digits : (text rest : List ℕ) → HasLow text rest → Pair4 56320 57344 text rest
low_digits _ rest (own.low {b} {c} {text} v l w h) =
    let x = hex_two 2 text rest refl h in
    let r = low_range (hex_value b) (hex_value c) (hex_value x.c) (hex_value x.d) v l w x.c_hex x.d_hex in
    record { a = b; b = c; c = x.c; d = x.d; is = ap (λ t. b ∷ c ∷ t) x.is; a_hex = omega arith; b_hex = w; c_hex = x.c_hex; d_hex = x.d_hex; least = r.0; most = r.1 }

after_unit : (t more rest : List ℕ) → Unit4 t more → Reads more rest → Reads (92 ∷ 117 ∷ t) rest
after_unit t more rest u r = rw u.is (record {
  content_is = encode_utf8 (unit_value u.a u.b u.c u.d) ++ r.content_is;
  content_of = unit_content _ _ (plain_unit u.a u.b u.c u.d more r.content_is u.a_hex u.b_hex u.c_hex u.d_hex u.range r.content_of);
  lexed = lex_escape 117 (u.a ∷ u.b ∷ u.c ∷ u.d ∷ more) ∙ (lex_unit u.a u.b u.c u.d more u.a_hex u.b_hex u.c_hex u.d_hex ∙ r.lexed);
})

after_pair : (t more most rest : List ℕ) → Pair4 55296 56320 t (92 ∷ 117 ∷ more) → Pair4 56320 57344 more most → Reads most rest → Reads (92 ∷ 117 ∷ t) rest
after_pair t more most rest u v r =
    let tail = v.a ∷ v.b ∷ v.c ∷ v.d ∷ most in
    let one = unit_value u.a u.b u.c u.d in
    let two = unit_value v.a v.b v.c v.d in
    rw (u.is, v.is) (record {
      content_is = encode_utf8 (surrogate_pair one two) ++ r.content_is;
      content_of = unit_content _ _
          (high_unit u.a u.b u.c u.d (92 ∷ 117 ∷ tail) (encode_utf8 (surrogate_pair one two) ++ r.content_is) u.a_hex u.b_hex u.c_hex u.d_hex (are_high one u.least u.most)
          (low_unit one v.a v.b v.c v.d most r.content_is v.a_hex v.b_hex v.c_hex v.d_hex (are_low two v.least v.most) r.content_of));
      lexed = lex_escape 117 (u.a ∷ u.b ∷ u.c ∷ u.d ∷ 92 ∷ 117 ∷ tail)
          ∙ (lex_unit u.a u.b u.c u.d (92 ∷ 117 ∷ tail) u.a_hex u.b_hex u.c_hex u.d_hex
          ∙ (lex_escape 117 tail ∙ (lex_unit v.a v.b v.c v.d most v.a_hex v.b_hex v.c_hex v.d_hex ∙ r.lexed)));
    })

-- a string of the grammar
pub string_reads : (text rest : List ℕ) → HasString text rest → Reads text rest
string_reads _ rest own.close = record { content_is = []; content_of = close_content rest; lexed = close_lex rest }
string_reads _ rest (own.plain {b} {text} p h) =
    let r = string_reads text rest h in
    record {
      content_is = b ∷ [] ++ r.content_is;
      content_of = plain_content b text r.content_is p r.content_of;
      lexed = lex_inside b text (plain_bytes b p).0 (plain_bytes b p).1 ∙ r.lexed;
    }
string_reads _ rest (own.short {b} {text} p h) =
    let r = string_reads text rest h in
    let c = some_of (short_escape b) (short_some b p) in
    record {
      content_is = c.0 ∷ [] ++ r.content_is;
      content_of = short_content b c.0 text r.content_is (short_other b p) c.1 r.content_of;
      lexed = lex_escape b text ∙ r.lexed;
    }
string_reads _ rest (own.unit {text} {more} u h) = after_unit text more rest (unit_digits text more u) (string_reads more rest h)
string_reads _ rest (own.pair {text} {more} {most} u v h) = after_pair text more most rest (high_digits text _ u) (low_digits more most v) (string_reads most rest h)
