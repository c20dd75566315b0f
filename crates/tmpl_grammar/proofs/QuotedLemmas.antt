-- For `unquote`: the parts of a text between quotes, from the first one on.
use Rattle.std.proofs.Common.{◌≡◌, ℕ, zero, suc, ◌<◌, ◌≤◌, List, [], ◌∷◌, ◌++◌, length, drop, Option, Some, None, refl, sym, ap, arith, option_map}
use Rattle.std.proofs.Common.{append_assoc, append-nil, flat_map}
use Rattle.tmpl_values.specs.Rune.{Rune, bytes_in}
use Rattle.tmpl_grammar.specs.computed.Quoted.{Spelled, part_at, with_part, parts_after, parts, unquoted_text}

skip-to : (quote n : ℕ) (bs : List ℕ) → n ≤ length bs → parts_after quote n bs ≡ parts_after quote 0 (drop n bs)
skip-to quote zero bs h = refl
skip-to quote (suc n) [] h = refl
skip-to quote (suc n) (b ∷ bs) h = skip-to quote n bs (omega arith)

pub parts-nil : (quote : ℕ) → parts quote [] ≡ Some []
unfolding parts
parts-nil quote = refl

-- the first part, and those after it
pub parts-first : (quote : ℕ) (bs : List ℕ) (p : Spelled) → 0 < length bs → part_at quote bs ≡ Some p → 0 < p.1 → p.1 ≤ length bs
    → parts quote bs ≡ with_part p.0 (parts quote (drop p.1 bs))
unfolding parts
parts-first quote bs p h k l e = grind (arith, skip-to)

pub parts-none : (quote : ℕ) (bs : List ℕ) → 0 < length bs → part_at quote bs ≡ None → parts quote bs ≡ None
unfolding parts
parts-none quote [] h is = absurd (omega arith)
parts-none quote (b ∷ bs) h is = simp is

-- ---- the text

-- a text after another
abbrev pub led : List ℕ → Option (List ℕ) → Option (List ℕ)
led s o = option_map (λ t. s ++ t) o

led-led : (s t : List ℕ) (o : Option (List ℕ)) → led s (led t o) ≡ led (s ++ t) o
led-led s t None = refl
led-led s t (Some u) = ap Some (sym (append_assoc s t u))

text-with : (p : Rune) (ps : Option (List Rune)) → option_map (flat_map bytes_in) (with_part p ps) ≡ led (bytes_in p) (option_map (flat_map bytes_in) ps)
text-with p ps = grind arith

pub unquoted_text-first : (quote : ℕ) (s bs : List ℕ) (p : Spelled) → 0 < length bs → part_at quote bs ≡ Some p → 0 < p.1 → p.1 ≤ length bs
    → led s (unquoted_text quote bs) ≡ led (s ++ bytes_in p.0) (unquoted_text quote (drop p.1 bs))
unquoted_text-first quote s bs p h is low high = simp (parts-first quote bs p h is low high, text-with, led-led)

pub unquoted_text-none : (quote : ℕ) (s bs : List ℕ) → 0 < length bs → part_at quote bs ≡ None → led s (unquoted_text quote bs) ≡ None
unquoted_text-none quote s bs h is = simp (parts-none quote bs h is)

pub unquoted_text-end : (quote : ℕ) (s bs : List ℕ) → length bs ≤ 0 → led s (unquoted_text quote bs) ≡ Some s
unquoted_text-end quote s [] h = simp (parts-nil quote, append-nil)
unquoted_text-end quote s (b ∷ bs) h = absurd (omega arith)

pub ruleset ends = (unquoted_text-none, unquoted_text-end)
