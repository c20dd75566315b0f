-- What is shown of bytes that are UTF-8, and of others; and words that follow one another.
use Rattle.std.proofs.Common.{◌≡◌, ◌∙◌, ◌++◌, Bool, true, false, ℕ, List, Some, None, arith, ap, append_assoc, refl, sym, if◌then◌else◌}
use Rattle.std.specs.List.{flat_map}
use Rattle.std.specs.Option.{option_map}
use Rattle.std.proofs.lemmas.Str.{IsUtf8-from_is_utf8, is_utf8-from_IsUtf8}
use Rattle.std.specs.Str.{IsUtf8, is_utf8}
use Rattle.tmpl_hints.specs.Sentence.{Adds, Said, byte_shown, readable}

chosen : (bytes : List ℕ) (b : Bool) → is_utf8 bytes ≡ b → (if b then bytes else flat_map byte_shown bytes) ≡ readable bytes
chosen bytes b e = sym (ap (λ t. if t then bytes else flat_map byte_shown bytes) e)

pub readable_text : (bytes : List ℕ) → IsUtf8 bytes → bytes ≡ readable bytes
readable_text bytes is = chosen bytes true (is_utf8-from_IsUtf8 bytes is)

pub readable_other : (bytes : List ℕ) → ¬ (IsUtf8 bytes) → flat_map byte_shown bytes ≡ readable bytes
readable_other bytes not = by (is_utf8 bytes) refl
  where
    by : (b : Bool) → is_utf8 bytes ≡ b → flat_map byte_shown bytes ≡ readable bytes
    by true e = absurd (not (IsUtf8-from_is_utf8 bytes e))
    by false e = chosen bytes false e

-- words after words
after_words : (a : Said) (xs ys : List ℕ) → option_map (λ front. front ++ (xs ++ ys)) a ≡ option_map (λ front. front ++ ys) (option_map (λ front. front ++ xs) a)
after_words None xs ys = refl
after_words (Some front) xs ys = ap Some (sym (append_assoc front xs ys))

pub adds_then : (a b c : Said) (xs ys : List ℕ) → Adds a b xs → Adds b c ys → Adds a c (xs ++ ys)
adds_then a b None xs ys p q = tt
adds_then a None (Some text) xs ys p q = grind arith
adds_then a (Some before) (Some text) xs ys p q = after_words a xs ys ∙ ap (option_map (λ front. front ++ ys)) p ∙ q
