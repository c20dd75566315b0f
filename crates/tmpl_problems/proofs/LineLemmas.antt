-- A string as it is written in a line, character by character.
use Rattle.std.proofs.Common.{◌≡◌, ◌∙◌, ◌++◌, ℕ, List, [], encode_utf8, refl, sym, ap, append_assoc, append-nil}
use Rattle.std.proofs.Common.{Result, Ok, Err, OnOk}
use Rattle.std.specs.Prelude.{is_ok, if◌then◌else◌}
use Rattle.std.proofs.lemmas.Str.{chars_past_char, chars-nil, IsUtf8-past_char}
use Rattle.std.specs.Str.{IsUtf8}
use Rattle.tmpl_problems.specs.Line.{shown_char, shown_in_line}

shown_first : (rest more : List ℕ) (c : ℕ) → IsUtf8 rest → rest ≡ encode_utf8 c ++ more → shown_in_line rest ≡ shown_char c ++ shown_in_line more
shown_first rest more c u p = rw (chars_past_char rest more c u p) refl

pub shown_step : (rest more before after all : List ℕ) (c : ℕ) → IsUtf8 rest → rest ≡ encode_utf8 c ++ more
    → before ++ shown_in_line rest ≡ all → after ≡ before ++ shown_char c → IsUtf8 more × (after ++ shown_in_line more ≡ all)
shown_step rest more before after all c u p h q = (
  IsUtf8-past_char rest more c u p,
  ap (λ t. t ++ shown_in_line more) q ∙ append_assoc before (shown_char c) (shown_in_line more)
      ∙ ap (λ t. before ++ t) (sym (shown_first rest more c u p)) ∙ h,
)

pub shown_end : (rest done all : List ℕ) → rest ≡ [] → done ++ shown_in_line rest ≡ all → done ≡ all
shown_end rest done all p h = sym (append-nil done) ∙ ap (λ t. done ++ t) (sym (ap shown_in_line p ∙ rw (chars-nil) refl)) ∙ h

pub line_parts : {E : Type 0} (r : Result Unit E) (old file place text end one two three four : List ℕ) → one ≡ old ++ file → two ≡ one ++ place
    → three ≡ two ++ text → four ≡ (if is_ok r then three ++ end else three) → OnOk r (four ≡ old ++ (file ++ (place ++ (text ++ end))))
line_parts (Ok u) old file place text end one two three four a b d h = rw (h, d, b, a, append_assoc, append_assoc, append_assoc) refl
line_parts (Err e) old file place text end one two three four a b d h = tt
