-- For `uri_of`: what is escaped in a path.
use Rattle.std.proofs.Common.{◌≡◌, ◌∙◌, ◌++◌, ◌||◌, ◌==◌, ℕ, Bool, true, false, List, [], ◌∷◌, ap, arith, if◌then◌else◌, nat_lt, not, refl}
use Rattle.std.specs.List.{flat_map}
use Rattle.std.specs.Str.{byte}
use Rattle.std.proofs.lemmas.Bool.{agree_below, agree_below_at}
use Rattle.std.proofs.lemmas.Bool.Decides.{nat_tests}
use Rattle.percent_encoding.specs.AsciiSet.{should_percent_encode}
use Rattle.percent_encoding.specs.Percent.{encode_byte, percent_encode, percent_encode_byte}
use Rattle.tmpl_funcs.specs.Escape.{is_unreserved}
use Rattle.tmpl_problems.specs.declared.sarif.TheConstants.{ESCAPED_IN_PATHS}
use Rattle.tmpl_problems.specs.Sarif.{path_byte}

keeps : ℕ → Bool
keeps b = is_unreserved b || b == byte "/"

escapes_below : agree_below (should_percent_encode ESCAPED_IN_PATHS) (λ b. not (keeps b)) 128 ≡ true
unfolding should_percent_encode keeps
escapes_below = refl

escapes : (b : ℕ) → should_percent_encode ESCAPED_IN_PATHS b ≡ not (keeps b)
unfolding should_percent_encode keeps
escapes b = by (nat_lt b 128) refl
  where
    by : (t : Bool) → nat_lt b 128 ≡ t → should_percent_encode ESCAPED_IN_PATHS b ≡ not (keeps b)
    by true e = agree_below_at (should_percent_encode ESCAPED_IN_PATHS) (λ b. not (keeps b)) 128 b escapes_below (grind (arith, nat_tests))
    by false e = grind (arith, nat_tests)

encoded_byte : (b : ℕ) → encode_byte ESCAPED_IN_PATHS b ≡ path_byte b
unfolding keeps
encoded_byte b = ap (λ t. if t then percent_encode_byte b else b ∷ []) (escapes b) ∙ turned (is_unreserved b || b == byte "/")
  where
    turned : (t : Bool) → (if not t then percent_encode_byte b else b ∷ []) ≡ (if t then b ∷ [] else percent_encode_byte b)
    turned true = refl
    turned false = refl

pub encoded_path : (bytes : List ℕ) → percent_encode ESCAPED_IN_PATHS bytes ≡ flat_map path_byte bytes
unfolding percent_encode
encoded_path [] = refl
encoded_path (b ∷ bytes) = ap (λ t. t ++ percent_encode ESCAPED_IN_PATHS bytes) (encoded_byte b) ∙ ap (λ t. path_byte b ++ t) (encoded_path bytes)
