-- Configuration files of nginx: directives of words, each of which ends with `;` or has a block in braces. Which directives there are, how
-- many words they take and that a word has at most 4,096 bytes is not stated. Each relation says that the first text begins with
-- something, and that the second is what follows it.
use Rattle.std.specs.Prelude.{◌≡◌, ◌⊎◌, ℕ, Bool, true, not, ◌||◌, ◌&&◌, ◌==◌, List, [], ◌∷◌, ◌++◌, codes}
use Rattle.std.specs.List.{list_all}
use Rattle.std.specs.Str.{byte}

abbrev pub is_gap : ℕ → Bool
is_gap b = b == byte " " || b == byte "\t" || b == byte "\n" || b == byte "\r"

-- a byte of a word without quotes that stands for itself
abbrev pub is_inner : ℕ → Bool
is_inner b = not (b == 0) && not (is_gap b) && not (b == byte ";") && not (b == byte "{") && not (b == byte "\\") && not (b == byte "$")

-- one that a word may begin with
abbrev pub is_first : ℕ → Bool
is_first b = is_inner b && not (b == byte "}") && not (b == byte "#") && not (b == byte "\"") && not (b == byte "'")

abbrev pub is_comment : ℕ → Bool
is_comment b = not (b == 0) && not (b == byte "\n")

-- the bytes after a `#`, with the newline
pub data HasComment : List ℕ → List ℕ → Type 0 where
  newline : {rest : List ℕ} → HasComment (codes "\n" ++ rest) rest
  plain : {b : ℕ} {text rest : List ℕ} → is_comment b ≡ true → HasComment text rest → HasComment (b ∷ text) rest

-- the braces after a `$`
pub data HasBraces : List ℕ → List ℕ → Type 0 where
  no_brace : {rest : List ℕ} → HasBraces rest rest
  a_brace : {text rest : List ℕ} → HasBraces text rest → HasBraces (codes "{" ++ text) rest

-- what follows the first byte of a word without quotes
pub data HasInner : List ℕ → List ℕ → Type 0 where
  no_more : {rest : List ℕ} → HasInner rest rest
  inner : {b : ℕ} {text rest : List ℕ} → is_inner b ≡ true → HasInner text rest → HasInner (b ∷ text) rest
  escaped : {b : ℕ} {text rest : List ℕ} → not (b == 0) ≡ true → HasInner text rest → HasInner (codes "\\" ++ b ∷ text) rest
  dollar : {text more rest : List ℕ} → HasBraces text more → HasInner more rest → HasInner (codes "$" ++ text) rest

-- what follows an opening quote
pub data HasQuoted (quote : ℕ) : List ℕ → List ℕ → Type 0 where
  close : {rest : List ℕ} → HasQuoted quote (quote ∷ rest) rest
  inside : {b : ℕ} {text rest : List ℕ} → (not (b == 0) && not (b == byte "\\") && not (b == quote)) ≡ true → HasQuoted quote text rest → HasQuoted quote (b ∷ text) rest
  inside_escaped : {b : ℕ} {text rest : List ℕ} → not (b == 0) ≡ true → HasQuoted quote text rest → HasQuoted quote (codes "\\" ++ b ∷ text) rest

abbrev pub IsQuote : ℕ → Type 0
IsQuote b = (b ≡ byte "\"") ⊎ (b ≡ byte "'")

-- a word; a `)` may follow a closing quote
pub data HasWord : List ℕ → List ℕ → Type 0 where
  bare : {b : ℕ} {text rest : List ℕ} → is_first b ≡ true → HasInner text rest → HasWord (b ∷ text) rest
  bare_escaped : {b : ℕ} {text rest : List ℕ} → not (b == 0) ≡ true → HasInner text rest → HasWord (codes "\\" ++ b ∷ text) rest
  bare_dollar : {text more rest : List ℕ} → HasBraces text more → HasInner more rest → HasWord (codes "$" ++ text) rest
  quoted : {b : ℕ} {text rest : List ℕ} → IsQuote b → HasQuoted b text rest → HasWord (b ∷ text) rest
  parenthesis : {b : ℕ} {text more rest : List ℕ} → IsQuote b → HasQuoted b text (codes ")" ++ more) → HasInner more rest → HasWord (b ∷ text) rest

mutual
  -- what follows a word of a directive
  pub data HasTail : List ℕ → List ℕ → Type 0 where
    ends : {rest : List ℕ} → HasTail rest rest
    gap : {b : ℕ} {text rest : List ℕ} → is_gap b ≡ true → HasMore text rest → HasTail (b ∷ text) rest

  -- what follows a gap after it
  pub data HasMore : List ℕ → List ℕ → Type 0 where
    no_word : {rest : List ℕ} → HasMore rest rest
    space : {b : ℕ} {text rest : List ℕ} → is_gap b ≡ true → HasMore text rest → HasMore (b ∷ text) rest
    comment : {text more rest : List ℕ} → HasComment text more → HasMore more rest → HasMore (codes "#" ++ text) rest
    word : {text more rest : List ℕ} → HasWord text more → HasTail more rest → HasMore text rest

-- directives, with space and comments between them
pub data HasBody : List ℕ → List ℕ → Type 0 where
  body_end : {rest : List ℕ} → HasBody rest rest
  body_space : {b : ℕ} {text rest : List ℕ} → is_gap b ≡ true → HasBody text rest → HasBody (b ∷ text) rest
  body_comment : {text more rest : List ℕ} → HasComment text more → HasBody more rest → HasBody (codes "#" ++ text) rest
  last_comment : {text : List ℕ} → list_all is_comment text ≡ true → HasBody (codes "#" ++ text) []
  simple : {text tail more rest : List ℕ} → HasWord text tail → HasTail tail (codes ";" ++ more) → HasBody more rest → HasBody text rest
  block : {text tail body more rest : List ℕ} → HasWord text tail → HasTail tail (codes "{" ++ body) → HasBody body (codes "}" ++ more) → HasBody more rest → HasBody text rest

abbrev pub IsNginx : List ℕ → Type 0
IsNginx text = HasBody text []
