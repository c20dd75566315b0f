-- JSON as a grammar over bytes (RFC 8259). Each relation says that the first text begins with something, and that the second is what
-- follows it.
use Rattle.std.proofs.Common.{◌≡◌, ◌≢◌, ◌⊎◌, ◌<◌, ◌≤◌, ◌+◌, ℕ, true, List, [], ◌∷◌, ◌++◌}
use Rattle.std.specs.Char.{is_ascii_digit}
use Rattle.std.specs.Prelude.{codes}
use Rattle.std.specs.Str.{byte}
use Rattle.tmpl_formats.specs.computed.JsonBytes.{is_white, is_plain, is_short_escape, hex_value}

-- ---- strings

-- this many hexadecimal digits
pub data HasHex : ℕ → List ℕ → List ℕ → Type 0 where
  no_digit : {rest : List ℕ} → HasHex 0 rest rest
  a_digit : {count b : ℕ} {text rest : List ℕ} → hex_value b < 16 → HasHex count text rest → HasHex (count + 1) (b ∷ text) rest

-- four digits of a code unit that is no surrogate, of a high surrogate and of a low one
pub data HasUnit : List ℕ → List ℕ → Type 0 where
  other : {b : ℕ} {text rest : List ℕ} → hex_value b < 16 → hex_value b ≢ 13 → HasHex 3 text rest → HasUnit (b ∷ text) rest
  below : {b c : ℕ} {text rest : List ℕ} → hex_value b ≡ 13 → hex_value c < 8 → HasHex 2 text rest → HasUnit (b ∷ c ∷ text) rest

pub data HasHigh : List ℕ → List ℕ → Type 0 where
  high : {b c : ℕ} {text rest : List ℕ} → hex_value b ≡ 13 → 8 ≤ hex_value c → hex_value c < 12 → HasHex 2 text rest → HasHigh (b ∷ c ∷ text) rest

pub data HasLow : List ℕ → List ℕ → Type 0 where
  low : {b c : ℕ} {text rest : List ℕ} → hex_value b ≡ 13 → 12 ≤ hex_value c → hex_value c < 16 → HasHex 2 text rest → HasLow (b ∷ c ∷ text) rest

-- the bytes after an opening quote, with the closing one
pub data HasString : List ℕ → List ℕ → Type 0 where
  close : {rest : List ℕ} → HasString (codes "\"" ++ rest) rest
  plain : {b : ℕ} {text rest : List ℕ} → is_plain b ≡ true → HasString text rest → HasString (b ∷ text) rest
  short : {b : ℕ} {text rest : List ℕ} → is_short_escape b ≡ true → HasString text rest → HasString (codes "\\" ++ b ∷ text) rest
  unit : {text more rest : List ℕ} → HasUnit text more → HasString more rest → HasString (codes "\\u" ++ text) rest
  pair : {text more most rest : List ℕ} → HasHigh text (codes "\\u" ++ more) → HasLow more most → HasString most rest → HasString (codes "\\u" ++ text) rest

-- ---- numbers

-- digits, perhaps none, and no digit after them
pub data HasDigits : List ℕ → List ℕ → Type 0 where
  no_more : {rest : List ℕ} → HasDigits rest rest
  digit : {b : ℕ} {text rest : List ℕ} → is_ascii_digit b ≡ true → HasDigits text rest → HasDigits (b ∷ text) rest

pub data HasSome : List ℕ → List ℕ → Type 0 where
  some : {b : ℕ} {text rest : List ℕ} → is_ascii_digit b ≡ true → HasDigits text rest → HasSome (b ∷ text) rest

pub data HasExponent : List ℕ → List ℕ → Type 0 where
  no_exponent : {rest : List ℕ} → HasExponent rest rest
  unsigned : {b : ℕ} {text rest : List ℕ} → (b ≡ byte "e") ⊎ (b ≡ byte "E") → HasSome text rest → HasExponent (b ∷ text) rest
  signed : {b c : ℕ} {text rest : List ℕ} → (b ≡ byte "e") ⊎ (b ≡ byte "E") → (c ≡ byte "+") ⊎ (c ≡ byte "-") → HasSome text rest → HasExponent (b ∷ c ∷ text) rest

pub data HasFraction : List ℕ → List ℕ → Type 0 where
  no_fraction : {text rest : List ℕ} → HasExponent text rest → HasFraction text rest
  fraction : {text more rest : List ℕ} → HasSome text more → HasExponent more rest → HasFraction (codes "." ++ text) rest

-- no zero stands before another digit
pub data HasUnsigned : List ℕ → List ℕ → Type 0 where
  zero : {text rest : List ℕ} → HasFraction text rest → HasUnsigned (codes "0" ++ text) rest
  whole : {b : ℕ} {text more rest : List ℕ} → is_ascii_digit b ≡ true → b ≢ byte "0" → HasDigits text more → HasFraction more rest → HasUnsigned (b ∷ text) rest

pub data HasNumber : List ℕ → List ℕ → Type 0 where
  positive : {text rest : List ℕ} → HasUnsigned text rest → HasNumber text rest
  negative : {text rest : List ℕ} → HasUnsigned text rest → HasNumber (codes "-" ++ text) rest

-- ---- values

pub data HasSpace : List ℕ → List ℕ → Type 0 where
  no_space : {rest : List ℕ} → HasSpace rest rest
  space : {b : ℕ} {text rest : List ℕ} → is_white b ≡ true → HasSpace text rest → HasSpace (b ∷ text) rest

mutual
  pub data HasValue : List ℕ → List ℕ → Type 0 where
    a_true : {rest : List ℕ} → HasValue (codes "true" ++ rest) rest
    a_false : {rest : List ℕ} → HasValue (codes "false" ++ rest) rest
    a_null : {rest : List ℕ} → HasValue (codes "null" ++ rest) rest
    number : {text rest : List ℕ} → HasNumber text rest → HasValue text rest
    string : {text rest : List ℕ} → HasString text rest → HasValue (codes "\"" ++ text) rest
    empty_array : {text rest : List ℕ} → HasSpace text (codes "]" ++ rest) → HasValue (codes "[" ++ text) rest
    array : {text rest : List ℕ} → HasItems text (codes "]" ++ rest) → HasValue (codes "[" ++ text) rest
    empty_object : {text rest : List ℕ} → HasSpace text (codes "}" ++ rest) → HasValue (codes "{" ++ text) rest
    object : {text rest : List ℕ} → HasMembers text (codes "}" ++ rest) → HasValue (codes "{" ++ text) rest

  -- a value with the space around it
  pub data HasElement : List ℕ → List ℕ → Type 0 where
    element : {text value after rest : List ℕ} → HasSpace text value → HasValue value after → HasSpace after rest → HasElement text rest

  -- values with commas between them
  pub data HasItems : List ℕ → List ℕ → Type 0 where
    last_item : {text rest : List ℕ} → HasElement text rest → HasItems text rest
    more_items : {text more rest : List ℕ} → HasElement text (codes "," ++ more) → HasItems more rest → HasItems text rest

  -- a key, a colon and a value
  pub data HasMember : List ℕ → List ℕ → Type 0 where
    member : {text key after value rest : List ℕ} → HasSpace text (codes "\"" ++ key) → HasString key after → HasSpace after (codes ":" ++ value) → HasElement value rest
        → HasMember text rest

  pub data HasMembers : List ℕ → List ℕ → Type 0 where
    last_member : {text rest : List ℕ} → HasMember text rest → HasMembers text rest
    more_members : {text more rest : List ℕ} → HasMember text (codes "," ++ more) → HasMembers more rest → HasMembers text rest

-- the whole text is a value, with the space around it
abbrev pub IsElement : List ℕ → Type 0
IsElement text = HasElement text []
