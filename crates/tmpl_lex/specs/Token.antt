-- The tokens of an action ("Arguments", "Pipelines" and "Variables" in the documentation of Go's text/template; which
-- bytes a token is spelled with is our own rule).
use Rattle.std.specs.Prelude.{◌≡◌, ◌⊎◌, ℕ, true, false, ◌==◌, List, [], ◌∷◌, ◌++◌, flat_map, codes}
use Rattle.std.specs.Char.{is_ascii_digit}
use Rattle.std.specs.List.{list_all}
use Rattle.std.specs.Str.{byte}
use Rattle.tmpl_lex.specs.Bytes.{is_space, is_name_byte, is_number_byte, Absent, BeginsNone, Stops, IsRun}
use Rattle.tmpl_lex.specs.Delimiter.{Closes}
use Rattle.tmpl_lex.specs.Piece.{Token}
use Rattle.tmpl_lex.specs.declared.piece.TokenKind.{TokenKind}
use Rattle.tmpl_lex.specs.declared.piece.TokenKind.TheVariants as kind

-- where white space ends: before another byte, where its last byte begins no right trim marker, or before such a marker
pub data EndsSpace : List ℕ → Type 0 where
  at_byte : {rest : List ℕ} → Stops is_space rest → BeginsNone (λ bs. bs ≡ codes "-}}") rest → EndsSpace rest
  at_marker : {marker : List ℕ} (rest : List ℕ) → Closes true marker → EndsSpace (marker ++ rest)

-- the bytes between two such quotes: none is a newline, and a quote or backslash stands only after a backslash, which
-- escapes the byte after it
pub data IsQuoted (quote : ℕ) : List ℕ → Type 0 where
  no_byte : IsQuoted quote []
  a_byte : {b : ℕ} {bs : List ℕ} → (b == byte "\n") ≡ false → (b == byte "\\") ≡ false → (b == quote) ≡ false
      → IsQuoted quote bs → IsQuoted quote (b ∷ bs)
  an_escape : {b : ℕ} {bs : List ℕ} → (b == byte "\n") ≡ false
      → IsQuoted quote bs → IsQuoted quote (codes "\\" ++ b ∷ bs)

-- a token of this kind and these bytes stands before these bytes
pub data IsToken : TokenKind → List ℕ → List ℕ → Type 0 where
  space : {b : ℕ} {bs rest : List ℕ} → list_all is_space (b ∷ bs) ≡ true → EndsSpace rest
      → IsToken kind.Space (b ∷ bs) rest
  word : {b : ℕ} {bs rest : List ℕ} → is_ascii_digit b ≡ false → IsRun is_name_byte (b ∷ bs) rest
      → IsToken kind.Word (b ∷ bs) rest
  number : {sign bs rest : List ℕ} (b : ℕ) → (sign ≡ []) ⊎ (sign ≡ codes "+") ⊎ (sign ≡ codes "-")
      → is_ascii_digit b ≡ true → IsRun is_number_byte bs rest → IsToken kind.Number (sign ++ b ∷ bs) rest
  field : {b : ℕ} {bs rest : List ℕ} → IsRun is_name_byte (b ∷ bs) rest → IsToken kind.Field (codes "." ++ b ∷ bs) rest
  dot : {rest : List ℕ} → Stops is_name_byte rest → IsToken kind.Dot (codes ".") rest
  variable : {name rest : List ℕ} → IsRun is_name_byte name rest → IsToken kind.Variable (codes "$" ++ name) rest
  string : {bs rest : List ℕ} → IsQuoted (byte "\"") bs → IsToken kind.String (codes "\"" ++ bs ++ codes "\"") rest
  raw_string : {rest : List ℕ} (bs : List ℕ) → Absent (codes "`") bs
      → IsToken kind.RawString (codes "`" ++ bs ++ codes "`") rest
  character : {bs rest : List ℕ} → IsQuoted (byte "'") bs → IsToken kind.Character (codes "'" ++ bs ++ codes "'") rest
  declare : {rest : List ℕ} → IsToken kind.Declare (codes ":=") rest
  assign : {rest : List ℕ} → IsToken kind.Assign (codes "=") rest
  comma : {rest : List ℕ} → IsToken kind.Comma (codes ",") rest
  pipe : {rest : List ℕ} → IsToken kind.Pipe (codes "|") rest
  left_parenthesis : {rest : List ℕ} → IsToken kind.LeftParenthesis (codes "(") rest
  right_parenthesis : {rest : List ℕ} → IsToken kind.RightParenthesis (codes ")") rest

-- the bytes of tokens, one after the other
abbrev pub bytes_of : List Token → List ℕ
bytes_of ts = flat_map (λ t. t.bytes) ts

-- the tokens stand one after the other, before these bytes
abbrev pub Spells : List Token → List ℕ → Type 0
Spells [] rest = Unit {0}
Spells (t ∷ ts) rest = IsToken t.kind t.bytes (bytes_of ts ++ rest) × Spells ts rest
