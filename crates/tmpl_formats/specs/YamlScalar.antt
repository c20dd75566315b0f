-- The scalars of YAML that readers of YAML 1.1 and of YAML 1.2 read the same.
use Rattle.std.specs.Prelude.{◌≡◌, ◌<◌, ℕ, suc, ◌+◌, ◌*◌, Bool, true, false, not, ◌||◌, ◌&&◌, ◌==◌, nat_le, nat_lt, List, [], ◌∷◌, ◌++◌, codes, drop, Option, Some, None, if◌then◌else◌}
use Rattle.std.specs.Char.{is_ascii_alphanumeric, is_ascii_digit}
use Rattle.std.specs.List.{list_all, slice_get}
use Rattle.std.specs.Str.{byte, bytes_eq}
use Rattle.tmpl_formats.specs.Hex.{hex_value}

-- ---- characters

abbrev pub is_control : ℕ → Bool
is_control c = nat_lt c 32 && not (c == byte "\t") && not (c == byte "\n") || c == 127

-- the bytes of U+2028 and U+2029
abbrev pub is_separator : ℕ → ℕ → ℕ → Bool
is_separator a b c = a == 226 && b == 128 && (c == 168 || c == 169)

-- the bytes of U+FEFF, U+FFFE and U+FFFF
abbrev pub is_mark : ℕ → ℕ → ℕ → Bool
is_mark a b c = a == 239 && (b == 187 && c == 191 || b == 191 && nat_le 190 c)

-- a byte after two others that completes no character of YAML: a control character, or one of these
abbrev pub is_unprintable : ℕ → ℕ → ℕ → Bool
is_unprintable a b c = is_control c || b == 194 && nat_lt c 160 || is_separator a b c || is_mark a b c

-- no byte of the text, which comes after two others, is such a one
unfoldable pub is_printable : ℕ → ℕ → List ℕ → Bool
is_printable a b [] = true
is_printable a b (c ∷ cs) = not (is_unprintable a b c) && is_printable b c cs

-- ---- plain scalars

abbrev pub is_start : ℕ → Bool
is_start b =
    is_ascii_alphanumeric b || b == byte "_" || b == byte "/" || b == byte "$" || b == byte "(" || b == byte "^" || b == byte ";" || b == byte "\\"
    || nat_le 128 b

abbrev pub passes : (ℕ → Bool) → Option ℕ → Bool
passes p None = false
passes p (Some b) = p b

-- after a dot at the start, with no digit and no letter of .inf and .nan
abbrev pub may_follow_dot : ℕ → Bool
may_follow_dot b =
    is_start b && not (is_ascii_digit b) && not (b == byte "_") && not (b == byte "i") && not (b == byte "I") && not (b == byte "n") && not (b == byte "N")

-- the first three bytes of a plain scalar
abbrev pub may_begin : Option ℕ → Option ℕ → Option ℕ → Bool
may_begin first second third =
    passes is_start first || passes (λ b. b == byte "+") first && passes is_start second || passes (λ b. b == byte ".") first && passes may_follow_dot second
    || passes (λ b. b == byte "-") first && (passes is_start second || passes (λ b. b == byte "-") second && passes is_start third)

abbrev pub is_bracket : ℕ → Bool
is_bracket b = b == byte "[" || b == byte "]" || b == byte "{" || b == byte "}"

-- a byte in a plain scalar after another one: neither `: ` nor ` #` is in it
abbrev pub may_follow : Bool → ℕ → ℕ → Bool
may_follow in_flow a b =
    not (b == byte "\t") && not (b == byte "\n") && not (in_flow && (is_bracket b || b == byte "," || b == byte "?"))
    && not (a == byte ":" && b == byte " ") && not (a == byte " " && b == byte "#")

abbrev pub may_end : ℕ → Bool
may_end a = not (a == byte ":") && not (a == byte " ")

unfoldable pub is_joined : Bool → ℕ → List ℕ → Bool
is_joined in_flow a [] = may_end a
is_joined in_flow a (b ∷ bs) = may_follow in_flow a b && is_joined in_flow b bs

-- what YAML 1.1 takes for a boolean, and YAML 1.2 for a string
abbrev pub is_boolean : List ℕ → Bool
is_boolean text =
    bytes_eq text (codes "y") || bytes_eq text (codes "Y") || bytes_eq text (codes "yes") || bytes_eq text (codes "Yes") || bytes_eq text (codes "YES")
    || bytes_eq text (codes "n") || bytes_eq text (codes "N") || bytes_eq text (codes "no") || bytes_eq text (codes "No") || bytes_eq text (codes "NO")
    || bytes_eq text (codes "on") || bytes_eq text (codes "On") || bytes_eq text (codes "ON")
    || bytes_eq text (codes "off") || bytes_eq text (codes "Off") || bytes_eq text (codes "OFF")

abbrev pub is_sign : ℕ → Bool
is_sign b = b == byte "+" || b == byte "-"

-- a byte of some number, time or date
abbrev pub is_numeric : ℕ → Bool
is_numeric b =
    is_ascii_digit b || is_sign b || nat_le 65 b && nat_le b 70 || nat_le 97 b && nat_le b 102 || b == byte "_" || b == byte ":" || b == byte " "
    || b == byte "x" || b == byte "X" || b == byte "o" || b == byte "O" || b == byte "t" || b == byte "T" || b == byte "z" || b == byte "Z"

-- such bytes, with at most one dot
unfoldable pub is_numeric_text : Bool → List ℕ → Bool
is_numeric_text has_dot [] = true
is_numeric_text has_dot (b ∷ bs) = if b == byte "." then not has_dot && is_numeric_text true bs else is_numeric b && is_numeric_text has_dot bs

-- a byte of what some readers take for a number without digits
abbrev pub is_digit_mark : ℕ → Bool
is_digit_mark b = is_ascii_digit b || is_sign b || b == byte "_"

-- a text that may be a number, a time or a date
abbrev pub is_number : List ℕ → Bool
is_number text = list_all is_digit_mark text || (passes is_ascii_digit (slice_get text 0) || passes is_sign (slice_get text 0) && passes is_ascii_digit (slice_get text 1)) && is_numeric_text false text

-- digits that do not begin with a zero
abbrev pub is_decimal : List ℕ → Bool
is_decimal text = passes is_ascii_digit (slice_get text 0) && not (passes (λ b. b == byte "0") (slice_get text 0)) && list_all is_ascii_digit text

-- a number that has one meaning
abbrev pub is_integer : List ℕ → Bool
is_integer text = bytes_eq text (codes "0") || is_decimal text || passes (λ b. b == byte "-") (slice_get text 0) && is_decimal (drop 1 text)

-- a plain scalar that is read the same
abbrev pub is_plain : Bool → List ℕ → Bool
is_plain in_flow text =
    may_begin (slice_get text 0) (slice_get text 1) (slice_get text 2) && is_joined in_flow 0 text && not (is_boolean text) && (is_integer text || not (is_number text))

-- ---- quoted scalars. A relation says that the first text begins with something, and that the second is what follows it

abbrev pub is_escape : ℕ → Bool
is_escape b =
    b == byte "0" || b == byte "a" || b == byte "b" || b == byte "t" || b == byte "n" || b == byte "v" || b == byte "f" || b == byte "r" || b == byte "e"
    || b == byte "\"" || b == byte "\\"

-- how many hexadecimal digits there are after a letter
abbrev pub digits_after : ℕ → ℕ
digits_after b = if b == byte "x" then 2 else (if b == byte "u" then 4 else (if b == byte "U" then 8 else 0))

-- no surrogate, and not beyond the last character
abbrev pub is_character : ℕ → Bool
is_character code = nat_lt code 0xD800 || nat_le 0xE000 code && nat_lt code 0x110000

-- this many digits more of a character
pub data HasDigits : ℕ → ℕ → List ℕ → List ℕ → Type 0 where
  complete : {code : ℕ} {rest : List ℕ} → is_character code ≡ true → HasDigits 0 code rest rest
  digit : {count code b : ℕ} {text rest : List ℕ} → hex_value b < 16 → HasDigits count (code * 16 + hex_value b) text rest → HasDigits (suc count) code (b ∷ text) rest

-- what follows `"`
pub data HasDouble : List ℕ → List ℕ → Type 0 where
  close_double : {rest : List ℕ} → HasDouble (codes "\"" ++ rest) rest
  plain_double : {b : ℕ} {text rest : List ℕ} → (not (b == byte "\"") && not (b == byte "\\") && not (b == byte "\n")) ≡ true → HasDouble text rest → HasDouble (b ∷ text) rest
  escape : {b : ℕ} {text rest : List ℕ} → is_escape b ≡ true → HasDouble text rest → HasDouble (codes "\\" ++ b ∷ text) rest
  coded : {b : ℕ} {text more rest : List ℕ} → 0 < digits_after b → HasDigits (digits_after b) 0 text more → HasDouble more rest → HasDouble (codes "\\" ++ b ∷ text) rest

-- what follows `'`
pub data HasSingle : List ℕ → List ℕ → Type 0 where
  close_single : {rest : List ℕ} → HasSingle (codes "'" ++ rest) rest
  plain_single : {b : ℕ} {text rest : List ℕ} → (not (b == byte "'") && not (b == byte "\n")) ≡ true → HasSingle text rest → HasSingle (b ∷ text) rest
  doubled : {text rest : List ℕ} → HasSingle text rest → HasSingle (codes "''" ++ text) rest

pub data HasQuoted : List ℕ → List ℕ → Type 0 where
  double : {text rest : List ℕ} → HasDouble text rest → HasQuoted (codes "\"" ++ text) rest
  single : {text rest : List ℕ} → HasSingle text rest → HasQuoted (codes "'" ++ text) rest

pub data HasScalar (in_flow : Bool) : List ℕ → List ℕ → Type 0 where
  plain : (text rest : List ℕ) → is_plain in_flow text ≡ true → HasScalar in_flow (text ++ rest) rest
  quoted : {text rest : List ℕ} → HasQuoted text rest → HasScalar in_flow text rest
