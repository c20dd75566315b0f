-- Environment files: what a POSIX shell and systemd read alike, without a variable, a command or a pattern in it.
use Rattle.std.specs.Prelude.{◌≡◌, ℕ, Bool, true, not, ◌||◌, ◌&&◌, ◌==◌, List, [], ◌∷◌, ◌++◌, codes}
use Rattle.std.specs.Char.{is_ascii_alphabetic, is_ascii_digit}
use Rattle.std.specs.List.{list_all}
use Rattle.std.specs.Str.{byte}
use Rattle.tmpl_formats.specs.Lines.{Lines}

-- a byte of a name; it does not begin with a digit
abbrev pub is_name_start : ℕ → Bool
is_name_start b = b == byte "_" || is_ascii_alphabetic b

abbrev pub is_name_byte : ℕ → Bool
is_name_byte b = is_name_start b || is_ascii_digit b

-- a mark that needs no quotes
abbrev pub is_plain_mark : ℕ → Bool
is_plain_mark b =
    b == byte "%" || b == byte "+" || b == byte "," || b == byte "." || b == byte "/" || b == byte ":" || b == byte "@" || b == byte "-"
    || b == byte "?"

-- a byte of a value without quotes
abbrev pub is_bare : ℕ → Bool
is_bare b = b == byte "=" || is_plain_mark b || is_name_byte b

-- a byte of a comment: older versions of systemd join lines at a backslash
abbrev pub is_comment : ℕ → Bool
is_comment b = not (b == 0) && not (b == byte "\n") && not (b == byte "\\")

-- a byte between single quotes, where a newline may stand
abbrev pub is_single : ℕ → Bool
is_single b = not (b == 0) && not (b == byte "'")

-- a byte that has a meaning between double quotes
abbrev pub is_special : ℕ → Bool
is_special b = b == byte "\"" || b == byte "\\" || b == byte "$" || b == byte "`"

-- a byte between double quotes that stands for itself; a newline may stand there
abbrev pub is_double : ℕ → Bool
is_double b = not (b == 0) && not (is_special b)

-- what stands between double quotes: a backslash stands before a byte with a meaning alone
pub data IsDouble : List ℕ → Type 0 where
  nothing : IsDouble []
  plain : {b : ℕ} {bs : List ℕ} → is_double b ≡ true → IsDouble bs → IsDouble (b ∷ bs)
  escape : {b : ℕ} {bs : List ℕ} → is_special b ≡ true → IsDouble bs → IsDouble (codes "\\" ++ b ∷ bs)

pub data IsValue : List ℕ → Type 0 where
  bare : {bs : List ℕ} → list_all is_bare bs ≡ true → IsValue bs
  single : (bs : List ℕ) → list_all is_single bs ≡ true → IsValue (codes "'" ++ bs ++ codes "'")
  double : (bs : List ℕ) → IsDouble bs → IsValue (codes "\"" ++ bs ++ codes "\"")

pub data IsLine : List ℕ → Type 0 where
  empty : IsLine []
  comment : {bs : List ℕ} → list_all is_comment bs ≡ true → IsLine (codes "#" ++ bs)
  assignment : {b : ℕ} (name value : List ℕ) → is_name_start b ≡ true → list_all is_name_byte name ≡ true → IsValue value
      → IsLine (b ∷ name ++ codes "=" ++ value)

-- an environment file
abbrev pub IsEnv : List ℕ → Type 0
IsEnv text = Lines IsLine text
