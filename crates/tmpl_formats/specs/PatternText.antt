-- How regular expressions are written: the syntax of ECMA-262 with the flag `u`, without look-around, back references, `\b`, `\B`,
-- `\p`, `\P` and named groups. Each relation says that the first text begins with something, and that the last is what follows it.
use Rattle.std.specs.Prelude.{◌≡◌, ◌<◌, ◌≤◌, ℕ, suc, ◌+◌, ◌-◌, ◌*◌, Bool, true, false, not, ◌||◌, ◌&&◌, ◌==◌, nat_le, nat_lt, nat_eq, List, [], ◌∷◌, ◌++◌, codes, Option, Some, None, if◌then◌else◌}
use Rattle.std.specs.Char.{is_ascii_digit}
use Rattle.std.specs.List.{list_any}
use Rattle.std.specs.Str.{byte}
use Rattle.tmpl_formats.specs.Pattern.{Tree, Empty, One, Begin, End, Both, Either, Many}
use Rattle.tmpl_formats.specs.declared.pattern.Span.{Span}

-- ---- sets of characters

abbrev pub span : ℕ → ℕ → Span
span first last = record { first = first; last = last }

abbrev pub single : ℕ → List Span
single code = span code code ∷ []

abbrev pub line_ends : List Span
line_ends = span 10 10 ∷ span 13 13 ∷ span 0x2028 0x2029 ∷ []

abbrev pub digits : List Span
digits = span 48 57 ∷ []

abbrev pub word : List Span
word = span 48 57 ∷ span 65 90 ∷ span 95 95 ∷ span 97 122 ∷ []

abbrev pub white : List Span
white =
    span 9 13 ∷ span 32 32 ∷ span 0xA0 0xA0 ∷ span 0x1680 0x1680 ∷ span 0x2000 0x200A ∷ span 0x2028 0x2029 ∷ span 0x202F 0x202F ∷ span 0x205F 0x205F
    ∷ span 0x3000 0x3000 ∷ span 0xFEFF 0xFEFF ∷ []

-- the code points from one on that are not in the spans, which are in order
abbrev pub gaps : ℕ → List Span → List Span
gaps from [] = span from 0x10FFFF ∷ []
gaps from (s ∷ spans) = span from (s.first - 1) ∷ gaps (s.last + 1) spans

-- the letter after a backslash that stands for a set
pub data IsKind : ℕ → List Span → Type 0 where
  digit : IsKind (byte "d") digits
  no_digit : IsKind (byte "D") (gaps 0 digits)
  word_character : IsKind (byte "w") word
  no_word_character : IsKind (byte "W") (gaps 0 word)
  white_space : IsKind (byte "s") white
  no_white_space : IsKind (byte "S") (gaps 0 white)

-- ---- single characters

-- a character with a meaning, which a backslash takes from it
abbrev pub is_syntax : ℕ → Bool
is_syntax c = list_any (nat_eq c) (codes "^$\\.*+?()[]{}|")

-- the value of a digit, and 16 for another character
abbrev pub digit_value : ℕ → ℕ
digit_value c =
    if nat_le 48 c && nat_le c 57 then c - 48
    else (if nat_le 65 c && nat_le c 70 then c - 55 else (if nat_le 97 c && nat_le c 102 then c - 87 else 16))

-- this many digits after those of the number `first`, and the number that they write together
pub data HasDigits (base : ℕ) : (count first : ℕ) → List ℕ → ℕ → List ℕ → Type 0 where
  no_more : {n : ℕ} {rest : List ℕ} → HasDigits base 0 n rest n rest
  one_more : {count n m c : ℕ} {text rest : List ℕ} → digit_value c < base → HasDigits base count (n * base + digit_value c) text m rest
      → HasDigits base (suc count) n (c ∷ text) m rest

abbrev pub begins_with_digit : List ℕ → Bool
begins_with_digit [] = false
begins_with_digit (c ∷ text) = is_ascii_digit c

-- a code point that is no surrogate
abbrev pub is_scalar : ℕ → Bool
is_scalar n = nat_lt n 0xD800 || (nat_lt 0xDFFF n && nat_le n 0x10FFFF)

-- what follows a backslash and stands for one character
pub data HasEscape : List ℕ → ℕ → List ℕ → Type 0 where
  tab : {rest : List ℕ} → HasEscape (codes "t" ++ rest) 9 rest
  newline : {rest : List ℕ} → HasEscape (codes "n" ++ rest) 10 rest
  vertical_tab : {rest : List ℕ} → HasEscape (codes "v" ++ rest) 11 rest
  form_feed : {rest : List ℕ} → HasEscape (codes "f" ++ rest) 12 rest
  return : {rest : List ℕ} → HasEscape (codes "r" ++ rest) 13 rest
  null : {rest : List ℕ} → begins_with_digit rest ≡ false → HasEscape (codes "0" ++ rest) 0 rest
  itself : {c : ℕ} {rest : List ℕ} → (is_syntax c || c == byte "/") ≡ true → HasEscape (c ∷ rest) c rest
  two_digits : {n : ℕ} {text rest : List ℕ} → HasDigits 16 2 0 text n rest → HasEscape (codes "x" ++ text) n rest
  four_digits : {n : ℕ} {text rest : List ℕ} → HasDigits 16 4 0 text n rest → is_scalar n ≡ true → HasEscape (codes "u" ++ text) n rest
  in_braces : {count n : ℕ} {text rest : List ℕ} → 0 < count → HasDigits 16 count 0 text n (codes "}" ++ rest) → is_scalar n ≡ true
      → HasEscape (codes "u{" ++ text) n rest

-- ---- classes

-- one character in brackets
pub data HasMember : List ℕ → ℕ → List ℕ → Type 0 where
  plain : {c : ℕ} {rest : List ℕ} → (c == byte "\\" || c == byte "]") ≡ false → HasMember (c ∷ rest) c rest
  escaped : {code : ℕ} {text rest : List ℕ} → HasEscape text code rest → HasMember (codes "\\" ++ text) code rest
  hyphen : {rest : List ℕ} → HasMember (codes "\\-" ++ rest) 45 rest
  backspace : {rest : List ℕ} → HasMember (codes "\\b" ++ rest) 8 rest

abbrev pub begins_with : ℕ → List ℕ → Bool
begins_with c [] = false
begins_with c (d ∷ text) = d == c

-- the hyphen of a range: one that is not last
abbrev pub has_hyphen : List ℕ → Bool
has_hyphen [] = false
has_hyphen (c ∷ text) = c == byte "-" && not (begins_with (byte "]") text)

-- a character, a range or a set
pub data HasItem : List ℕ → List Span → List ℕ → Type 0 where
  one : {code : ℕ} {text rest : List ℕ} → HasMember text code rest → has_hyphen rest ≡ false → HasItem text (single code) rest
  range : {first last : ℕ} {text more rest : List ℕ} → HasMember text first (codes "-" ++ more) → has_hyphen (codes "-" ++ more) ≡ true → HasMember more last rest
      → first ≤ last → HasItem text (span first last ∷ []) rest
  kind : {c : ℕ} {spans : List Span} {rest : List ℕ} → IsKind c spans → has_hyphen rest ≡ false → HasItem (codes "\\" ++ c ∷ rest) spans rest

pub data HasItems : List ℕ → List Span → List ℕ → Type 0 where
  no_item : {rest : List ℕ} → HasItems rest [] rest
  item : {text more rest : List ℕ} {spans others : List Span} → HasItem text spans more → HasItems more others rest → HasItems text (spans ++ others) rest

-- ---- repetitions

-- how many turns: at least this many, and at most that many, if there is a bound
pub data HasTimes : List ℕ → ℕ → Option ℕ → List ℕ → Type 0 where
  star : {rest : List ℕ} → HasTimes (codes "*" ++ rest) 0 None rest
  plus : {rest : List ℕ} → HasTimes (codes "+" ++ rest) 1 None rest
  question : {rest : List ℕ} → HasTimes (codes "?" ++ rest) 0 (Some 1) rest
  exactly : {count n : ℕ} {text rest : List ℕ} → 0 < count → HasDigits 10 count 0 text n (codes "}" ++ rest) → HasTimes (codes "{" ++ text) n (Some n) rest
  at_least : {count n : ℕ} {text rest : List ℕ} → 0 < count → HasDigits 10 count 0 text n (codes ",}" ++ rest) → HasTimes (codes "{" ++ text) n None rest
  between : {count digits n m : ℕ} {text more rest : List ℕ} → 0 < count → HasDigits 10 count 0 text n (codes "," ++ more) → 0 < digits
      → HasDigits 10 digits 0 more m (codes "}" ++ rest) → n ≤ m → HasTimes (codes "{" ++ text) n (Some m) rest

-- a lazy one finds in the same texts
pub data HasQuantifier : List ℕ → ℕ → Option ℕ → List ℕ → Type 0 where
  no_quantifier : {rest : List ℕ} → HasQuantifier rest 1 (Some 1) rest
  greedy : {least : ℕ} {most : Option ℕ} {text rest : List ℕ} → HasTimes text least most rest → HasQuantifier text least most rest
  lazy : {least : ℕ} {most : Option ℕ} {text rest : List ℕ} → HasTimes text least most (codes "?" ++ rest) → HasQuantifier text least most rest

abbrev pub sum_of : Option ℕ → Option ℕ → Option ℕ
sum_of (Some m) (Some n) = Some (m + n)
sum_of _ _ = None

-- the tree has this many turns of that one
pub data IsRepeated (turn : Tree) : ℕ → Option ℕ → Tree → Type 0 where
  none : IsRepeated turn 0 (Some 0) Empty
  once : IsRepeated turn 1 (Some 1) turn
  maybe : IsRepeated turn 0 (Some 1) (Either turn Empty)
  any : IsRepeated turn 0 None (Many turn)
  sum : {m n : ℕ} {most limit : Option ℕ} {some others : Tree} → IsRepeated turn m most some → IsRepeated turn n limit others
      → IsRepeated turn (m + n) (sum_of most limit) (Both some others)

-- ---- patterns

mutual
  pub data HasAtom : List ℕ → Tree → List ℕ → Type 0 where
    character : {c : ℕ} {rest : List ℕ} → is_syntax c ≡ false → HasAtom (c ∷ rest) (One false (single c)) rest
    dot : {rest : List ℕ} → HasAtom (codes "." ++ rest) (One true line_ends) rest
    escape : {code : ℕ} {text rest : List ℕ} → HasEscape text code rest → HasAtom (codes "\\" ++ text) (One false (single code)) rest
    set : {c : ℕ} {spans : List Span} {rest : List ℕ} → IsKind c spans → HasAtom (codes "\\" ++ c ∷ rest) (One false spans) rest
    class : {spans : List Span} {text rest : List ℕ} → begins_with (byte "^") text ≡ false → HasItems text spans (codes "]" ++ rest)
        → HasAtom (codes "[" ++ text) (One false spans) rest
    negated_class : {spans : List Span} {text rest : List ℕ} → HasItems text spans (codes "]" ++ rest) → HasAtom (codes "[^" ++ text) (One true spans) rest
    group : {tree : Tree} {text rest : List ℕ} → HasAlternatives text tree (codes ")" ++ rest) → HasAtom (codes "(" ++ text) tree rest
    plain_group : {tree : Tree} {text rest : List ℕ} → HasAlternatives text tree (codes ")" ++ rest) → HasAtom (codes "(?:" ++ text) tree rest

  pub data HasTerm : List ℕ → Tree → List ℕ → Type 0 where
    begin : {rest : List ℕ} → HasTerm (codes "^" ++ rest) Begin rest
    end : {rest : List ℕ} → HasTerm (codes "$" ++ rest) End rest
    repeated : {least : ℕ} {most : Option ℕ} {turn tree : Tree} {text more rest : List ℕ} → HasAtom text turn more → HasQuantifier more least most rest
        → IsRepeated turn least most tree → HasTerm text tree rest

  -- terms one after another, which may be grouped in any way
  pub data HasSequence : List ℕ → Tree → List ℕ → Type 0 where
    nothing : {rest : List ℕ} → HasSequence rest Empty rest
    term : {tree : Tree} {text rest : List ℕ} → HasTerm text tree rest → HasSequence text tree rest
    both : {some others : Tree} {text more rest : List ℕ} → HasSequence text some more → HasSequence more others rest → HasSequence text (Both some others) rest

  pub data HasAlternatives : List ℕ → Tree → List ℕ → Type 0 where
    alternative : {tree : Tree} {text rest : List ℕ} → HasSequence text tree rest → HasAlternatives text tree rest
    either : {some others : Tree} {text more rest : List ℕ} → HasAlternatives text some (codes "|" ++ more) → HasAlternatives more others rest
        → HasAlternatives text (Either some others) rest

-- the whole text writes the tree
abbrev pub Writes : List ℕ → Tree → Type 0
Writes text tree = HasAlternatives text tree []
