-- What is wrong in a file, as lines.
use Rattle.std.specs.Prelude.{◌==◌, ◌&&◌, ◌||◌, ℕ, Bool, false, List, [], ◌++◌, length, nat_le, codes, decimal, string_bytes, if◌then◌else◌}
use Rattle.std.specs.Char.{encode_utf8}
use Rattle.std.specs.List.{flat_map}
use Rattle.std.specs.Str.{chars}
use Rattle.tmpl_values.specs.Quote.{spelling}
use Rattle.tmpl_values.specs.Rune.{char}
use Rattle.tmpl_problems.specs.declared.problem.Problem.{Problem}
use Rattle.tmpl_problems.specs.Words.{words_for}

-- the character of this code is not written as it is: a control character, one that ends a line or a paragraph, or one that turns the direction
-- in which text is shown
abbrev pub is_hidden : ℕ → Bool
is_hidden c = nat_le c 31 || (nat_le 127 c && nat_le c 159) || (nat_le 8232 c && nat_le c 8238) || (nat_le 8294 c && nat_le c 8297)

-- a character as it is written in a line: one that is hidden by its code, as in a quote
abbrev pub shown_char : ℕ → List ℕ
shown_char c = if is_hidden c then spelling (λ _. false) (char c) else encode_utf8 c

-- a string as it is written in a line
abbrev pub shown_in_line : List ℕ → List ℕ
shown_in_line text = flat_map shown_char (chars text)

-- what stands in a line between the file and the text: the line and the column, and how bad it is in a word
abbrev pub place_in_line : ℕ × ℕ → List ℕ → List ℕ
place_in_line place level = codes ":" ++ (decimal place.0 ++ (codes ":" ++ (decimal place.1 ++ (codes ": " ++ (level ++ codes ": ")))))

-- a line on what is found in a file: its line and column there, how bad it is in a word, and what it is
abbrev pub line_of : List ℕ → ℕ × ℕ → List ℕ → List ℕ → List ℕ
line_of file place level text = shown_in_line file ++ (place_in_line place level ++ (shown_in_line text ++ codes "\n"))

-- a reason, and a detail, if there is one
abbrev pub reason_with : List ℕ → List ℕ → List ℕ
reason_with reason detail = if length detail == 0 then reason else reason ++ codes ": " ++ detail

-- what is wrong, without its place
abbrev pub text_of : Problem → List ℕ
text_of p = reason_with (words_for p.refused.kind) (string_bytes p.detail)

-- that at least this many problems of a file are not reported
abbrev pub left_words : ℕ → List ℕ
left_words left = codes "too many errors: at least " ++ (decimal left ++ codes " more are not reported")
