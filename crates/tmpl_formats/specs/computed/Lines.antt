-- Where lines have no match of a regular expression.
use Rattle.std.specs.Prelude.{ℕ, ◌+◌, ◌==◌, List, [], ◌∷◌, ◌++◌, length, Option, Some, None, option_map, if◌then◌else◌}
use Rattle.std.specs.Str.{byte, chars, is_utf8}
use Rattle.std.specs.Str.Lossy.{utf8_valid_len}
use Rattle.tmpl_formats.specs.computed.PatternMarks.{begun, finds}
use Rattle.tmpl_formats.specs.PatternView.{Marks}

-- where a line is no UTF-8, or has no match
abbrev pub line_fault : Marks → List ℕ → Option ℕ
line_fault marks line = if is_utf8 line then (if finds (begun marks) (chars line) then None else Some 0) else Some (utf8_valid_len line)

-- .. or else a place after it
abbrev pub or_later : Option ℕ → ℕ → Option ℕ → Option ℕ
or_later (Some n) length later = Some n
or_later None length later = option_map (λ n. length + 1 + n) later

abbrev pub last_fault : Marks → List ℕ → Option ℕ
last_fault marks [] = None
last_fault marks (b ∷ line) = line_fault marks (b ∷ line)

-- from the beginning of a line, of which this was read
unfoldable pub faults : Marks → List ℕ → List ℕ → Option ℕ
faults marks line [] = last_fault marks line
faults marks line (b ∷ text) =
    if b == byte "\n" then or_later (line_fault marks line) (length line) (faults marks [] text) else faults marks (line ++ b ∷ []) text

abbrev pub lines_mistake : Marks → List ℕ → Option ℕ
lines_mistake marks text = faults marks [] text
