-- A format read from left to right.
use Rattle.std.specs.Prelude.{ℕ, zero, suc, ◌+◌, ◌-◌, ◌&&◌, ◌==◌, nat_le, Bool, true, List, [], ◌∷◌, ◌++◌, codes, length, drop}
use Rattle.std.specs.Prelude.{slice_get, slice_index, is_some, Option, Some, None}
use Rattle.std.specs.Prelude.{option_map, option_and_then, if◌then◌else◌}
use Rattle.std.specs.Char.{is_ascii_digit}
use Rattle.std.specs.List.{prefix_len, take_while}
use Rattle.std.specs.Option.{option_map_or}
use Rattle.std.specs.Str.{byte}
use Rattle.tmpl_funcs.specs.printf.Form.{WrittenForm, Segment, literal, percent, form, is_plain, is_flag}
use Rattle.tmpl_funcs.specs.printf.Directive.{printer}
use Rattle.tmpl_funcs.specs.printf.Spelling.{form_bytes}

-- a verb has this letter
abbrev pub is_verb : ℕ → Bool
is_verb letter = is_some (printer letter)

-- the verb of a letter may have a precision: `%s` alone
abbrev pub takes_precision : ℕ → Bool
takes_precision letter = letter == byte "s"

-- the letter, where a verb has it
abbrev pub verb_of : ℕ → Option ℕ
verb_of b = if is_verb b then Some b else None

-- what stands after the longest front whose bytes pass a test
abbrev pub after : (ℕ → Bool) → List ℕ → List ℕ
after p bs = drop (prefix_len p bs) bs

-- the form of these parts, where the letter of a verb stands next: width and precision have at most four digits, and
-- the verb may have the precision
abbrev pub verb_after : List ℕ → List ℕ → Option (List ℕ) → List ℕ → Option WrittenForm
verb_after flags width precision bs =
    option_and_then (λ verb.
    if nat_le (length width) 4 && option_map_or (λ ds. nat_le (length ds) 4 && takes_precision verb) precision true
    then Some (record { flags = flags; width = width; precision = precision; verb = verb })
    else None) (option_and_then verb_of (slice_get bs 0))

-- the form at the front of what stands after a `%`: flags, a width, and a precision if a point stands next
unfoldable pub form_at : List ℕ → Option WrittenForm
form_at bs =
    let sized = after is_flag bs in
    let pointed = after is_ascii_digit sized in
    let read = verb_after (take_while is_flag bs) (take_while is_ascii_digit sized) in
    let digits = drop 1 pointed in
    if slice_index pointed 0 == byte "."
    then read (Some (take_while is_ascii_digit digits)) (after is_ascii_digit digits) else read None pointed

-- the segment at the front of bytes that are not empty
abbrev pub first_segment : List ℕ → Option Segment
first_segment bs =
    if is_plain (slice_index bs 0) then Some (literal (take_while is_plain bs))
    else (if slice_index bs 1 == byte "%" then Some percent else option_map form (form_at (drop 1 bs)))

-- how many bytes a segment has
abbrev pub segment_len : Segment → ℕ
segment_len (literal run) = length run
segment_len percent = 2
segment_len (form f) = 2 + length f.flags + length f.width + option_map_or (λ digits. 1 + length digits) f.precision 0

-- the segments after this many bytes that belong to the segment before
abbrev pub segments_after : ℕ → List ℕ → Option (List Segment)
segments_after n [] = Some []
segments_after (suc n) (b ∷ bs) = segments_after n bs
segments_after zero (b ∷ bs) =
    option_and_then (λ p. option_map (λ ps. p ∷ ps) (segments_after (segment_len p - 1) bs)) (first_segment (b ∷ bs))

-- the segments of a format, read from left to right; none where it is no format
unfoldable pub segments_read : List ℕ → Option (List Segment)
segments_read format = segments_after 0 format

-- how a segment is spelled
abbrev pub segment_bytes : Segment → List ℕ
segment_bytes (literal run) = run
segment_bytes percent = codes "%%"
segment_bytes (form f) = codes "%" ++ form_bytes f
