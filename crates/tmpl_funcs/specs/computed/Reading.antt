-- The reading of a form part by part, and its result.
use Rattle.std.specs.Prelude.{◌≡◌, ◌&&◌, ◌+◌, ◌-◌, ◌*◌, ◌==◌, nat_le, List, [], ◌∷◌, ℕ, Bool, true, ◌++◌, drop, fold, length}
use Rattle.std.specs.Prelude.{slice_index, Option, Some, None, option_map, option_and_then, if◌then◌else◌}
use Rattle.std.specs.Borrow.{Bor}
use Rattle.std.specs.Char.{is_ascii_digit}
use Rattle.std.specs.List.{take_while}
use Rattle.std.specs.Option.{option_map_or}
use Rattle.std.specs.Str.{byte}
use Rattle.tmpl_funcs.specs.printf.Form.{WrittenForm, Segment, form_of}
use Rattle.tmpl_funcs.specs.computed.Scan.{after, segment_bytes, takes_precision, verb_after}
use Rattle.tmpl_funcs.specs.printf.Spelling.{form_bytes}
use Rattle.tmpl_funcs.specs.computed.View.{form_seen}
use Rattle.tmpl_funcs.specs.declared.printf.form.Form as held

-- the number that decimal digits write when they follow those of n
abbrev pub number_after : ℕ → List ℕ → ℕ
number_after = fold (λ n d. 10 * n + (d - byte "0"))

-- the precision, after a point
abbrev pub precision_text : Option (List ℕ) → List ℕ
precision_text precision = option_map_or (λ digits. byte "." ∷ digits) precision []

-- the digits are few enough
abbrev pub is_short : List ℕ → Bool
is_short digits = nat_le (length digits) 4

-- the precision is short, and the verb may have it
abbrev pub is_precision : Option (List ℕ) → ℕ → Bool
is_precision precision verb = option_map_or (λ digits. is_short digits && takes_precision verb) precision true

-- a form of these parts, where its digits are few enough and the verb may have the precision
abbrev pub form_if : Bool → List ℕ → List ℕ → Option (List ℕ) → ℕ → Option WrittenForm
form_if taken flags width precision verb =
    if taken then Some (record { flags = flags; width = width; precision = precision; verb = verb }) else None

-- a form of these parts, where its verb is one
abbrev pub form_by : List ℕ → List ℕ → Option (List ℕ) → Option ℕ → Option WrittenForm
form_by flags width precision verb =
    option_and_then (λ v. form_if (is_short width && is_precision precision v) flags width precision v) verb

-- the form whose precision, if it has one, stands next
abbrev pub precision_after : List ℕ → List ℕ → List ℕ → Option WrittenForm
precision_after flags width bs =
    if slice_index bs 0 == byte "."
    then verb_after flags width (Some (take_while is_ascii_digit (drop 1 bs))) (after is_ascii_digit (drop 1 bs))
    else verb_after flags width None bs

-- the form whose width, if it has one, stands next
abbrev pub width_after : List ℕ → List ℕ → Option WrittenForm
width_after flags bs = precision_after flags (take_while is_ascii_digit bs) (after is_ascii_digit bs)

-- how many bytes of a segment follow its first
abbrev pub rest_len : Option Segment → ℕ
rest_len o = option_map_or (λ p. length (segment_bytes p) - 1) o 0

-- a segment before those after it
abbrev pub with_segment : Option Segment → Option (List Segment) → Option (List Segment)
with_segment segment after = option_and_then (λ p. option_map (λ ps. p ∷ ps) after) segment

-- the form asked for was read at the front of these bytes, and what stands after it
abbrev pub IsRead : Option WrittenForm → List ℕ → Option (held.Form × Bor (List ℕ)) → Type 0
IsRead asked bytes None = asked ≡ None
IsRead asked bytes (Some read) = (f : WrittenForm) × (asked ≡ Some f) × (form_seen read.0 ≡ form_of f)
    × (bytes ≡ form_bytes f ++ read.1.now)
