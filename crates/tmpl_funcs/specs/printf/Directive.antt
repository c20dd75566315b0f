-- What a form of `printf` prints of a value ("Printing" in the documentation of `fmt`). Which flags
-- a verb takes, and that any other is refused, is this project's own rule.
use Rattle.std.specs.Prelude.{ℕ, ℤ, pos, nat_abs, int_lt, int_le, ◌/◌, ◌%◌, ◌&&◌, ◌||◌, ◌==◌, not, Bool, true, false}
use Rattle.std.specs.Prelude.{List, [], ◌∷◌, codes, find, Option, Some, None, option_map, option_and_then}
use Rattle.std.specs.Prelude.{if◌then◌else◌}
use Rattle.std.specs.List.{flat_map}
use Rattle.std.specs.Char.{encode_utf8}
use Rattle.std.specs.Fmt.{digits, digit_glyph}
use Rattle.std.specs.Str.{byte}
use lib.Utf8.{scalar}
use Rattle.tmpl_values.specs.Value as kind
use Rattle.tmpl_values.specs.Value.{Value}
use Rattle.tmpl_values.specs.Item.{bytes_of}
use Rattle.tmpl_values.specs.Quote.{quote}
use Rattle.tmpl_values.specs.Text.{inner_text, truth_text}
use Rattle.tmpl_funcs.specs.Index.{number_of}
use Rattle.tmpl_funcs.specs.printf.Form.{Form, is_bare}
use Rattle.tmpl_funcs.specs.printf.Pad.{pad, laid_out}
use Rattle.tmpl_funcs.specs.printf.Rune.{truncated_to}

-- the text of a value that is no number, padded, in a form with no flag but `-`
abbrev pub text_form : Form → Option (List ℕ) → Option (List ℕ)
text_form f text = if not (f.plus || (f.zero || f.space)) then option_map (pad f) text else None

-- the sign of a number: `-`, or with the flags `+` and space what these ask for
abbrev pub sign : Form → ℤ → List ℕ
sign f n = if int_lt n (pos 0) then codes "-" else (if f.plus then codes "+" else (if f.space then codes " " else []))

-- a number in a base
abbrev pub number_form : ℕ → Bool → Form → ℤ → List ℕ
number_form base upper f n = laid_out f (sign f n) (digits base upper (nat_abs n))

-- a byte in two digits
abbrev pub hex_pair : Bool → ℕ → List ℕ
hex_pair upper b = digit_glyph upper (b / 16) ∷ digit_glyph upper (b % 16) ∷ []

-- the character of a code; U+FFFD where it is none
abbrev pub char_text : ℤ → List ℕ
char_text n = encode_utf8 (if int_le (pos 0) n && scalar (nat_abs n) then nat_abs n else 65533)

-- what a verb prints of a value in a form; none where it does not take the value or a flag
abbrev pub Prints : Type 0
Prints = Form → Value → Option (List ℕ)

-- `%v`: the text that an operand of `print` has, of a sequence or a mapping with no flag and no width
abbrev pub print_any : Prints
print_any f (kind.sequence vs) = if is_bare f then Some (inner_text (kind.sequence vs)) else None
print_any f (kind.mapping es) = if is_bare f then Some (inner_text (kind.mapping es)) else None
print_any f v = text_form f (Some (inner_text v))

abbrev pub print_number : ℕ → Prints
print_number base f v = option_map (number_form base false f) (number_of v)

-- `%x` and `%X`: the bytes of a text, or a number in base 16
abbrev pub print_hex : Bool → Prints
print_hex upper f (kind.string s) = text_form f (Some (flat_map (hex_pair upper) s))
print_hex upper f v = option_map (number_form 16 upper f) (number_of v)

-- `%t`: a truth value
abbrev pub print_truth : Prints
print_truth f (kind.boolean b) = text_form f (Some (truth_text b))
print_truth f v = None

-- the verbs: the letter of each, and what it prints
abbrev pub verbs : List (ℕ × Prints)
verbs = (byte "v", print_any) ∷ (byte "d", print_number 10) ∷ (byte "o", print_number 8) ∷ (byte "b", print_number 2)
    ∷ (byte "x", print_hex false) ∷ (byte "X", print_hex true)
    ∷ (byte "s", λ f v. text_form f (option_map (truncated_to f.precision) (bytes_of v)))
    ∷ (byte "q", λ f v. text_form f (option_map quote (bytes_of v)))
    ∷ (byte "c", λ f v. text_form f (option_map char_text (number_of v))) ∷ (byte "t", print_truth) ∷ []

-- what the verb of a letter prints, if there is one
abbrev pub printer : ℕ → Option Prints
printer letter = option_map (λ p. p.1) (find (λ p. letter == p.0) verbs)

-- what a form prints of a value
abbrev pub printed_by : Form → Value → Option (List ℕ)
printed_by f v = option_and_then (λ prints. prints f v) (printer f.verb)
