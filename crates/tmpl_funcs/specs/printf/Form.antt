-- The formats of `printf`, which are those of `fmt.Printf` as far as the table of verbs goes: what they consist of, and
-- what a form asks for ("Printing" in the documentation of `fmt`: "Width is specified by an optional decimal number
-- immediately preceding the verb. [..] Precision is specified after the (optional) width by a period followed by a
-- decimal number. [..] A period with no following number specifies a precision of zero"). That any other form is
-- refused is this project's own rule.
use Rattle.std.specs.Prelude.{ℕ, ◌+◌, ◌-◌, ◌*◌, ◌||◌, ◌&&◌, ◌==◌, not, Bool, List, fold, Option, option_map}
use Rattle.std.specs.List.{list_any}
use Rattle.std.specs.Str.{byte}

-- a form as it stands in a format: its flags, the digits of its width, of which there are none where it has no width,
-- the digits of its precision, if it has one, and the letter of its verb
pub record WrittenForm : Type 0 where
  pub flags : List ℕ
  pub width : List ℕ
  pub precision : Option (List ℕ)
  pub verb : ℕ

-- a segment of a format: a run of bytes that stand for themselves, `%%`, or a form
pub data Segment : Type 0 where
  literal : List ℕ → Segment
  percent : Segment
  form : WrittenForm → Segment

-- the byte stands for itself
abbrev pub is_plain : ℕ → Bool
is_plain b = not (b == byte "%")

-- the byte is one of the flags `-`, `+`, `0` and space
abbrev pub is_flag : ℕ → Bool
is_flag b = b == byte "-" || (b == byte "+" || (b == byte "0" || b == byte " "))

-- the number that decimal digits write
abbrev pub number_in : List ℕ → ℕ
number_in ds = fold (λ n d. 10 * n + (d - byte "0")) 0 ds

-- what a form asks for, with the letter of its verb
pub record Form : Type 0 where
  pub minus : Bool
  pub plus : Bool
  pub zero : Bool
  pub space : Bool
  pub width : ℕ
  pub precision : Option ℕ
  pub verb : ℕ

-- a flag may stand more than once, and no width is a width of 0
abbrev pub form_of : WrittenForm → Form
form_of f = record {
  minus = list_any (λ b. b == byte "-") f.flags;
  plus = list_any (λ b. b == byte "+") f.flags;
  zero = list_any (λ b. b == byte "0") f.flags;
  space = list_any (λ b. b == byte " ") f.flags;
  width = number_in f.width;
  precision = option_map number_in f.precision;
  verb = f.verb;
}

-- the form has neither flags nor a width
abbrev pub is_bare : Form → Bool
is_bare f = not (f.plus || (f.zero || f.space)) && (not f.minus && f.width == 0)
