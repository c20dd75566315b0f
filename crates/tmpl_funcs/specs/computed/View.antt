-- What the forms of the code stand for.
use Rattle.std.specs.Prelude.{ℕ}
use Rattle.std.specs.Str.{byte}
use Rattle.tmpl_funcs.specs.printf.Form.{Form}
use Rattle.tmpl_funcs.specs.declared.printf.form.Form as held
use Rattle.tmpl_funcs.specs.declared.printf.form.Verb.{Verb}
use Rattle.tmpl_funcs.specs.declared.printf.form.Verb.TheVariants as verb

-- the letter of a verb
abbrev pub letter_of : Verb → ℕ
letter_of verb.Value = byte "v"
letter_of verb.Decimal = byte "d"
letter_of verb.Octal = byte "o"
letter_of verb.Binary = byte "b"
letter_of verb.Hex = byte "x"
letter_of verb.UpperHex = byte "X"
letter_of verb.Text = byte "s"
letter_of verb.Quoted = byte "q"
letter_of verb.Char = byte "c"
letter_of verb.Truth = byte "t"

-- what a form asks for
abbrev pub form_seen : held.Form → Form
form_seen f = record {
  minus = f.minus;
  plus = f.plus;
  zero = f.zero;
  space = f.space;
  width = f.width;
  precision = f.precision;
  verb = letter_of f.verb;
}
