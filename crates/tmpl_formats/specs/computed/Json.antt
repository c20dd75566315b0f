-- The machine for JSON: a control, and what is open.
use Rattle.std.specs.Bool.{then_some}
use Rattle.std.specs.Prelude.{ℕ, Bool, true, false, ◌||◌, ◌&&◌, ◌==◌, nat_lt, nat_le, List, [], ◌∷◌, ◌++◌, Option, Some, None, option_map, if◌then◌else◌}
use Rattle.std.specs.Char.{is_ascii_digit}
use Rattle.std.specs.Option.{option_to_list}
use Rattle.std.specs.Str.{byte}
use Rattle.tmpl_formats.specs.computed.JsonBytes.{is_white, is_short_escape, hex_value}
use Rattle.tmpl_formats.specs.computed.Machine.{mistake}
use Rattle.tmpl_formats.specs.declared.json_text.Action.{Action}
use Rattle.tmpl_formats.specs.declared.json_text.Action.TheVariants as action
use Rattle.tmpl_formats.specs.declared.json_text.Control.{Control}
use Rattle.tmpl_formats.specs.declared.json_text.Control.TheVariants as at
use Rattle.tmpl_formats.specs.declared.json_text.Escape.{Escape}
use Rattle.tmpl_formats.specs.declared.json_text.Escape.TheVariants as escape
use Rattle.tmpl_formats.specs.declared.json_text.Literal.{Literal}
use Rattle.tmpl_formats.specs.declared.json_text.Literal.TheVariants as literal
use Rattle.tmpl_formats.specs.declared.json_text.Number.{Number}
use Rattle.tmpl_formats.specs.declared.json_text.Number.TheVariants as number
use Rattle.tmpl_formats.specs.declared.json_text.Open.{Open}
use Rattle.tmpl_formats.specs.declared.json_text.Open.TheVariants as open_
use Rattle.tmpl_formats.specs.declared.json_text.Role.{Role}
use Rattle.tmpl_formats.specs.declared.json_text.Role.TheVariants as role
use Rattle.tmpl_formats.specs.declared.json_text.Sign.{Sign}
use Rattle.tmpl_formats.specs.declared.json_text.Sign.TheVariants as sign

-- the kind of a byte
abbrev pub sign_of : ℕ → Sign
sign_of b =
    if b == byte " " then sign.Space
    else (if is_white b then sign.White
    else (if nat_lt b 32 then sign.Control
    else (if b == byte "," then sign.Comma
    else (if b == byte ":" then sign.Colon
    else (if b == byte "[" then sign.OpenArray
    else (if b == byte "]" then sign.CloseArray
    else (if b == byte "{" then sign.OpenObject
    else (if b == byte "}" then sign.CloseObject
    else (if b == byte "\"" then sign.Quote
    else (if b == byte "\\" then sign.Backslash
    else (if b == byte "-" then sign.Minus
    else (if b == byte "+" then sign.Plus
    else (if b == byte "." then sign.Dot
    else (if b == byte "0" then sign.Zero
    else (if is_ascii_digit b then sign.Digit
    else (if b == byte "e" || b == byte "E" then sign.Exponent
    else (if b == byte "t" then sign.True
    else (if b == byte "f" then sign.False
    else (if b == byte "n" then sign.Null else sign.Other)))))))))))))))))))

abbrev pub to : Control → Option Action
to q = Some (action.To q)

-- where a value begins
abbrev pub at_value : Sign → Option Action
at_value sign.White = to at.Value
at_value sign.Space = to at.Value
at_value sign.Quote = to (at.Text role.Value)
at_value sign.OpenArray = Some (action.Push open_.Array at.Item)
at_value sign.OpenObject = Some (action.Push open_.Object at.Member)
at_value sign.Minus = to (at.Number number.Minus)
at_value sign.Zero = to (at.Number number.Zero)
at_value sign.Digit = to (at.Number number.Whole)
at_value sign.True = to (at.Literal literal.Rue)
at_value sign.False = to (at.Literal literal.Alse)
at_value sign.Null = to (at.Literal literal.Ull)
at_value _ = None

-- after the opening bracket of an array
abbrev pub at_item : Sign → Option Action
at_item sign.White = to at.Item
at_item sign.Space = to at.Item
at_item sign.CloseArray = Some (action.Pop at.End)
at_item s = at_value s

-- after a comma in an object
abbrev pub at_key : Sign → Option Action
at_key sign.White = to at.Key
at_key sign.Space = to at.Key
at_key sign.Quote = to (at.Text role.Key)
at_key _ = None

-- after the opening brace of an object
abbrev pub at_member : Sign → Option Action
at_member sign.White = to at.Member
at_member sign.Space = to at.Member
at_member sign.Quote = to (at.Text role.Key)
at_member sign.CloseObject = Some (action.Pop at.End)
at_member _ = None

abbrev pub at_colon : Sign → Option Action
at_colon sign.White = to at.Colon
at_colon sign.Space = to at.Colon
at_colon sign.Colon = to at.Value
at_colon _ = None

-- after a value
abbrev pub at_end : Option Open → Sign → Option Action
at_end top sign.White = to at.End
at_end top sign.Space = to at.End
at_end (Some open_.Array) sign.Comma = to at.Value
at_end (Some open_.Object) sign.Comma = to at.Key
at_end (Some open_.Array) sign.CloseArray = Some (action.Pop at.End)
at_end (Some open_.Object) sign.CloseObject = Some (action.Pop at.End)
at_end _ _ = None

-- after the closing quote of a text
abbrev pub closed : Role → Control
closed role.Value = at.End
closed role.Key = at.Colon

abbrev pub at_text : Role → Sign → Option Action
at_text r sign.Control = None
at_text r sign.White = None
at_text r sign.Quote = to (closed r)
at_text r sign.Backslash = to (at.Escape r escape.Backslash)
at_text r _ = to (at.Text r)

-- the next control where a test passes
abbrev pub next : Bool → Control → Option Action
next t q = then_some t (action.To q)

-- in an escape
abbrev pub at_escape : Role → Escape → ℕ → Option Action
at_escape r escape.Backslash b = if b == byte "u" then to (at.Escape r escape.Unit) else next (is_short_escape b) (at.Text r)
at_escape r escape.Unit b = if hex_value b == 13 then to (at.Escape r escape.Surrogate) else next (nat_lt (hex_value b) 16) (at.Escape r escape.Hex3)
at_escape r escape.Surrogate b =
    if nat_lt (hex_value b) 8 then to (at.Escape r escape.Hex2) else next (nat_lt (hex_value b) 12) (at.Escape r escape.High2)
at_escape r escape.Hex3 b = next (nat_lt (hex_value b) 16) (at.Escape r escape.Hex2)
at_escape r escape.Hex2 b = next (nat_lt (hex_value b) 16) (at.Escape r escape.Hex1)
at_escape r escape.Hex1 b = next (nat_lt (hex_value b) 16) (at.Text r)
at_escape r escape.High2 b = next (nat_lt (hex_value b) 16) (at.Escape r escape.High1)
at_escape r escape.High1 b = next (nat_lt (hex_value b) 16) (at.Escape r escape.Pair)
at_escape r escape.Pair b = next (b == byte "\\") (at.Escape r escape.PairUnit)
at_escape r escape.PairUnit b = next (b == byte "u") (at.Escape r escape.Low)
at_escape r escape.Low b = next (hex_value b == 13) (at.Escape r escape.LowSecond)
at_escape r escape.LowSecond b = next (nat_le 12 (hex_value b) && nat_lt (hex_value b) 16) (at.Escape r escape.Hex2)

-- in a literal
abbrev pub at_literal : Literal → ℕ → Option Action
at_literal literal.Rue b = next (b == byte "r") (at.Literal literal.Ue)
at_literal literal.Ue b = next (b == byte "u") (at.Literal literal.E)
at_literal literal.E b = next (b == byte "e") at.End
at_literal literal.Alse b = next (b == byte "a") (at.Literal literal.Lse)
at_literal literal.Lse b = next (b == byte "l") (at.Literal literal.Se)
at_literal literal.Se b = next (b == byte "s") (at.Literal literal.E)
at_literal literal.Ull b = next (b == byte "u") (at.Literal literal.Ll)
at_literal literal.Ll b = next (b == byte "l") (at.Literal literal.L)
at_literal literal.L b = next (b == byte "l") at.End

abbrev pub after_zero : Option Open → Sign → Option Action
after_zero top sign.Dot = to (at.Number number.Point)
after_zero top sign.Exponent = to (at.Number number.Exponent)
after_zero top s = at_end top s

-- where the first digit of a fraction or of an exponent has to come
abbrev pub first_digit : Number → Sign → Option Action
first_digit n sign.Zero = to (at.Number n)
first_digit n sign.Digit = to (at.Number n)
first_digit n _ = None

abbrev pub at_number : Number → Option Open → Sign → Option Action
at_number number.Minus top sign.Zero = to (at.Number number.Zero)
at_number number.Minus top sign.Digit = to (at.Number number.Whole)
at_number number.Minus top _ = None
at_number number.Zero top s = after_zero top s
at_number number.Whole top sign.Zero = to (at.Number number.Whole)
at_number number.Whole top sign.Digit = to (at.Number number.Whole)
at_number number.Whole top s = after_zero top s
at_number number.Point top s = first_digit number.Fraction s
at_number number.Fraction top sign.Zero = to (at.Number number.Fraction)
at_number number.Fraction top sign.Digit = to (at.Number number.Fraction)
at_number number.Fraction top sign.Exponent = to (at.Number number.Exponent)
at_number number.Fraction top s = at_end top s
at_number number.Exponent top sign.Plus = to (at.Number number.Sign)
at_number number.Exponent top sign.Minus = to (at.Number number.Sign)
at_number number.Exponent top s = first_digit number.Power s
at_number number.Sign top s = first_digit number.Power s
at_number number.Power top sign.Zero = to (at.Number number.Power)
at_number number.Power top sign.Digit = to (at.Number number.Power)
at_number number.Power top s = at_end top s

abbrev pub after : Control → Option Open → ℕ → Option Action
after at.Value top b = at_value (sign_of b)
after at.Item top b = at_item (sign_of b)
after at.Member top b = at_member (sign_of b)
after at.Key top b = at_key (sign_of b)
after at.Colon top b = at_colon (sign_of b)
after at.End top b = at_end top (sign_of b)
after (at.Text r) top b = at_text r (sign_of b)
after (at.Escape r e) top b = at_escape r e b
after (at.Literal l) top b = at_literal l b
after (at.Number n) top b = at_number n top (sign_of b)

-- a control, the innermost of what is open, and what is open around it
pub record Config : Type 0 where
  pub control : Control
  pub top : Option Open
  pub below : List Open

abbrev pub head_of : List Open → Option Open
head_of [] = None
head_of (o ∷ os) = Some o

abbrev pub tail_of : List Open → List Open
tail_of [] = []
tail_of (o ∷ os) = os

abbrev pub applied : Option Open → List Open → Action → Config
applied top below (action.To q) = record { control = q; top = top; below = below }
applied top below (action.Push o q) = record { control = q; top = Some o; below = option_to_list top ++ below }
applied top below (action.Pop q) = record { control = q; top = head_of below; below = tail_of below }

-- one step of the machine
abbrev pub step : Config → ℕ → Option Config
step c b = option_map (applied c.top c.below) (after c.control c.top b)

abbrev pub ends_number : Number → Bool
ends_number number.Zero = true
ends_number number.Whole = true
ends_number number.Fraction = true
ends_number number.Power = true
ends_number _ = false

-- whether a value may end there
abbrev pub ends_value : Control → Bool
ends_value at.End = true
ends_value (at.Number n) = ends_number n
ends_value _ = false

abbrev pub is_empty : Option Open → Bool
is_empty None = true
is_empty (Some o) = false

-- whether a text may end there
abbrev pub ends : Config → Bool
ends c = is_empty c.top && ends_value c.control

abbrev pub start : Config
start = record { control = at.Value; top = None; below = [] }

abbrev pub json_mistake : List ℕ → Option ℕ
json_mistake text = mistake step ends start text
