-- The machine for lines of YAML: what each byte does.
use Rattle.std.specs.Prelude.{ℕ, ◌+◌, ◌-◌, ◌*◌, ◌^◌, Bool, true, false, not, ◌||◌, ◌&&◌, ◌==◌, nat_lt, nat_le, List, length, Option, Some, None, option_and_then, if◌then◌else◌}
use Rattle.std.specs.Str.{byte}
use Rattle.tmpl_formats.specs.Yaml.{is_flow, takes_values, takes_keys, parent_of, after_key}
use Rattle.tmpl_formats.specs.YamlScalar.{is_start, may_follow, is_sign, is_escape, digits_after, is_character}
use Rattle.tmpl_formats.specs.Hex.{hex_value}
use Rattle.tmpl_formats.specs.computed.YamlScalar.{starts_well, is_scalar, is_spaced_scalar, is_name}
use Rattle.tmpl_formats.specs.declared.yaml_nest.Bracket.TheVariants as bracket
use Rattle.tmpl_formats.specs.declared.yaml_nest.Event.{Event}
use Rattle.tmpl_formats.specs.declared.yaml_nest.Event.TheVariants as event
use Rattle.tmpl_formats.specs.declared.yaml_nest.Token.{Token}
use Rattle.tmpl_formats.specs.declared.yaml_nest.Token.TheVariants as token
use Rattle.tmpl_formats.specs.declared.yaml_line.Control.{Control}
use Rattle.tmpl_formats.specs.declared.yaml_line.Control.TheVariants as at
use Rattle.tmpl_formats.specs.declared.yaml_line.Move.{Move}
use Rattle.tmpl_formats.specs.declared.yaml_line.Place.{Place}
use Rattle.tmpl_formats.specs.declared.yaml_line.Place.TheVariants as place
use Rattle.tmpl_formats.specs.declared.yaml_line.Sign.{Sign}
use Rattle.tmpl_formats.specs.declared.yaml_line.Sign.TheVariants as sign
use Rattle.tmpl_formats.specs.declared.yaml_line.Spot.{Spot}
use Rattle.tmpl_formats.specs.declared.yaml_line.Write.{Write}
use Rattle.tmpl_formats.specs.declared.yaml_line.Write.TheVariants as writes

-- the kind of a byte
abbrev pub sign_of : ℕ → Sign
sign_of b =
    if b == byte "\n" then sign.Newline
    else (if b == byte " " then sign.Space
    else (if b == byte "#" then sign.Hash
    else (if b == byte "-" then sign.Dash
    else (if b == byte ":" then sign.Colon
    else (if b == byte "," then sign.Comma
    else (if b == byte "\"" then sign.Double
    else (if b == byte "'" then sign.Single
    else (if b == byte "|" || b == byte ">" then sign.Mark
    else (if b == byte "[" then sign.Open bracket.List
    else (if b == byte "{" then sign.Open bracket.Map
    else (if b == byte "]" then sign.Close bracket.List
    else (if b == byte "}" then sign.Close bracket.Map
    else (if b == byte "+" || b == byte "." then sign.Lead else (if is_start b then sign.Start else sign.Other))))))))))))))

abbrev pub spot_at : Place → ℕ → Spot
spot_at p c = record { place = p; column = c }

abbrev pub move_to : Control → Write → Event → Option Move
move_to q w e = Some (record { control = q; write = w; event = e })

abbrev pub to : Control → Event → Option Move
to q e = move_to q writes.Keep e

abbrev pub next_column : ℕ → Option ℕ
next_column c = if nat_lt (c + 1) (2 ^ 64) then Some (c + 1) else None

abbrev pub next_spot : Place → ℕ → Event → Option Move
next_spot p c e = option_and_then (λ d. to (at.At (spot_at p d)) e) (next_column c)

abbrev pub next_line : Place → Event → Option Move
next_line p e = if is_flow p then None else to (at.At (spot_at place.Line 0)) e

-- a space or the end of a line
abbrev pub at_gap : Place → ℕ → Sign → Event → Option Move
at_gap p c sign.Space e = next_spot p c e
at_gap p c sign.Newline e = next_line p e
at_gap p c _ e = None

abbrev pub at_next_gap : Place → ℕ → Sign → Event → Option Move
at_next_gap p c s e = option_and_then (λ d. at_gap p d s e) (next_column c)

abbrev pub begin : Place → ℕ → Event
begin place.Flow c = event.Enter
begin _ c = event.Begin c

abbrev pub lead : Place → ℕ → Event
lead place.Flow c = event.Enter
lead place.Line c = if c == 0 then event.Nothing else event.Dash c
lead _ c = event.Dash c

abbrev pub at_mark : Spot → Option Move
at_mark x = option_and_then (λ parent. to (at.Header parent) (event.One (token.Scalar x.column))) (parent_of x.place)

-- where a key or a value begins
abbrev pub at_node : Spot → Sign → ℕ → Option Move
at_node x sign.Dash b = to (at.Dash x) (lead x.place x.column)
at_node x sign.Start b = move_to (at.Plain x) (writes.Start b) (begin x.place x.column)
at_node x sign.Lead b = move_to (at.Plain x) (writes.Start b) (begin x.place x.column)
at_node x sign.Double b = to (at.Double x) (begin x.place x.column)
at_node x sign.Single b = to (at.Single x) (begin x.place x.column)
at_node x sign.Mark b = at_mark x
at_node x (sign.Open k) b = to (at.At (spot_at place.Flow 0)) (event.One (token.Open k x.column))
at_node x _ b = None

abbrev pub at_flow : ℕ → Sign → ℕ → Option Move
at_flow c sign.Space b = next_spot place.Flow c event.Nothing
at_flow c sign.Comma b = to (at.At (spot_at place.Flow 0)) (event.One token.Comma)
at_flow c (sign.Close k) b = to at.Closed (event.One (token.Close k))
at_flow c s b = at_node (spot_at place.Flow c) s b

abbrev pub on_line : Spot → Sign → ℕ → Option Move
on_line x sign.Space b = at_gap x.place x.column sign.Space event.Nothing
on_line x sign.Newline b = at_gap x.place x.column sign.Newline event.Nothing
on_line x sign.Hash b = to at.Comment event.Nothing
on_line x s b = if takes_values x.place then at_node x s b else None

abbrev pub at_place_in : Place → Spot → Sign → ℕ → Option Move
at_place_in place.Flow x s b = at_flow x.column s b
at_place_in _ x s b = on_line x s b

abbrev pub at_place : Spot → Sign → ℕ → Option Move
at_place x s b = at_place_in x.place x s b

abbrev pub after_flow_scalar : Token → Sign → Option Move
after_flow_scalar t sign.Space = next_spot place.Flow 0 (event.One t)
after_flow_scalar t sign.Comma = to (at.At (spot_at place.Flow 0)) (event.Two t token.Comma)
after_flow_scalar t (sign.Close k) = to at.Closed (event.Two t (token.Close k))
after_flow_scalar t _ = None

abbrev pub after_scalar : Place → ℕ → Sign → Option Move
after_scalar place.Flow c s = after_flow_scalar (token.Scalar c) s
after_scalar _ c s = at_gap place.End 0 s (event.One (token.Scalar c))

abbrev pub value_if : Bool → Spot → Sign → Option Move
value_if t x s = if t && takes_values x.place then after_scalar x.place x.column s else None

abbrev pub key_if : Bool → Spot → Sign → Option Move
key_if t x s = if t && takes_keys x.place then at_next_gap (after_key x.place x.column) x.column s (event.One (token.Key x.column)) else None

abbrev pub item_if : Spot → Sign → Option Move
item_if x s =
    if takes_keys x.place && not (is_flow x.place) then at_next_gap (place.Item x.column) x.column s (event.Item x.column) else None

abbrev pub is_margin : Place → ℕ → Bool
is_margin place.Line c = c == 0
is_margin _ c = false

abbrev pub after_dash : Spot → Sign → ℕ → Option Move
after_dash x sign.Space b = item_if x sign.Space
after_dash x sign.Newline b = item_if x sign.Newline
after_dash x sign.Dash b = if is_margin x.place x.column then to at.Dashes event.Nothing else move_to (at.Plain x) (writes.Dash b) (begin x.place x.column)
after_dash x sign.Start b = move_to (at.Plain x) (writes.Dash b) (begin x.place x.column)
after_dash x _ b = None

abbrev pub after_dashes : Sign → ℕ → Option Move
after_dashes sign.Dash b = to at.Closed (event.One token.Marker)
after_dashes sign.Start b = move_to (at.Plain (spot_at place.Line 0)) (writes.Dashes b) (event.Begin 0)
after_dashes _ b = None

abbrev pub after_closed : Bool → Sign → ℕ → Option Move
after_closed in_brackets s b = if in_brackets then at_flow 0 s b else at_gap place.End 0 s event.Nothing

abbrev pub in_comment : Sign → Option Move
in_comment sign.Newline = to (at.At (spot_at place.Line 0)) event.Nothing
in_comment _ = to at.Comment event.Nothing

-- plain scalars
abbrev pub more_plain : Spot → ℕ → Option Move
more_plain x b = if may_follow (is_flow x.place) 0 b then move_to (at.Plain x) (writes.Add b) event.Nothing else None

abbrev pub ends_entry : Sign → Bool
ends_entry sign.Comma = true
ends_entry (sign.Close k) = true
ends_entry _ = false

abbrev pub after_plain : Spot → List ℕ → Sign → ℕ → Option Move
after_plain x text sign.Newline b = value_if (is_scalar (is_flow x.place) text (length text)) x sign.Newline
after_plain x text sign.Colon b = move_to (at.PlainColon x (length text)) (writes.Add b) event.Nothing
after_plain x text sign.Space b = move_to (at.PlainSpace x (length text)) (writes.Add b) event.Nothing
after_plain x text s b = if is_flow x.place && ends_entry s then value_if (is_scalar (is_flow x.place) text (length text)) x s else more_plain x b

abbrev pub after_colon : Spot → List ℕ → ℕ → Sign → ℕ → Option Move
after_colon x text end sign.Space b = key_if (is_name (is_flow x.place) text end) x sign.Space
after_colon x text end sign.Newline b = key_if (is_name (is_flow x.place) text end) x sign.Newline
after_colon x text end sign.Colon b = move_to (at.PlainColon x (length text)) (writes.Add b) event.Nothing
after_colon x text end s b = more_plain x b

abbrev pub comment_if : Bool → Spot → Option Move
comment_if t x = if t && takes_values x.place && not (is_flow x.place) then to at.Comment (event.One (token.Scalar x.column)) else None

abbrev pub after_space : Spot → List ℕ → ℕ → Sign → ℕ → Option Move
after_space x text end sign.Space b = move_to (at.PlainSpace x end) (writes.Add b) event.Nothing
after_space x text end sign.Newline b = value_if (is_spaced_scalar (is_flow x.place) text end) x sign.Newline
after_space x text end sign.Hash b = comment_if (is_spaced_scalar (is_flow x.place) text end) x
after_space x text end sign.Colon b = None
after_space x text end s b = if is_flow x.place && ends_entry s then value_if (is_spaced_scalar (is_flow x.place) text end) x s else more_plain x b

-- quoted scalars
abbrev pub in_double : Spot → ℕ → Option Move
in_double x b =
    if b == byte "\"" then to (at.Quoted x) event.Nothing
    else (if b == byte "\\" then to (at.Escape x) event.Nothing else (if b == byte "\n" then None else to (at.Double x) event.Nothing))

abbrev pub in_escape : Spot → ℕ → Option Move
in_escape x b =
    if is_escape b then to (at.Double x) event.Nothing
    else (if nat_lt 0 (digits_after b) then to (at.Code x (digits_after b) 0) event.Nothing else None)

abbrev pub after_digit : Spot → ℕ → ℕ → Option Move
after_digit x left code =
    if nat_lt 1 left then to (at.Code x (left - 1) code) event.Nothing
    else (if (left == 1) && is_character code then to (at.Double x) event.Nothing else None)

abbrev pub in_code : Spot → ℕ → ℕ → ℕ → Option Move
in_code x left code b =
    if nat_lt (hex_value b) 16 && nat_lt (code * 16 + hex_value b) 0x110000 then after_digit x left (code * 16 + hex_value b) else None

abbrev pub in_single : Spot → Sign → Option Move
in_single x sign.Single = to (at.Quote x) event.Nothing
in_single x sign.Newline = None
in_single x _ = to (at.Single x) event.Nothing

abbrev pub at_quoted_colon_in : Place → Spot → Option Move
at_quoted_colon_in place.Flow x = next_spot place.Flow x.column (event.One (token.Key x.column))
at_quoted_colon_in _ x = if takes_keys x.place then to (at.QuotedColon x) event.Nothing else None

abbrev pub at_quoted_colon : Spot → Option Move
at_quoted_colon x = at_quoted_colon_in x.place x

abbrev pub after_quoted : Spot → Sign → Option Move
after_quoted x sign.Colon = at_quoted_colon x
after_quoted x s = value_if true x s

abbrev pub after_quote : Spot → Sign → Option Move
after_quote x sign.Single = to (at.Single x) event.Nothing
after_quote x s = after_quoted x s

-- block scalars
abbrev pub at_header_end : ℕ → Sign → Option Move
at_header_end parent sign.Space = to (at.HeaderEnd parent) event.Nothing
at_header_end parent sign.Newline = to (at.Block parent 0) event.Nothing
at_header_end parent _ = None

abbrev pub at_header : ℕ → Sign → ℕ → Option Move
at_header parent s b = if is_sign b then to (at.HeaderEnd parent) event.Nothing else at_header_end parent s

abbrev pub in_block : ℕ → ℕ → Sign → ℕ → Option Move
in_block parent c sign.Newline b = if (c == 0) || nat_le (c - 1) parent then to (at.Block parent 0) event.Nothing else None
in_block parent c sign.Space b = option_and_then (λ d. to (at.Block parent d) event.Nothing) (next_column c)
in_block parent c s b =
    if nat_le c parent then at_place (spot_at place.Line c) s b else (if b == byte "\t" then None else to (at.Text parent c) event.Nothing)

abbrev pub before_indent : ℕ → ℕ → ℕ → Sign → ℕ → Option Move
before_indent parent own c sign.Space b = option_and_then (λ d. to (at.Indent parent own d) event.Nothing) (next_column c)
before_indent parent own c s b = if nat_le c parent then at_place (spot_at place.Line c) s b else None

abbrev pub in_indent : ℕ → ℕ → ℕ → Sign → ℕ → Option Move
in_indent parent own c sign.Newline b = to (at.Indent parent own 0) event.Nothing
in_indent parent own c s b = if c == own then to (at.Text parent own) event.Nothing else before_indent parent own c s b

abbrev pub in_text : ℕ → ℕ → Sign → Option Move
in_text parent own sign.Newline = to (at.Indent parent own 0) event.Nothing
in_text parent own _ = to (at.Text parent own) event.Nothing

-- what a byte does
abbrev pub move_of : Control → List ℕ → Bool → ℕ → Option Move
move_of (at.At x) text in_brackets b = at_place x (sign_of b) b
move_of (at.Dash x) text in_brackets b = after_dash x (sign_of b) b
move_of at.Dashes text in_brackets b = after_dashes (sign_of b) b
move_of at.Closed text in_brackets b = after_closed in_brackets (sign_of b) b
move_of at.Comment text in_brackets b = in_comment (sign_of b)
move_of (at.Plain x) text in_brackets b = if starts_well text b then after_plain x text (sign_of b) b else None
move_of (at.PlainColon x end) text in_brackets b = after_colon x text end (sign_of b) b
move_of (at.PlainSpace x end) text in_brackets b = after_space x text end (sign_of b) b
move_of (at.Double x) text in_brackets b = in_double x b
move_of (at.Escape x) text in_brackets b = in_escape x b
move_of (at.Code x left code) text in_brackets b = in_code x left code b
move_of (at.Single x) text in_brackets b = in_single x (sign_of b)
move_of (at.Quote x) text in_brackets b = after_quote x (sign_of b)
move_of (at.Quoted x) text in_brackets b = after_quoted x (sign_of b)
move_of (at.QuotedColon x) text in_brackets b = key_if true x (sign_of b)
move_of (at.Header parent) text in_brackets b = at_header parent (sign_of b) b
move_of (at.HeaderEnd parent) text in_brackets b = at_header_end parent (sign_of b)
move_of (at.Block parent c) text in_brackets b = in_block parent c (sign_of b) b
move_of (at.Indent parent own c) text in_brackets b = in_indent parent own c (sign_of b) b
move_of (at.Text parent own) text in_brackets b = in_text parent own (sign_of b)
