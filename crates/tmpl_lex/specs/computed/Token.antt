-- The token at the front of bytes of an action, computed: the twin of `IsToken`.
use Rattle.std.specs.Prelude.{ℕ, ◌-◌, Bool, true, false, ◌==◌, List, [], ◌∷◌, take, drop, take_while, Option}
use Rattle.std.specs.Prelude.{Some, None, option_map, if◌then◌else◌}
use Rattle.std.specs.Char.{is_ascii_digit}
use Rattle.std.specs.List.{prefix_len}
use Rattle.tmpl_lex.specs.Bytes.{is_space, is_name_byte, is_number_byte}
use Rattle.tmpl_lex.specs.computed.Trim.{has_dashed_delimiter}
use Rattle.tmpl_lex.specs.computed.Quoted.{through, quoted_front}
use Rattle.tmpl_lex.specs.Piece.{Token}
use Rattle.tmpl_lex.specs.declared.piece.TokenKind.{TokenKind}
use Rattle.tmpl_lex.specs.declared.piece.TokenKind.TheVariants.{Space, Word, Number, Field, Dot, Variable, String}
use Rattle.tmpl_lex.specs.declared.piece.TokenKind.TheVariants.{RawString, Character, Declare, Assign, Comma, Pipe}
use Rattle.tmpl_lex.specs.declared.piece.TokenKind.TheVariants.{LeftParenthesis, RightParenthesis}

-- how much is left of so much white space where the rest of a right trim marker stands after it, since its last byte
-- is the marker's then, or where none does
abbrev pub space_before_marker : Bool → ℕ → ℕ
space_before_marker true n = n - 1
space_before_marker false n = n

-- how much white space stands at the front, up to the first other byte or the first right trim marker
abbrev pub space_len : List ℕ → ℕ
space_len bs = space_before_marker (has_dashed_delimiter (drop (prefix_len is_space bs) bs)) (prefix_len is_space bs)

abbrev pub space_run : List ℕ → List ℕ
space_run bs = take (space_len bs) bs

-- the kind of a token, and its bytes after the first
abbrev pub Begun : Type 0
Begun = TokenKind × List ℕ

-- after a `+` or `-`: a digit, and the longest run of bytes of a number
abbrev pub after_sign : List ℕ → Option Begun
after_sign [] = None
after_sign (b ∷ bs) = if is_ascii_digit b then Some (Number, b ∷ take_while is_number_byte bs) else None

-- the longest name at the front, perhaps empty
abbrev pub name_run : List ℕ → List ℕ
name_run bs = take_while is_name_byte bs

-- after a dot: this name, if there is one
abbrev pub after_dot : List ℕ → Begun
after_dot [] = (Dot, [])
after_dot (b ∷ bs) = (Field, b ∷ bs)

-- after a colon: an equals sign, which makes `:=`
abbrev pub after_colon : List ℕ → Option Begun
after_colon [] = None
after_colon (b ∷ bs) = if b == 61 then Some (Declare, 61 ∷ []) else None

-- a token of this kind, where its closing quote was found
abbrev pub of_kind : TokenKind → Option (List ℕ) → Option Begun
of_kind kind o = option_map (λ bs. (kind, bs)) o

-- the token that begins with this byte, which is neither white space nor of a name, where these bytes stand after it
abbrev pub sign_token : ℕ → List ℕ → Option Begun
sign_token b bs =
    if b == 43 then after_sign bs
    else if b == 45 then after_sign bs
    else if b == 46 then Some (after_dot (name_run bs))
    else if b == 36 then Some (Variable, name_run bs)
    else if b == 34 then of_kind String (quoted_front 34 false bs)
    else if b == 96 then of_kind RawString (through 96 bs)
    else if b == 39 then of_kind Character (quoted_front 39 false bs)
    else if b == 58 then after_colon bs
    else if b == 61 then Some (Assign, [])
    else if b == 44 then Some (Comma, [])
    else if b == 124 then Some (Pipe, [])
    else if b == 40 then Some (LeftParenthesis, [])
    else if b == 41 then Some (RightParenthesis, [])
    else None

-- the token that begins with this byte, where these bytes stand after it
abbrev pub front_of_token : ℕ → List ℕ → Option Begun
front_of_token b bs =
    if is_space b then Some (Space, space_run bs)
    else if is_ascii_digit b then Some (Number, take_while is_number_byte bs)
    else if is_name_byte b then Some (Word, name_run bs)
    else sign_token b bs

-- the token with this first byte, if one begins so
abbrev pub token_from : ℕ → Option Begun → Option Token
token_from b None = None
token_from b (Some p) = Some (record { kind = p.0; bytes = b ∷ p.1 })

-- the token at the front of the bytes, if one begins there
abbrev pub front_token : List ℕ → Option Token
front_token [] = None
front_token (b ∷ bs) = token_from b (front_of_token b bs)
