-- The constant of a token, computed: the twin of `IsConstant`.
use Rattle.std.specs.Prelude.{ℕ, pos, List, Option, None, option_map, option_and_then}
use Rattle.tmpl_lex.specs.Piece.{Token}
use Rattle.tmpl_lex.specs.declared.piece.TokenKind.{TokenKind}
use Rattle.tmpl_lex.specs.declared.piece.TokenKind.TheVariants as kind
use Rattle.tmpl_grammar.specs.Tree.{Operand, number_constant, text_constant}
use Rattle.tmpl_grammar.specs.computed.Integer.{integer}
use Rattle.tmpl_grammar.specs.computed.Quoted.{between, unquoted_text, rune_code, without_returns}

-- the text between the quotes of a string, and of a raw string, and the code between those of a character
abbrev pub string_in : List ℕ → Option Operand
string_in bs = option_map text_constant (unquoted_text 34 bs)

abbrev pub raw_string_in : List ℕ → Operand
raw_string_in bs = text_constant (without_returns bs)

abbrev pub character_in : List ℕ → Option Operand
character_in bs = option_map (λ n. number_constant (pos n)) (rune_code 39 bs)

-- the constant of a token of this kind
abbrev pub constant_by : TokenKind → List ℕ → Option Operand
constant_by kind.Number bs = option_map number_constant (integer bs)
constant_by kind.String bs = option_and_then string_in (between 34 bs)
constant_by kind.RawString bs = option_map raw_string_in (between 96 bs)
constant_by kind.Character bs = option_and_then character_in (between 39 bs)
constant_by k bs = None

-- the constant of a token, if it is one
unfoldable pub constant_of : Token → Option Operand
constant_of t = constant_by t.kind t.bytes
