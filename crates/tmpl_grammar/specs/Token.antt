-- Tokens of one action, and runs of them.
use Rattle.std.specs.Prelude.{ℕ, Bool, false, not, List, [], ◌∷◌, drop}
use Rattle.std.specs.Char.{is_ascii_digit}
use Rattle.tmpl_lex.specs.declared.piece.TokenKind.{TokenKind}
use Rattle.tmpl_lex.specs.Piece.{Token}

-- a token of this kind and these bytes
abbrev pub token : TokenKind → List ℕ → Token
token k bs = record { kind = k; bytes = bs }

-- the name in a field or a variable, after its first byte
abbrev pub name_in : Token → List ℕ
name_in t = drop 1 t.bytes

-- a name of a field has a first byte, which is no digit
abbrev pub begins_name : List ℕ → Bool
begins_name [] = false
begins_name (b ∷ bs) = not (is_ascii_digit b)
