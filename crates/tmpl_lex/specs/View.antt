-- What Rust values stand for: pieces and tokens, which borrow the bytes of a file.
use Rattle.std.specs.Prelude.{map}
use Rattle.tmpl_lex.specs.declared.piece.Token as declared_token
use Rattle.tmpl_lex.specs.declared.piece.Piece as declared_piece
use Rattle.tmpl_lex.specs.declared.piece.Piece.TheVariants as variant
use Rattle.tmpl_lex.specs.Piece.{Token, Piece, text, action, unreadable}

-- a token
abbrev pub token_of : declared_token.Token → Token
token_of t = record { kind = t.kind; bytes = t.bytes.now }

-- a piece
abbrev pub piece_of : declared_piece.Piece → Piece
piece_of (variant.Text line start bytes) = text line bytes.now
piece_of (variant.Action line tokens) = action line (map token_of tokens.items)
piece_of (variant.Unreadable line) = unreadable line
