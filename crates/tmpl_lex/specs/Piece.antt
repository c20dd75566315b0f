-- What a template file is cut into.
use Rattle.std.specs.Prelude.{ℕ, List}
use Rattle.tmpl_lex.specs.declared.piece.TokenKind.{TokenKind}

-- a token: its kind and its bytes
pub record Token : Type 0 where
  pub kind : TokenKind
  pub bytes : List ℕ

-- a piece, with its line
pub data Piece : Type 0 where
  text : ℕ → List ℕ → Piece
  action : ℕ → List Token → Piece
  unreadable : ℕ → Piece
