-- The laws of the cut and of tokens.
use Rattle.std.specs.Prelude.{◌≡◌, ℕ, false, List, ◌++◌, None, Some}
use Rattle.tmpl_lex.specs.Cut.{Cuts}
use Rattle.tmpl_lex.specs.Piece.{Token, Piece}
use Rattle.tmpl_lex.specs.Token.{IsToken}
use Rattle.tmpl_lex.specs.computed.Cut.{cut_of}
use Rattle.tmpl_lex.specs.computed.Token.{front_token}
use Rattle.tmpl_lex.specs.computed.Trim.{right_delimiter}

-- the pieces that `cut_of` computes are a cut of the file
abbrev pub HasCut : List ℕ → Type 0
HasCut file = Cuts false 1 file (cut_of file)

-- and no other pieces are
abbrev pub HasNoOtherCut : List ℕ → Type 0
HasNoOtherCut file = (pieces : List Piece) → Cuts false 1 file pieces → pieces ≡ cut_of file

-- no end of an action begins with the bytes, and this token is computed at their front
pub record IsFound (bs : List ℕ) (t : Token) : Type 0 where
  pub no_end : right_delimiter bs ≡ None
  pub front : front_token bs ≡ Some t

-- the bytes begin with this token
pub record BeginsWith (bs : List ℕ) (t : Token) : Type 0 where
  pub rest : List ℕ
  pub stands : IsToken t.kind t.bytes rest
  pub is : bs ≡ t.bytes ++ rest

-- a token that stands at the front of bytes is found there
abbrev pub FindsToken : Type 0
FindsToken = (bs : List ℕ) (t : Token) → BeginsWith bs t → IsFound bs t

-- and one that is found stands there
abbrev pub StandsWhereFound : Type 0
StandsWhereFound = (bs : List ℕ) (t : Token) → IsFound bs t → BeginsWith bs t

-- bytes begin with one token at most
abbrev pub OneToken : Type 0
OneToken = (bs : List ℕ) (t u : Token) → BeginsWith bs t → BeginsWith bs u → t ≡ u
