-- Where the texts of a file stand in it.
use Rattle.std.specs.Prelude.{◌≡◌, ℕ, List, ◌++◌, length}
use Rattle.tmpl_lex.specs.declared.piece.Piece as declared_piece
use Rattle.tmpl_lex.specs.declared.piece.Piece.TheVariants as variant

-- these bytes stand in the file, with this many bytes before them
pub record StandsAt (file : List ℕ) (start : ℕ) (bytes : List ℕ) : Type 0 where
  pub before : List ℕ
  pub after : List ℕ
  pub parts : file ≡ before ++ bytes ++ after
  pub count : length before ≡ start

-- the file ends with this rest
pub record EndsWith (file rest : List ℕ) : Type 0 where
  pub front : List ℕ
  pub is : file ≡ front ++ rest

-- the bytes of a text stand at its start
abbrev pub IsPlaced : List ℕ → declared_piece.Piece → Type 0
IsPlaced file (variant.Text line start bytes) = StandsAt file start bytes.now
IsPlaced file (variant.Action line tokens) = Unit {0}
IsPlaced file (variant.Unreadable line) = Unit {0}
