-- The cut of a file, computed: the twin of `Cuts`.
use Rattle.std.specs.Prelude.{ℕ, zero, suc, ◌+◌, false, List, [], ◌++◌, length, Option, Some, None}
use Rattle.tmpl_lex.specs.Piece.{Piece}
use Rattle.tmpl_lex.specs.computed.Part.{Rest, part_of}

-- the pieces of a part, and those of the rest after it, if there is one
abbrev pub with_rest : List Piece → Option Rest → (Rest → List Piece) → List Piece
with_rest ps None further = ps
with_rest ps (Some rest) further = ps ++ further rest

-- the pieces of a rest of fewer bytes than this number
unfoldable pub cut_within : ℕ → Rest → List Piece
cut_within zero rest = []
cut_within (suc n) rest = with_rest (part_of rest).0 (part_of rest).1 (cut_within n)

-- the pieces of a file: the one list that it is cut into
unfoldable pub cut_of : List ℕ → List Piece
cut_of bs = cut_within (length bs + 1) (record { trims = false; line = 1; bytes = bs })
