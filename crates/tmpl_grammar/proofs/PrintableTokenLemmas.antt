-- For what can be printed: the tokens of a file have bytes that are bytes, and names that are names.
use Rattle.std.proofs.Common.{ℕ, zero, suc, List, [], ◌∷◌, ◌++◌, drop}
use Rattle.tmpl_values.specs.Bytes.{AreBytes}
use Rattle.tmpl_lex.proofs.NameLemmas.{OfKind}
use Rattle.tmpl_lex.specs.Piece.{Token}

pub bytes-front : (xs ys : List ℕ) → AreBytes (xs ++ ys) → AreBytes xs × AreBytes ys
bytes-front [] ys h = (tt, h)
bytes-front (x ∷ xs) ys h = let more = bytes-front xs ys h.1 in ((h.0, more.0), more.1)

pub bytes-drop : (n : ℕ) (xs : List ℕ) → AreBytes xs → AreBytes (drop n xs)
bytes-drop zero xs h = h
bytes-drop (suc n) [] h = tt
bytes-drop (suc n) (x ∷ xs) h = bytes-drop n xs h.1

-- a token that was read
pub record IsRead (t : Token) : Type 0 where
  pub names : OfKind t.kind (drop 1 t.bytes)
  pub bytes : AreBytes t.bytes

abbrev pub AreRead : List Token → Type 0
AreRead [] = Unit {0}
AreRead (t ∷ ts) = IsRead t × AreRead ts
