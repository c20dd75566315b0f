-- What stands after an opening quote, up to its closing one, computed.
use Rattle.std.specs.Prelude.{ℕ, Bool, true, false, ◌&&◌, not, ◌==◌, List, [], ◌∷◌, Option, Some, None}

-- what was found, after one byte more
abbrev pub with_byte : ℕ → Option (List ℕ) → Option (List ℕ)
with_byte b None = None
with_byte b (Some bs) = Some (b ∷ bs)

-- up to this byte, if it is the last, and else up to where the bytes after it go
abbrev pub up_to : Bool → ℕ → Option (List ℕ) → Option (List ℕ)
up_to true b further = Some (b ∷ [])
up_to false b further = with_byte b further

-- what was found, but nothing where the test holds
abbrev pub unless : Bool → Option (List ℕ) → Option (List ℕ)
unless true o = None
unless false o = o

-- the bytes up to and with the next such byte
abbrev pub through : ℕ → List ℕ → Option (List ℕ)
through q [] = None
through q (b ∷ bs) = up_to (b == q) b (through q bs)

-- the bytes up to and with the next such quote that no backslash escapes, with no newline among them; `escaped` says
-- that a backslash stands before them that escapes the first
abbrev pub quoted_front : ℕ → Bool → List ℕ → Option (List ℕ)
quoted_front q escaped [] = None
quoted_front q escaped (b ∷ bs) =
    unless (b == 10) (up_to (b == q && not escaped) b (quoted_front q (b == 92 && not escaped) bs))
