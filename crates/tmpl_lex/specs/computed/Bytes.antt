-- Where two bytes first follow one another.
use Rattle.std.specs.Prelude.{ℕ, Bool, true, false, ◌&&◌, ◌==◌, List, [], ◌∷◌, ◌++◌, take, drop, Option, Some, None}

-- what stands before and after a place, after one byte more
abbrev pub with_first : ℕ → Option (List ℕ × List ℕ) → Option (List ℕ × List ℕ)
with_first b None = None
with_first b (Some p) = Some (b ∷ p.0, p.1)

-- what stands before and after a place, which is here, or further on
abbrev pub split_here : Bool → ℕ → List ℕ → Option (List ℕ × List ℕ) → Option (List ℕ × List ℕ)
split_here true a bs further = Some ([], drop 1 bs)
split_here false a bs further = with_first a further

-- what stands before the first place where these two bytes follow one another, and what stands after them
abbrev pub split_pair : ℕ → ℕ → List ℕ → Option (List ℕ × List ℕ)
split_pair x y (a ∷ b ∷ bs) = split_here (a == x && b == y) a (b ∷ bs) (split_pair x y (b ∷ bs))
split_pair x y _ = None

-- a place further on, with more bytes before it
abbrev pub beyond : List ℕ → Option (List ℕ × List ℕ) → Option (List ℕ × List ℕ)
beyond front None = None
beyond front (Some p) = Some (front ++ p.0, p.1)

-- what stands before and after the first such pair of bytes from this place on
abbrev pub split_from : ℕ → ℕ → ℕ → List ℕ → Option (List ℕ × List ℕ)
split_from x y i bs = beyond (take i bs) (split_pair x y (drop i bs))
