-- What is left of a text of lines.
use Rattle.std.proofs.Common.{ℕ, List, [], ◌∷◌, ◌++◌}
use Rattle.std.specs.Prelude.{codes}
use Rattle.tmpl_formats.specs.Lines.{Lines, last, more}

-- what is left of a line, and the lines after it
pub data Left (IsLine IsRest : List ℕ → Type 0) : List ℕ → Type 0 where
  at_last : {rest : List ℕ} → IsRest rest → Left IsLine IsRest rest
  before_more : (rest others : List ℕ) → IsRest rest → Lines IsLine others → Left IsLine IsRest (rest ++ codes "\n" ++ others)

-- a byte more
pub left-cons : {IsLine P Q : List ℕ → Type 0} (b : ℕ) (text : List ℕ) → ((bs : List ℕ) → P bs → Q (b ∷ bs)) → Left IsLine P text → Left IsLine Q (b ∷ text)
left-cons b _ f (at_last {rest} p) = at_last (f rest p)
left-cons b _ f (before_more rest others p ls) = before_more (b ∷ rest) others (f rest p) ls

-- all lines are left
pub lines-left : {IsLine : List ℕ → Type 0} (text : List ℕ) → Left IsLine IsLine text → Lines IsLine text
lines-left _ (at_last p) = last p
lines-left _ (before_more rest others p ls) = more rest others p ls

-- a line ends
pub left-newline : {IsLine P : List ℕ → Type 0} (text : List ℕ) → P [] → Left IsLine IsLine text → Left IsLine P (10 ∷ text)
left-newline text p rest = before_more [] text p (lines-left text rest)
